-- Values by transaction id as callers see them.
use Rattle.std.{specs.Prelude.{ℕ, List, T}, specs.Ordering.nat_cmp, specs.declared.cmp.Ordering.Ordering, specs.Cmp.Lexicographic.slice_cmp, specs.FinMap.is_sorted}

-- The order of transaction ids: by their bytes.
abbrev pub id_cmp : List ℕ → List ℕ → Ordering
id_cmp = slice_cmp nat_cmp

-- The values by rising id, and how many there may be.
pub record Mapped (X : Type 0) : Type 0 where
  pub rows : List (List ℕ × X)
  pub capacity : ℕ

module _ {X : Type 0} where
  -- The ids rise strictly.
  abbrev pub AreRising : List (List ℕ × X) → Type 0
  AreRising rows = T (is_sorted id_cmp rows)
