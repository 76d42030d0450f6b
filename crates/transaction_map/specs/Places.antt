-- Where an id is, or belongs, among rows.
use Rattle.std.{specs.Prelude.{◌≡◌, ℕ, zero, suc, List, [], ◌∷◌}, specs.declared.cmp.Ordering.TheVariants.{Less, Equal, Greater}}
use Rattle.transaction_map.specs.Map.{id_cmp}

module _ {X : Type 0} where
  -- The id is at this place, and all before it are smaller.
  abbrev pub IsAt : List ℕ → List (List ℕ × X) → ℕ → Type 0
  IsAt key [] i = ⊥
  IsAt key (e ∷ es) zero = id_cmp key e.0 ≡ Equal
  IsAt key (e ∷ es) (suc i) = (id_cmp key e.0 ≡ Greater) × IsAt key es i

  -- The id belongs at this place: all before it are smaller, and the next one is greater.
  abbrev pub IsGap : List ℕ → List (List ℕ × X) → ℕ → Type 0
  IsGap key [] i = i ≡ 0
  IsGap key (e ∷ es) zero = id_cmp key e.0 ≡ Less
  IsGap key (e ∷ es) (suc i) = (id_cmp key e.0 ≡ Greater) × IsGap key es i
