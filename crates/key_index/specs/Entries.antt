-- Lists by rising keys: numbers, each with what is filed under it.
use Rattle.std.{specs.Prelude.{ℕ, ◌<◌, List, [], ◌∷◌, Option, Some, None, length, nat_lt, nat_eq, if◌then◌else◌, slice_get, ◌-◌}, specs.Coded.{×_prop, Unit-prop, le_prop}}
use Rattle.key_index.specs.declared.filed.Filed.{Filed}

-- An entry of an index: the rank of a key, and what is filed under it.
abbrev pub Entry : Type 0 → Type 0
Entry V = ℕ × Filed V

module _ {X : Type 0} where
  -- The entries in front, up to the first that is not before the key.
  abbrev pub below : ℕ → List (ℕ × X) → List (ℕ × X)
  below key [] = []
  below key (e ∷ es) = if nat_lt e.0 key then e ∷ below key es else []

  -- The entries from the first one on that is not before the key.
  abbrev pub from : ℕ → List (ℕ × X) → List (ℕ × X)
  from key [] = []
  from key (e ∷ es) = if nat_lt e.0 key then from key es else e ∷ es

  -- What is filed under the first entry, if that has the key.
  abbrev pub filed_at : ℕ → List (ℕ × X) → Option X
  filed_at key [] = None
  filed_at key (e ∷ es) = if nat_eq e.0 key then Some e.1 else None

  -- The first entry.
  abbrev pub first_of : List (ℕ × X) → Option (ℕ × X)
  first_of es = slice_get es 0

  -- The last entry.
  abbrev pub last_of : List (ℕ × X) → Option (ℕ × X)
  last_of es = slice_get es (length es - 1)

  -- Each key of the list is below the number.
  abbrev pub AreBelow : ℕ → List (ℕ × X) → Type 0
  AreBelow n [] = Unit {0}
  AreBelow n (e ∷ es) = (e.0 < n) × AreBelow n es

  -- Each key of the list is above the number.
  abbrev pub AreAbove : ℕ → List (ℕ × X) → Type 0
  AreAbove n [] = Unit {0}
  AreAbove n (e ∷ es) = (n < e.0) × AreAbove n es

  -- Each key is above those before it.
  abbrev pub AreRising : List (ℕ × X) → Type 0
  AreRising [] = Unit {0}
  AreRising (e ∷ es) = AreAbove e.0 es × AreRising es

  -- `AreAbove` has at most one proof.
  pub AreAbove-prop : (n : ℕ) (es : List (ℕ × X)) → IsProp (AreAbove n es)
  AreAbove-prop n [] = Unit-prop
  AreAbove-prop n (e ∷ es) = ×_prop le_prop (AreAbove-prop n es)

  -- So has `AreRising`.
  pub AreRising-prop : (es : List (ℕ × X)) → IsProp (AreRising es)
  AreRising-prop [] = Unit-prop
  AreRising-prop (e ∷ es) = ×_prop (AreAbove-prop e.0 es) (AreRising-prop es)
