-- A row of places, each empty or holding a value.
use Rattle.std.specs.Prelude.{◌≡◌, ℕ, get_or, List, Option, Some, None}

module _ {X : Type 0} where
  -- The place at the index holds a value.
  abbrev pub Holds : List (Option X) → ℕ → Type 0
  Holds row index = (x : X) × (get_or row index None ≡ Some x)
