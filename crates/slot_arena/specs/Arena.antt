-- An arena as its callers see it: a list with an `Option` for each id.
use Rattle.std.specs.Prelude.{◌≡◌, ℕ, get_or, length, List, Option, None, is_some, IsSome, count_by}

module _ {X : Type 0} where
  -- The value at an id; none if the id is free or is no id of the arena.
  abbrev pub value_at : List (Option X) → ℕ → Option X
  value_at slots id = get_or slots id None

  -- The id has a value.
  abbrev pub IsHeld : List (Option X) → ℕ → Type 0
  IsHeld slots id = IsSome (value_at slots id)

  -- How many ids have a value.
  abbrev pub held_count : List (Option X) → ℕ
  held_count slots = count_by is_some slots

  -- Each id has a value.
  abbrev pub IsFull : List (Option X) → Type 0
  IsFull slots = held_count slots ≡ length slots
