-- What the places of an arena's block hold.
use Rattle.std.specs.Prelude.{◌≡◌, ℕ, get_or, List, Option, Some, None}
use Rattle.slot_arena.{specs.declared.slot.Slot.Slot, specs.declared.slot.Slot.TheVariants.{Free, Held}}

module _ {X : Type 0} where
  -- The slot holds a value.
  abbrev pub IsHolding : Slot X → Type 0
  IsHolding slot = (x : X) × (slot ≡ Held x)

  -- The slot at the index holds a value.
  abbrev pub HoldsValue : List (Option (Slot X)) → ℕ → Type 0
  HoldsValue row index = (x : X) × (get_or row index None ≡ Some (Held x))

  -- The slot at the index is free, and holds the number of the next free one.
  abbrev pub LinksOn : List (Option (Slot X)) → ℕ → Type 0
  LinksOn row index = (next : ℕ) × (get_or row index None ≡ Some (Free next))
