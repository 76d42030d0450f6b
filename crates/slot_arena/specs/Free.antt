-- How the free slots of a block are threaded.
use Rattle.std.specs.Prelude.{◌≡◌, ℕ, ◌+◌, ◌≤◌, zero, suc, get_or, length, map, List, [], ◌∷◌, Option, Some, None}
use Rattle.slot_arena.{specs.declared.slot.Slot.Slot, specs.declared.slot.Slot.TheVariants.{Free, Held}, specs.declared.arena.TheConstants.MAX_SLOTS, specs.Arena.held_count}

-- The number is not in the list.
abbrev pub IsApart : ℕ → List ℕ → Type 0
IsApart n [] = Unit {0}
IsApart n (m ∷ ms) = (¬ (n ≡ m)) × IsApart n ms

-- No number is in the list twice.
abbrev pub AreApart : List ℕ → Type 0
AreApart [] = Unit {0}
AreApart (n ∷ ns) = IsApart n ns × AreApart ns

module _ {X : Type 0} where
  -- The value that a place shows to callers.
  abbrev pub value_in : Option (Slot X) → Option X
  value_in None = None
  value_in (Some (Free next)) = None
  value_in (Some (Held x)) = Some x

  -- The arena that a row of places shows to callers.
  abbrev pub values_in : List (Option (Slot X)) → List (Option X)
  values_in row = map value_in row

  -- From the first number on, each free slot of the list holds the number of the next one.
  abbrev pub IsThread : List (Option (Slot X)) → ℕ → List ℕ → Type 0
  IsThread row first [] = Unit {0}
  IsThread row first (id ∷ ids) = (first ≡ id) × ((next : ℕ) × ((get_or row id None ≡ Some (Free next)) × IsThread row next ids))

  -- Each place holds a slot, be it free or held.
  abbrev pub AreMade : List (Option (Slot X)) → Type 0
  AreMade [] = Unit {0}
  AreMade (place ∷ row) = ((slot : Slot X) × (place ≡ Some slot)) × AreMade row

  -- `spare` free slots are threaded from the first one on, and every other slot is held.
  pub record IsThreaded (row : List (Option (Slot X))) (first spare : ℕ) : Type 0 where
    pub free : List ℕ
    pub thread : IsThread row first free
    pub apart : AreApart free
    pub spare_is : spare ≡ length free
    pub others_held : length free + held_count (values_in row) ≡ length row
    pub made : AreMade row
    pub few : length row ≤ MAX_SLOTS

  -- So many slots from the number on, each free, each with the number of the next.
  abbrev pub links : ℕ → ℕ → List (Option (Slot X))
  links from zero = []
  links from (suc count) = Some (Free (suc from)) ∷ links (suc from) count
