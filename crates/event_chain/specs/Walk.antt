-- The live numbers of a transaction, as a walk goes over them.
use Rattle.std.specs.Prelude.{ℕ, ◌/◌, ◌%◌, ◌^◌, ◌==◌, Bool, true, false, ◌&&◌, if◌then◌else◌, List, [], ◌∷◌, Option, Some, None, map}
use Rattle.slot_arena.specs.Arena.{value_at}
use Rattle.event_store.specs.Slots.{Held}
use Rattle.event_chain.specs.Flat.{EventPlace, segment}

-- The number of a place.
abbrev pub number_in : EventPlace → ℕ
number_in e = e.0 % 2 ^ 31

-- The numbers of the transaction of a slot, none if there is no slot.
abbrev pub numbers_at : List EventPlace → Option ℕ → List ℕ
numbers_at es None = []
numbers_at es (Some t) = map number_in (segment t es)

-- The event of a slot has this rank.
abbrev pub is_under : ℕ → Option Held → Bool
is_under r None = false
is_under r (Some held) = held.0 == r

-- The events of the places have their ranks.
abbrev pub are_under : List (Option Held) → List EventPlace → Bool
are_under slots [] = true
are_under slots (e ∷ es) = is_under e.0 (value_at slots e.1) && are_under slots es

-- The numbers of a transaction from the place of a slot on, none if no place has the slot.
abbrev pub numbers_on : ℕ → List EventPlace → List ℕ
numbers_on s [] = []
numbers_on s (e ∷ es) = if e.1 == s then number_in e ∷ map number_in (segment (e.0 / 2 ^ 31) es) else numbers_on s es

-- The numbers of a transaction from the place of a slot on, if the events of the places have their ranks.
abbrev pub numbers_from : List EventPlace → List (Option Held) → ℕ → List ℕ
numbers_from es slots s = if are_under slots es then numbers_on s es else []
