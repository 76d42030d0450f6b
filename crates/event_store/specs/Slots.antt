-- A store of events as its callers see it.
use Rattle.std.{specs.Prelude.{ℕ, Bool, List, Option, Some, None, length, slice_set, refl}, specs.Coded.{Coded, code_by, coded×, coded_list, coded_option, coded_bool, coded_ℕ}}
use Rattle.slot_arena.specs.Arena.{value_at}
use Rattle.ledger_model.{specs.contracts.event.Event.the_row, specs.Event.EventContent, specs.Content.Stored}

-- A stored event with the rank of its key.
abbrev pub Held : Type 0
Held = ℕ × Stored

-- What each slot holds, how many readings all slots hold, and how many they may hold.
pub record Slots : Type 0 where
  pub slots : List (Option Held)
  pub readings : ℕ
  pub capacity : ℕ

-- A stored event is kept as the pair of its parts.
abbrev pub stored_code : Coded Stored
stored_code = code_by (EventContent × Bool) (coded× the_row.coded coded_bool) (λ s. (s.event, s.voided)) (λ p. record { event = p.0; voided = p.1 }) (λ _. refl)

-- What a slot holds is kept as the pair of its parts.
abbrev pub held_code : Coded Held
held_code = coded× coded_ℕ stored_code

-- A store is kept as the tuple of its parts.
abbrev pub slots_code : Coded Slots
slots_code = code_by (List (Option Held) × (ℕ × ℕ)) (coded× (coded_list (coded_option held_code)) (coded× coded_ℕ coded_ℕ))
    (λ s. (s.slots, (s.readings, s.capacity))) (λ p. record { slots = p.0; readings = p.1.0; capacity = p.1.1 }) (λ _. refl)

-- What a slot holds, voided or not.
abbrev pub voided_as : Bool → Option Held → Option Held
voided_as voided None = None
voided_as voided (Some held) = Some (held.0, record { event = held.1.event; voided = voided })

-- The slots with the event of one slot marked as voided or not.
abbrev pub voided_at : List (Option Held) → ℕ → Bool → List (Option Held)
voided_at slots slot voided = slice_set slots slot (voided_as voided (value_at slots slot))

-- How many readings a slot's event has.
abbrev pub readings_in : Option Held → ℕ
readings_in None = 0
readings_in (Some held) = length held.1.event.readings

-- How many readings the event of a slot has, by the slot's number.
abbrev pub readings_at : List (Option Held) → ℕ → ℕ
readings_at slots slot = readings_in (value_at slots slot)
