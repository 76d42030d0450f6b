-- What the slots of a store hold.
use Rattle.std.specs.Prelude.{ℕ, false, List, Option, Some, None, map, length}
use Rattle.slot_arena.specs.Arena.{value_at, held_count}
use Rattle.ledger_model.specs.Event.{EventContent}
use Rattle.event_store.{specs.declared.links.ReadingLink.ReadingLink, specs.declared.event_slot.EventSlot.EventSlot, specs.Links.{chain, AreReadings}, specs.Slots.{Held, Slots}}

-- The content of the event in a slot.
abbrev pub content_in : List (Option ReadingLink) → EventSlot → EventContent
content_in links e = record { kind = e.kind; moment = e.moment; evse = e.evse; readings = chain links e.first e.count }

-- What a slot holds.
abbrev pub held_in : List (Option ReadingLink) → EventSlot → Held
held_in links e = (e.key, record { event = content_in links e; voided = e.voided })

-- What a slot holds, if it is not free.
abbrev pub slot_in : List (Option ReadingLink) → Option EventSlot → Option Held
slot_in links None = None
slot_in links (Some e) = Some (held_in links e)

-- What all slots hold.
abbrev pub slots_in : List (Option ReadingLink) → List (Option EventSlot) → List (Option Held)
slots_in links events = map (slot_in links) events

-- A store as its callers see it.
abbrev pub store_of : List (Option EventSlot) → List (Option ReadingLink) → Slots
store_of events links = record { slots = slots_in links events; readings = held_count links; capacity = length links }

-- The readings of an event in a slot are chained.
abbrev pub IsChained : List (Option ReadingLink) → ℕ → Option EventSlot → Type 0
IsChained links slot None = Unit {0}
IsChained links slot (Some e) = AreReadings links slot e.first e.count e.last

-- The readings of each event are chained.
abbrev pub AreChained : List (Option EventSlot) → List (Option ReadingLink) → Type 0
AreChained events links = (slot : ℕ) → IsChained links slot (value_at events slot)

-- A slot with the place of its event's readings: the first, the last, and how many.
abbrev pub run_set : Option EventSlot → ℕ → ℕ → ℕ → Option EventSlot
run_set None first last count = None
run_set (Some e) first last count = Some (record e { first = first; last = last; count = count })

-- The slot of a new event, before its readings are put in.
abbrev pub new_slot : ℕ → EventContent → EventSlot
new_slot key event = record { key = key; kind = event.kind; moment = event.moment; evse = event.evse; voided = false; first = 0; last = 0; count = 0 }
