-- The events of a transaction in a list.
use Rattle.std.{specs.Prelude.{ℕ, List, Option, length, map, unwrap_or}, specs.List.filter, specs.Str.bytes_eq}
use Rattle.event_store.specs.Slots.{Held}
use Rattle.ledger_model.specs.Content.{Entry, Stored}
use Rattle.event_chain.{specs.declared.event_lines.EventLine.EventLine, specs.Flat.{EventPlace, stored_at}, specs.Walk.number_in}

-- What a list shows of a stored event and its number.
abbrev pub line_of : ℕ → Stored → EventLine
line_of number s = record { number = number; kind = s.event.kind; moment = s.event.moment; evse = unwrap_or s.event.evse 0; readings = length s.event.readings; voided = s.voided }

-- The events of a transaction, live and voided, by rising number.
abbrev pub events_of : List ℕ → List Entry → List EventLine
events_of tx es = map (λ e. line_of e.0.seq e.1) (filter (λ e. bytes_eq tx e.0.tx) es)

-- The line of the event of a place.
abbrev pub line_at : List (Option Held) → EventPlace → EventLine
line_at slots p = line_of (number_in p) (stored_at slots p.1)
