-- What is known of an event that was read before its line was reached.
use Rattle.std.specs.Prelude.{◌≡◌, ℕ, ◌-◌, ◌≤◌, List, [], ◌++◌, length, take, drop, Some}
use Rattle.ledger_model.specs.Event.{MeterReading}
use Rattle.script_lines.specs.LineMeaning.{LineMeaning, line_meaning, sends}
use Rattle.transaction_event.{specs.MessageMeaning.{HasShortId, IsMeaningOf, asking}, specs.declared.delivery.Delivery.Delivery}
use Rattle.message_ahead.specs.declared.found_event.FoundEvent.{FoundEvent}

-- The text asks for this delivery, at any moment.
abbrev pub Asks : List ℕ → Delivery → Type 0
Asks text d = HasShortId (asking d) × ((now : ℕ) → IsMeaningOf text now (asking d))

-- The text that a line of this meaning sends; none if it sends nothing.
abbrev pub text_sent : LineMeaning → List ℕ
text_sent (sends _ text) = text
text_sent _ = []

-- The line sends a message of the station of this name, and the message's text asks for this
-- delivery.
abbrev pub Sends : List ℕ → List ℕ → Delivery → Type 0
Sends line station d = let says = line_meaning (Some line) in (says ≡ sends station (text_sent says)) × Asks (text_sent says) d

-- The delivery of these parts, with these readings.
abbrev pub with_readings : FoundEvent → List MeterReading → Delivery
with_readings f own = record { id = f.id; key = f.key; event = record { kind = f.kind; moment = f.moment; evse = f.evse; readings = own }; token = f.token }

-- The delivery that was found; its readings are among those of its piece.
abbrev pub found_delivery : List MeterReading → FoundEvent → Delivery
found_delivery readings f = with_readings f (take (f.end - f.first) (drop f.first readings))

-- Its readings are among these.
abbrev pub HasRange : List MeterReading → FoundEvent → Type 0
HasRange readings f = (f.first ≤ f.end) × (f.end ≤ length readings)

-- More readings were put behind those that were there.
abbrev pub Extends : List MeterReading → List MeterReading → Type 0
Extends old new = (more : List MeterReading) × (new ≡ old ++ more)

-- What was found is in these bytes, its readings are among these, and the line there sends it.
abbrev pub IsFound : List ℕ → List MeterReading → FoundEvent → Type 0
IsFound bytes readings f = (f.from ≤ f.to) × (f.to ≤ length bytes) × HasRange readings f × Sends (take (f.to - f.from) (drop f.from bytes)) f.station (found_delivery readings f)
