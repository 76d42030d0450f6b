-- Whether there is room for an event under a new key.
use Rattle.std.specs.Prelude.{ℕ, ◌+◌, ◌&&◌, not, nat_le, nat_lt, if◌then◌else◌, List, [], Option, Some, None, length}
use Rattle.ledger_model.{specs.declared.reading.Direction.Direction, specs.Event.{MeterReading, toward}, specs.Limits.Bounds, specs.Content.{Entry, Stored, transactions_of, has_transaction}, specs.Step.readings_stored}
use Rattle.event_chain.{specs.declared.answers.Room.Room, specs.declared.answers.Room.TheVariants.{Fits, NoTransaction, NoEvent, NoReading}, specs.declared.answers.Found.Found, specs.declared.answers.Found.TheVariants.{Live, Voided}}

-- The first limit that an event of this transaction with so many readings would pass.
abbrev pub room_of : Bounds → List Entry → List ℕ → ℕ → Room
room_of limits es tx readings =
    if not (has_transaction tx es) && nat_le limits.transactions (length (transactions_of es)) then NoTransaction
    else (if nat_le limits.events (length es) then NoEvent
    else (if nat_lt limits.readings (readings_stored es + readings) then NoReading
    else Fits))

-- Whether a stored event is live or voided.
abbrev pub found_of : Option Stored → Option Found
found_of None = None
found_of (Some s) = Some (if s.voided then Voided else Live)

-- The readings of a stored event in a direction.
abbrev pub readings_under : Direction → Option Stored → List MeterReading
readings_under d None = []
readings_under d (Some s) = toward d s.event.readings
