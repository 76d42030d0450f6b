-- The readings on either side of an event's place.
use Rattle.std.specs.Prelude.{◌≡◌, Bool, if◌then◌else◌, List, Option, None}
use Rattle.ledger_model.{specs.Content.Entry, specs.Deltas.{before_key, behind_key, first_reading, last_reading, own_readings}, specs.declared.reading.Direction.Direction, specs.Event.MeterReading, specs.Key.KeyName}
use Rattle.event_chain.specs.declared.around.Sides.{Sides}

-- A reading on a side, if the event has a reading of its direction.
abbrev pub side_if : Bool → Option MeterReading → Option MeterReading
side_if has o = if has then o else None

-- The live readings of a direction on either side of the place of a key among these events: the
-- last one in front of it, and the first one behind it; none if the event has no reading of the
-- direction.
pub record AreSides (d : Direction) (has : Bool) (key : KeyName) (es : List Entry) (sides : Sides) : Type 0 where
  pub before : sides.before ≡ side_if has (last_reading (own_readings d key.tx (before_key key es)))
  pub behind : sides.behind ≡ side_if has (first_reading (own_readings d key.tx (behind_key key es)))
