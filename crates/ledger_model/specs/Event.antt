use Rattle.std.specs.Prelude.{ℕ, Bool, true, false, List, [], ◌∷◌, ◌≢◌, ◌≤◌, ◌&&◌, ◌==◌, Option, None, Some, IfSome, All, filter, length}
use Rattle.ledger_model.{specs.declared.kind.Kind.Kind, specs.declared.kind.Kind.TheVariants.{Started, Updated, Ended}, specs.declared.reading.Direction.Direction, specs.declared.reading.Direction.TheVariants.{Import, Export}, specs.Moment.IsMoment, specs.Ranges.{greatest_evse, greatest_reading, most_event_readings}}

-- A counted reading of an active energy register: its moment in nanoseconds since 1970, its milliwatt-hours, and its
-- direction.
pub record MeterReading : Type 0 where
  pub moment : ℕ
  pub mwh : ℕ
  pub direction : Direction

-- The content of an event: its kind, moment, EVSE or none, and its counted readings in the order sent.
pub record EventContent : Type 0 where
  pub kind : Kind
  pub moment : ℕ
  pub evse : Option ℕ
  pub readings : List MeterReading

-- Whether two kinds are the same.
abbrev pub same_kind : Kind → Kind → Bool
same_kind Started Started = true
same_kind Updated Updated = true
same_kind Ended Ended = true
same_kind _ _ = false

-- Whether two EVSEs are the same; each may be missing.
abbrev pub same_evse : Option ℕ → Option ℕ → Bool
same_evse None None = true
same_evse (Some a) (Some b) = a == b
same_evse _ _ = false

-- Whether two directions are the same.
abbrev pub same_direction : Direction → Direction → Bool
same_direction Import Import = true
same_direction Export Export = true
same_direction _ _ = false

-- Whether two readings agree in moment, value and direction.
abbrev pub same_reading : MeterReading → MeterReading → Bool
same_reading a b = (a.moment == b.moment) && ((a.mwh == b.mwh) && same_direction a.direction b.direction)

-- The readings of one direction, in their order.
abbrev pub toward : Direction → List MeterReading → List MeterReading
toward d rs = filter (λ r. same_direction d r.direction) rs

-- Whether two lists have the same readings in the same order.
abbrev pub same_readings : List MeterReading → List MeterReading → Bool
same_readings [] [] = true
same_readings (a ∷ as') (b ∷ bs) = same_reading a b && same_readings as' bs
same_readings _ _ = false

-- Whether two events are equal: in kind, moment, EVSE and readings.
abbrev pub same_event : EventContent → EventContent → Bool
same_event a b = same_kind a.kind b.kind && (a.moment == b.moment) && same_evse a.evse b.evse && same_readings a.readings b.readings

-- An event has no more counted readings than it may have, and does not name EVSE 0.
abbrev pub IsEvent : Option ℕ → List MeterReading → Type 0
IsEvent evse readings = (length readings ≤ most_event_readings) × (evse ≢ Some 0)

-- A reading in range: its moment, and its milliwatt-hours.
pub record IsMeterReading (r : MeterReading) : Type 0 where
  pub moment : IsMoment r.moment
  pub mwh : r.mwh ≤ greatest_reading

-- An event in range: its moment, the EVSE that it names, and each of its readings.
pub record IsEventContent (e : EventContent) : Type 0 where
  pub moment : IsMoment e.moment
  pub event : IsEvent e.evse e.readings
  pub evse : IfSome e.evse (λ number. number ≤ greatest_evse)
  pub readings : All IsMeterReading e.readings
