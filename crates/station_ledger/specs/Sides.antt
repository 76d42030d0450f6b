-- The pairs at an event's place, direction by direction.
use Rattle.std.specs.Prelude.{Bool, List, is_some}
use Rattle.ledger_model.{specs.ByDirection.in_direction, specs.declared.by_direction.ByDirection.ByDirection, specs.declared.reading.Direction.Direction, specs.Deltas.{across, first_reading, pairs_between}, specs.Energy.Pair, specs.Event.MeterReading, specs.Key.KeyName}
use Rattle.event_chain.{specs.Chains.Chained, specs.declared.around.Sides.Sides}
use Rattle.station_ledger.specs.Quarters.{readings_at}

-- The pair across the place, in each direction.
abbrev pub sides_across : ByDirection Sides → Direction → List Pair
sides_across place d = across (in_direction d place).before (in_direction d place).behind

-- The pairs that the event's readings make there, in each direction.
abbrev pub sides_between : ByDirection Sides → Chained → KeyName → Direction → List Pair
sides_between place chains key d = pairs_between (in_direction d place).before (readings_at d chains key) (in_direction d place).behind

-- Whether there is a reading.
abbrev pub has_some : List MeterReading → Bool
has_some rs = is_some (first_reading rs)
