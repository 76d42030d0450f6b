-- The counted readings of an event, in the order sent.
use Rattle.std.specs.Prelude.{List, [], ◌∷◌, ◌++◌, length, nat_lt, if◌then◌else◌, Ok, Err}
use Rattle.ledger_model.{specs.Ranges.most_event_readings, specs.Event.MeterReading}
use Rattle.transaction_event.{specs.declared.fault.PayloadFault.TheVariants.TooManyReadings, specs.Steps.Checked}

-- One more reading; an event has no more than it may have.
abbrev pub one_more : List MeterReading → MeterReading → Checked (List MeterReading)
one_more readings reading = if nat_lt (length readings) most_event_readings then Ok (readings ++ reading ∷ []) else Err TooManyReadings
