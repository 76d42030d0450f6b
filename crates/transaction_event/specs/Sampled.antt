-- Sampled values of energy registers (SampledValueType of OCPP 2.0.1 Part 2, J02); which of them count is this
-- product's profile.
use Rattle.std.{specs.Prelude.{ℕ, Bool, true, ◌&&◌, List, is_none, if◌then◌else◌, Option, Some, None, Result, Ok, Err, codes}, specs.Option.ok_or, specs.Str.bytes_eq}
use Rattle.serde_json.specs.Data.{Data}
use Rattle.marked_json.specs.Reading.{text_of, number_of}
use Rattle.reading_decimal.{specs.declared.decimal.DecimalFault.DecimalFault, specs.Decimal.mwh_reading}
use Rattle.ledger_model.{specs.declared.reading.Direction.Direction, specs.declared.reading.Direction.TheVariants.{Import, Export}, specs.Event.MeterReading}
use Rattle.transaction_event.{specs.declared.fault.PayloadFault.TheVariants.{WrongType, Decimal}, specs.Steps.{Checked, ◌>>=◌}, specs.Member.{object_of, required, optional}, specs.Scale.scale_of, specs.Readings.one_more}

-- A text is absent, or is this one.
abbrev pub absent_or : List ℕ → Option (List ℕ) → Bool
absent_or text None = true
absent_or text (Some given) = bytes_eq given text

-- The direction of the active energy register that a measurand names: import if it is absent.
abbrev pub direction_of : Option (List ℕ) → Option Direction
direction_of measurand =
    if absent_or (codes "Energy.Active.Import.Register") measurand then Some Import
    else (if absent_or (codes "Energy.Active.Export.Register") measurand then Some Export
    else None)

-- A value counts if it is of one of the two active energy registers, of no single phase, and taken
-- at the outlet; it counts in the direction of its register.
abbrev pub counted_toward : Option (List ℕ) → Option (List ℕ) → Option (List ℕ) → Option Direction
counted_toward measurand phase location = if is_none phase && absent_or (codes "Outlet") location then direction_of measurand else None

-- In which direction a sampled value counts, if it does; its three texts are all checked first.
unfoldable pub counts : Data → Checked (Option Direction)
counts sampled = do
  measurand ← optional text_of (codes "measurand") sampled
  phase ← optional text_of (codes "phase") sampled
  location ← optional text_of (codes "location") sampled
  Ok (counted_toward measurand phase location)

-- A value that is no reading of a register is refused.
abbrev pub decimal : Result ℕ DecimalFault → Checked ℕ
decimal (Ok mwh) = Ok mwh
decimal (Err fault) = Err Decimal

-- The whole milliwatt-hours of a sampled value.
unfoldable pub sampled_mwh : Data → Checked ℕ
sampled_mwh sampled = do
  measure ← optional object_of (codes "unitOfMeasure") sampled
  scale ← scale_of measure
  token ← required number_of (codes "value") sampled
  decimal (mwh_reading token scale.multiplier scale.unit)

-- A sampled value that counts in a direction is one more reading at that moment, of that direction.
abbrev pub if_counted : ℕ → List MeterReading → Data → Option Direction → Checked (List MeterReading)
if_counted moment so_far sampled None = Ok so_far
if_counted moment so_far sampled (Some direction) =
    sampled_mwh sampled >>= (λ mwh. one_more so_far (record { moment = moment; mwh = mwh; direction = direction }))

-- The readings so far, and that of a sampled value, if it counts.
unfoldable pub sample : ℕ → List MeterReading → Data → Checked (List MeterReading)
sample moment so_far value = do
  sampled ← ok_or (object_of value) WrongType
  counted ← counts sampled
  if_counted moment so_far sampled counted
