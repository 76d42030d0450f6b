-- Meter values (MeterValueType of OCPP 2.0.1 Part 2, J02).
use Rattle.std.{specs.Prelude.{List, [], unwrap_or, codes}, specs.Option.ok_or}
use Rattle.serde_json.specs.Data.{Data}
use Rattle.marked_json.specs.Reading.{items_of}
use Rattle.ledger_model.specs.Event.{MeterReading}
use Rattle.transaction_event.{specs.declared.fault.PayloadFault.TheVariants.WrongType, specs.Steps.{Checked, ◌>>=◌, for_each}, specs.Member.{object_of, required, optional}, specs.Timestamp.timestamp, specs.Sampled.sample}

-- The readings so far, and those of one meter value: its sampled values in turn, each at its moment.
unfoldable pub meter_value : List MeterReading → Data → Checked (List MeterReading)
meter_value so_far element = do
  meter ← ok_or (object_of element) WrongType
  moment ← timestamp meter
  values ← required items_of (codes "sampledValue") meter
  for_each (sample moment) so_far values

-- The counted readings of a request; it may have no meter values.
unfoldable pub meter_values : Data → Checked (List MeterReading)
meter_values request = do
  elements ← optional items_of (codes "meterValue") request
  for_each meter_value [] (unwrap_or elements [])
