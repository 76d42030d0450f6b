-- How a sampled value is scaled (unitOfMeasure of SampledValueType, OCPP 2.0.1 Part 2, J02); the units are this
-- product's profile.
use Rattle.std.{specs.Prelude.{List, ℤ, pos, negsuc, unwrap_or, if◌then◌else◌, ℕ, Option, Some, None, Ok, Err, codes}, specs.Str.bytes_eq}
use Rattle.serde_json.specs.Data.{Data}
use Rattle.marked_json.specs.Reading.{text_of}
use Rattle.reading_decimal.{specs.declared.decimal.Unit.Unit as EnergyUnit, specs.declared.decimal.Unit.TheVariants.{Wh, KWh}}
use Rattle.transaction_event.{specs.declared.fault.PayloadFault.TheVariants.Range, specs.Steps.{Checked, ◌>>=◌}, specs.Member.optional, specs.Integer.optional_integer}

-- The unit of that name; watt-hours if none is named.
abbrev pub unit_named : Option (List ℕ) → Checked EnergyUnit
unit_named None = Ok Wh
unit_named (Some name) =
    if bytes_eq name (codes "Wh") then Ok Wh
    else (if bytes_eq name (codes "kWh") then Ok KWh
    else Err Range)

-- The unit of a value, and the power of ten that it is multiplied by.
pub record Scaling : Type 0 where
  pub unit : EnergyUnit
  pub multiplier : ℤ

-- The scale that a unit of measure names.
unfoldable pub named_scale : Data → Checked Scaling
named_scale measure = do
  name ← optional text_of (codes "unit") measure
  unit ← unit_named name
  multiplier ← optional_integer (negsuc 11) (pos 12) (codes "multiplier") measure
  Ok (record { unit = unit; multiplier = unwrap_or multiplier (pos 0) })

-- The scale of a unit of measure that may be absent.
abbrev pub scale_of : Option Data → Checked Scaling
scale_of None = Ok (record { unit = Wh; multiplier = pos 0 })
scale_of (Some measure) = named_scale measure
