-- MeterValueType and SampledValueType (OCPP 2.0.1 Part 2, J02), and the readings that they are. Which sampled values
-- count, and the ranges, are this product's profile.
use Rattle.std.specs.Prelude.{◌≡◌, ◌⊎◌, ◌≤ℤ◌, ◌++◌, ℕ, List, [], ◌∷◌, true, Option, None, Some, Ok, ℤ, pos, negsuc, codes}
use Rattle.serde_json.specs.Data.{Data}
use Rattle.marked_json.specs.Reading.{is_object, items_of, number_of, text_of}
use Rattle.ledger_model.{specs.Event.MeterReading, specs.declared.reading.Direction.Direction, specs.declared.reading.Direction.TheVariants.{Import, Export}}
use Rattle.reading_decimal.{specs.Decimal.mwh_reading, specs.Moment.moment_reading, specs.declared.decimal.Unit.Unit as EnergyUnit, specs.declared.decimal.Unit.TheVariants.{Wh, KWh}}
use Rattle.event_laws.specs.Members.{Has, HasInteger, HasObject, Lacks, MayHave}

-- `timestamp` is a text that names this moment.
pub record HasTime (tree : Data) (moment : ℕ) : Type 0 where
  pub text : List ℕ
  pub there : Has text_of (codes "timestamp") tree text
  pub is : moment_reading text ≡ Ok moment

-- The measurand of a direction's active energy register.
abbrev pub register_name : Direction → List ℕ
register_name Import = codes "Energy.Active.Import.Register"
register_name Export = codes "Energy.Active.Export.Register"

-- `measurand`, `phase` and `location` of a sampled value: texts that may be absent.
pub record IsSample (value : Data) (measurand phase location : Option (List ℕ)) : Type 0 where
  pub object : is_object value ≡ true
  pub has_measurand : MayHave text_of (codes "measurand") value measurand
  pub has_phase : MayHave text_of (codes "phase") value phase
  pub has_location : MayHave text_of (codes "location") value location

-- A value is of a direction's register: its measurand is that register, or is absent and the direction is import; it
-- names no phase; its location is the outlet or absent.
pub record IsOfRegister (measurand phase location : Option (List ℕ)) (direction : Direction) : Type 0 where
  pub register : (measurand ≡ Some (register_name direction)) ⊎ ((measurand ≡ None) × (direction ≡ Import))
  pub no_phase : phase ≡ None
  pub outlet : (location ≡ None) ⊎ (location ≡ Some (codes "Outlet"))

abbrev pub unit_name : EnergyUnit → List ℕ
unit_name Wh = codes "Wh"
unit_name KWh = codes "kWh"

-- `unit` is `Wh` or `kWh`; without it, `Wh`.
abbrev pub HasUnit : Data → EnergyUnit → Type 0
HasUnit measure unit = (Lacks (codes "unit") measure × (unit ≡ Wh)) ⊎ Has text_of (codes "unit") measure (unit_name unit)

-- `multiplier` is an integer from -12 to 12; without it, 0.
abbrev pub HasMultiplier : Data → ℤ → Type 0
HasMultiplier measure n = (Lacks (codes "multiplier") measure × (n ≡ pos 0)) ⊎ (HasInteger (codes "multiplier") measure n × ((negsuc 11 ≤ℤ n) × (n ≤ℤ pos 12)))

-- `unitOfMeasure` is an object with a unit and a multiplier; without it, watt-hours.
abbrev pub HasScale : Data → EnergyUnit → ℤ → Type 0
HasScale value unit multiplier = (Lacks (codes "unitOfMeasure") value × ((unit ≡ Wh) × (multiplier ≡ pos 0)))
    ⊎ ((measure : Data) × HasObject (codes "unitOfMeasure") value measure × HasUnit measure unit × HasMultiplier measure multiplier)

-- `value` is a number that reads as these milliwatt-hours by its scale.
pub record HasValue (value : Data) (mwh : ℕ) : Type 0 where
  pub unit : EnergyUnit
  pub multiplier : ℤ
  pub token : List ℕ
  pub scale : HasScale value unit multiplier
  pub number : Has number_of (codes "value") value token
  pub reading : mwh_reading token multiplier unit ≡ Ok mwh

-- A sampled value that counts is this reading at a moment.
pub record IsCounted (moment : ℕ) (value : Data) (r : MeterReading) : Type 0 where
  pub measurand : Option (List ℕ)
  pub phase : Option (List ℕ)
  pub location : Option (List ℕ)
  pub sample : IsSample value measurand phase location
  pub register : IsOfRegister measurand phase location r.direction
  pub has_value : HasValue value r.mwh
  pub at_moment : r.moment ≡ moment

-- A sampled value that does not count is of neither register; nothing else of it is looked at.
pub record IsUncounted (value : Data) : Type 0 where
  pub measurand : Option (List ℕ)
  pub phase : Option (List ℕ)
  pub location : Option (List ℕ)
  pub sample : IsSample value measurand phase location
  pub none : (direction : Direction) → IsOfRegister measurand phase location direction → ⊥

-- Sampled values at a moment are these readings, in their order.
abbrev pub AreSamples : ℕ → List Data → List MeterReading → Type 0
AreSamples moment [] rs = rs ≡ []
AreSamples moment (value ∷ values) rs =
    (IsUncounted value × AreSamples moment values rs)
    ⊎ ((r : MeterReading) × (more : List MeterReading) × IsCounted moment value r × AreSamples moment values more × (rs ≡ r ∷ more))

-- A meter value is an object with `timestamp` and the array `sampledValue`; its readings have its moment.
pub record IsMeterValue (tree : Data) (rs : List MeterReading) : Type 0 where
  pub moment : ℕ
  pub values : List Data
  pub object : is_object tree ≡ true
  pub has_time : HasTime tree moment
  pub has_values : Has items_of (codes "sampledValue") tree values
  pub samples : AreSamples moment values rs

-- Meter values are these readings, in their order.
abbrev pub AreMeterValues : List Data → List MeterReading → Type 0
AreMeterValues [] rs = rs ≡ []
AreMeterValues (tree ∷ trees) rs = (own : List MeterReading) × (more : List MeterReading) × IsMeterValue tree own × AreMeterValues trees more × (rs ≡ own ++ more)
