-- One value for each direction.
use Rattle.energy_flow.specs.Flow.{Energy, no_energy, plus, minus, CanPlus, CanMinus}
use Rattle.ledger_model.{specs.declared.reading.Direction.Direction, specs.declared.reading.Direction.TheVariants.{Import, Export}, specs.declared.by_direction.ByDirection.ByDirection}

-- The value of a direction.
abbrev pub in_direction : {A : Type 0} → Direction → ByDirection A → A
in_direction Import v = v.import
in_direction Export v = v.export

-- The values that a function gives for both.
abbrev pub in_each : {A : Type 0} → (Direction → A) → ByDirection A
in_each f = record { import = f Import; export = f Export }

-- No energy in either direction.
abbrev pub no_flows : ByDirection Energy
no_flows = record { import = no_energy; export = no_energy }

-- An energy in one direction, and none in the other.
abbrev pub flows_toward : Direction → Energy → ByDirection Energy
flows_toward Import e = record { import = e; export = no_energy }
flows_toward Export e = record { import = no_energy; export = e }

-- The sum of both, direction by direction.
abbrev pub plus_flows : ByDirection Energy → ByDirection Energy → ByDirection Energy
plus_flows a b = record { import = plus a.import b.import; export = plus a.export b.export }

-- The first without the second, direction by direction.
abbrev pub minus_flows : ByDirection Energy → ByDirection Energy → ByDirection Energy
minus_flows a b = record { import = minus a.import b.import; export = minus a.export b.export }

-- The sums fit in 64 bits.
pub record CanPlusFlows (a b : ByDirection Energy) : Type 0 where
  pub import : CanPlus a.import b.import
  pub export : CanPlus a.export b.export

-- No energy falls below zero.
pub record CanMinusFlows (a b : ByDirection Energy) : Type 0 where
  pub import : CanMinus a.import b.import
  pub export : CanMinus a.export b.export
