-- What a board's lines can show.
use Rattle.std.specs.Prelude.{ℕ, ◌*◌, ◌<◌, ◌≤◌, List, All}
use Rattle.energy_flow.specs.Flow.{Energy}
use Rattle.ledger_model.{specs.Periods.Periods, specs.Board.Flowed, specs.declared.by_direction.ByDirection.ByDirection, specs.Quarter.IsQuarterOf, specs.Ranges.{greatest_reading, most_readings, sequence_end}}

-- Energy that the readings of one station can show.
pub record IsStationFlow (flow : Energy) : Type 0 where
  pub up : flow.up ≤ greatest_reading * most_readings
  pub down : flow.down ≤ greatest_reading * most_readings

-- Energies that the readings of one station can show, in each direction.
pub record AreStationFlows (flows : ByDirection Energy) : Type 0 where
  pub import : IsStationFlow flows.import
  pub export : IsStationFlow flows.export

-- What a board shows of a transaction is in range: its lowest and highest number, and its energies.
pub record IsShown (first last : ℕ) (energy : ByDirection Energy) : Type 0 where
  pub first_number : first < sequence_end
  pub last_number : last < sequence_end
  pub energy_in_range : AreStationFlows energy

-- No line has more energy than the readings of one station can show, and each settlement period is of
-- this length.
pub record AreStationLines (period : Periods) (evses quarters : List Flowed) : Type 0 where
  pub evse_flows : All (λ line. AreStationFlows line.1) evses
  pub quarter_flows : All (λ line. AreStationFlows line.1) quarters
  pub own_quarters : All (λ line. IsQuarterOf period.length line.0) quarters
