-- The settlement periods that the stations of a site show, and the condition on their sums.
use Rattle.std.{specs.Prelude.{◌≡◌, ℕ, ◌<◌, List, All, ◌^◌}, specs.List.flat_map}
use Rattle.ledger_model.{specs.Periods.Periods, specs.Board.{Board, Flowed, flows_under}, specs.Quarter.IsQuarterOf}

-- The lines of the periods that stations show, station after station.
abbrev pub station_quarters : List (List ℕ × Board) → List Flowed
station_quarters stations = flat_map (λ (s : List ℕ × Board). s.1.quarters) stations

-- The energies of the lines of each period add up to less than 2^64, up and down, in each direction.
pub record QuartersFit (lines : List Flowed) : Type 0 where
  pub up : (quarter : ℕ) → (flows_under quarter lines).import.up < 2 ^ 64
  pub down : (quarter : ℕ) → (flows_under quarter lines).import.down < 2 ^ 64
  pub export_up : (quarter : ℕ) → (flows_under quarter lines).export.up < 2 ^ 64
  pub export_down : (quarter : ℕ) → (flows_under quarter lines).export.down < 2 ^ 64

-- The stations' boards have these settlement periods.
abbrev pub AreOfPeriod : Periods → List (List ℕ × Board) → Type 0
AreOfPeriod period stations = All (λ s. s.1.period ≡ period) stations

-- Each line is of a period of this length.
abbrev pub AreQuartersOf : Periods → List Flowed → Type 0
AreQuartersOf period lines = All (λ line. IsQuarterOf period.length line.0) lines
