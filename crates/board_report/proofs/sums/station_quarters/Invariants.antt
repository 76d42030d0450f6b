use Rattle.std.proofs.Common.{◌≡◌, ℕ, take}
use Rattle.ledger_model.specs.Periods.{Periods}
use Rattle.board_report.specs.Sums.{station_quarters, AreOfPeriod, AreQuartersOf}
use Rattle.board_report.proofs.sums.station_quarters.Given as goal

-- the lines of the stations so far
abbrev pub invariant-loop-station : goal.invariant-loop-station
invariant-loop-station l = record {
  lines : l.lines.items ≡ station_quarters (take l.station-index l.stations);
  own : (period : Periods) → AreOfPeriod period l.stations → AreQuartersOf period l.lines.items;
}
