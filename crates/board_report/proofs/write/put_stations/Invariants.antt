use Rattle.std.{proofs.Common.{◌≡◌, ◌++◌, take}, specs.List.flat_map}
use Rattle.board_report.specs.Texts.{station_text}
use Rattle.board_report.proofs.write.put_stations.Given as goal

-- the lines so far
abbrev pub invariant-loop-station : goal.invariant-loop-station
invariant-loop-station l = l.text.items ≡ l.fn.text.items ++ flat_map station_text (take l.station-index l.stations)
