use Rattle.std.{proofs.Common.{◌≡◌, ◌++◌, take}, specs.List.flat_map}
use Rattle.board_report.specs.Texts.{quarter_line}
use Rattle.board_report.proofs.write.put_quarters.Given as goal

-- the lines so far
abbrev pub invariant-loop-quarter : goal.invariant-loop-quarter
invariant-loop-quarter l = l.text.items ≡ l.fn.text.items ++ flat_map (quarter_line l.period) (take l.quarter-index l.quarters)
