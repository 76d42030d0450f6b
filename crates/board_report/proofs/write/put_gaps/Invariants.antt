use Rattle.std.{proofs.Common.{◌≡◌, ◌++◌, take}, specs.List.flat_map}
use Rattle.board_report.specs.Texts.{gap_line}
use Rattle.board_report.proofs.write.put_gaps.Given as goal

-- the lines so far
abbrev pub invariant-loop-gap : goal.invariant-loop-gap
invariant-loop-gap l = l.text.items ≡ l.fn.text.items ++ flat_map gap_line (take l.gap-index l.gaps)
