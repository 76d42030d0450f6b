use Rattle.std.{proofs.Common.{◌≡◌, ◌++◌, take}, specs.List.flat_map}
use Rattle.board_report.specs.Texts.{evse_line}
use Rattle.board_report.proofs.write.put_evses.Given as goal

-- the lines so far
abbrev pub invariant-loop-evse : goal.invariant-loop-evse
invariant-loop-evse l = l.text.items ≡ l.fn.text.items ++ flat_map evse_line (take l.evse-index l.evses)
