use Rattle.std.proofs.Common.{◌≡◌, ◌++◌, List, length, reverse}
use Rattle.ledger_model.specs.Board.{Flowed}
use Rattle.board_report.specs.Lines.{quarter_sums}
use Rattle.board_report.proofs.sums.falling_sums.Given as goal

-- the sums of what was passed, from the back
abbrev pub invariant-loop-left : goal.invariant-loop-left
invariant-loop-left l = (after : List Flowed) × ((l.left ++ after ≡ l.lines) × (reverse l.falling.items ≡ quarter_sums after))

abbrev pub decreases-loop-left : goal.decreases-loop-left
decreases-loop-left l = length l.left
