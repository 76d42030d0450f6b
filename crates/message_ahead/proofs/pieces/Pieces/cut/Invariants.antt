use Rattle.std.proofs.Common.{length, ◌-◌, ◌≤◌}
use Rattle.message_ahead.proofs.pieces.Pieces.cut.Given as goal

abbrev pub invariant-loop-end : goal.invariant-loop-end
invariant-loop-end l = l.end ≤ length l.lines

abbrev pub decreases-loop-end : goal.decreases-loop-end
decreases-loop-end l = length l.lines - l.end
