use Rattle.std.proofs.Common.{◌≡◌, ◌<◌, length}
use Rattle.ledger_model.specs.Gaps.{gaps}
use Rattle.gap_list.proofs.gaps.GapsIterator.next.Given as goal

abbrev pub invariant-loop-after : goal.invariant-loop-after
invariant-loop-after g l = (0 < length (g.W.NumberWalk.ahead l.self-inside.walk.now l.here))
    × (gaps (g.W.NumberWalk.ahead l.self-inside.walk.now l.here) ≡ l.fn.self)
    × (l.self-inside.walk ≡ l.initial.self-inside.walk)

abbrev pub decreases-loop-after : goal.decreases-loop-after
decreases-loop-after g l = length (g.W.NumberWalk.ahead l.self-inside.walk.now l.here)
