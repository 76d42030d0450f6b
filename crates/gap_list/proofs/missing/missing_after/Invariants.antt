use Rattle.std.{proofs.Common.{◌≡◌, ◌<◌, length, ◌+◌, ◌≤◌}, specs.Prelude.slice_index}
use Rattle.ledger_model.{specs.BoardLaws.AreRising, specs.Gaps.missing}
use Rattle.gap_list.proofs.missing.missing_after.Given as goal

abbrev pub invariant-loop-after : goal.invariant-loop-after
invariant-loop-after g l = let rest = g.W.NumberWalk.ahead l.walk l.here in
    (0 < length rest) × AreRising rest
    × (l.total + missing rest ≡ missing (g.W.NumberWalk.ahead l.walk l.fn.first))
    × (l.total ≤ slice_index rest 0)

abbrev pub decreases-loop-after : goal.decreases-loop-after
decreases-loop-after g l = length (g.W.NumberWalk.ahead l.walk l.here)
