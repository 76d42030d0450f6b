use Rattle.std.proofs.Common.{length}
use Rattle.ledger_model.specs.Deltas.{pairs_between}
use Rattle.station_ledger.{specs.ByMoment.bare, specs.Runs.run_pairs, proofs.Walks.IsMoving}
use Rattle.station_ledger.proofs.by_moment.move_row.Given as goal

-- the pairs so far, and those of the readings that are left
abbrev pub invariant-loop-left : goal.invariant-loop-left
invariant-loop-left l = IsMoving l.fn.way l.fn.period l.fn.direction (run_pairs l.fn.gap l.fn.readings)
    (pairs_between l.last (bare l.left) l.fn.gap.behind) l.fn.quarters l.quarters l.fn.work l.work l.total

abbrev pub decreases-loop-left : goal.decreases-loop-left
decreases-loop-left l = length l.left
