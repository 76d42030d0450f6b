use Rattle.std.proofs.Common.{length}
use Rattle.ledger_model.{specs.Deltas.pairs_between, specs.Event.toward}
use Rattle.station_ledger.proofs.Walks.{IsMoving}
use Rattle.station_ledger.proofs.pairs.move_given.Given as goal

-- the pairs so far, and those of the readings that are left
abbrev pub invariant-loop-left : goal.invariant-loop-left
invariant-loop-left l =
    IsMoving l.fn.way l.fn.period l.fn.direction (pairs_between l.fn.sides.before (toward l.fn.direction l.fn.readings) l.fn.sides.behind)
    (pairs_between l.last (toward l.fn.direction l.left) l.sides.behind) l.fn.quarters l.quarters l.fn.work l.work l.total

abbrev pub decreases-loop-left : goal.decreases-loop-left
decreases-loop-left l = length l.left
