use Rattle.ledger_model.specs.Deltas.{pairs_between}
use Rattle.station_ledger.{specs.Quarters.readings_at, proofs.Walks.IsMoving}
use Rattle.station_ledger.proofs.pairs.move_stored.Given as goal

-- the pairs so far, and those of the readings that are left
abbrev pub invariant-loop-reading : goal.invariant-loop-reading
invariant-loop-reading l =
    IsMoving l.fn.way l.fn.period l.fn.direction (pairs_between l.fn.sides.before (readings_at l.fn.direction l.fn.chains l.fn.key) l.fn.sides.behind)
    (pairs_between l.last l.left l.sides.behind) l.fn.quarters l.quarters l.fn.work l.work l.total
