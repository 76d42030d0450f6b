use Rattle.std.proofs.Common.{◌≡◌, ℕ, List, length}
use Rattle.ledger_model.specs.Board.{Flowed}
use Rattle.reading_index.specs.Timed.{owned}
use Rattle.station_ledger.{specs.Runs.AreToMove, proofs.MomentRuns.IsTurning}
use Rattle.station_ledger.proofs.by_moment.replace_runs.Given as goal

-- the runs that were moved so far, and the readings that are left
abbrev pub invariant-loop-left : goal.invariant-loop-left
invariant-loop-left l = record {
  moving : (o seq : ℕ) (rest : List Flowed)
      → AreToMove l.fn.way o seq l.fn.period l.fn.direction l.fn.readings l.fn.index l.fn.quarters rest
      → IsTurning l.fn.way seq l.fn.period l.fn.direction l.fn.readings l.left (owned o l.fn.index.entries) rest l.quarters l.fn.work l.work l.less l.more;
  capacity : l.quarters.capacity ≡ l.fn.quarters.capacity;
}

abbrev pub decreases-loop-left : goal.decreases-loop-left
decreases-loop-left l = length l.left
