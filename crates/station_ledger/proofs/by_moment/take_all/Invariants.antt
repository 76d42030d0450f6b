use Rattle.std.proofs.Common.{◌≡◌, length}
use Rattle.station_ledger.specs.ByMoment.{take_each}
use Rattle.station_ledger.proofs.by_moment.take_all.Given as goal

abbrev pub invariant-loop-left : goal.invariant-loop-left
invariant-loop-left l = record {
  entries : take_each l.left l.index.entries ≡ take_each l.fn.readings l.fn.index.entries;
  capacity : l.index.capacity ≡ l.fn.index.capacity;
}

abbrev pub decreases-loop-left : goal.decreases-loop-left
decreases-loop-left l = length l.left
