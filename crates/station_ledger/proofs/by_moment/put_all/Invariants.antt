use Rattle.std.proofs.Common.{◌≡◌, ◌+◌, ◌≤◌, length}
use Rattle.station_ledger.specs.ByMoment.{ArePuttable, put_each}
use Rattle.station_ledger.proofs.by_moment.put_all.Given as goal

abbrev pub invariant-loop-left : goal.invariant-loop-left
invariant-loop-left l = record {
  room : length l.index.entries + length l.left ≤ l.index.capacity;
  apart : ArePuttable l.left l.index.entries;
  entries : put_each l.left l.index.entries ≡ put_each l.fn.readings l.fn.index.entries;
  capacity : l.index.capacity ≡ l.fn.index.capacity;
}

abbrev pub decreases-loop-left : goal.decreases-loop-left
decreases-loop-left l = length l.left
