use Rattle.std.proofs.Common.{◌≡◌, ◌-◌, ◌≤◌, ◌++◌, None, replicate, drop}
use Rattle.slot_arena.proofs.slot.clear_all.Given as goal

abbrev pub invariant-loop-index : goal.invariant-loop-index
invariant-loop-index g l = record {
  at : l.places.at ≡ l.start.ptr;
  within : l.index ≤ l.count;
  row : l.places.row ≡ replicate l.index None ++ drop l.index l.fn.places.row;
}

abbrev pub decreases-loop-index : goal.decreases-loop-index
decreases-loop-index g l = l.count - l.index
