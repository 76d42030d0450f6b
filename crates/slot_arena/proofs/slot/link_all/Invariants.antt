use Rattle.std.proofs.Common.{◌≡◌, ◌-◌, ◌≤◌, ◌++◌, None, replicate}
use Rattle.slot_arena.specs.Free.{links}
use Rattle.slot_arena.proofs.slot.link_all.Given as goal

abbrev pub invariant-loop-index : goal.invariant-loop-index
invariant-loop-index g l = record {
  at : l.places.at ≡ l.start.ptr;
  within : l.index ≤ l.count;
  row : l.places.row ≡ replicate l.index None ++ links l.index (l.count - l.index);
}

abbrev pub decreases-loop-index : goal.decreases-loop-index
decreases-loop-index g l = l.index
