use Rattle.std.proofs.Common.{◌≡◌, ◌≤◌, length, take}
use Rattle.key_index.{specs.Leaves.all_of, specs.Marks.marked}
use Rattle.key_index.proofs.leaves.last_in_front.Given as goal

abbrev pub invariant-loop-front : goal.invariant-loop-front
invariant-loop-front g l = record {
  within : l.front ≤ length l.leaves.items;
  same : marked l.mark (all_of (take l.front l.leaves.items)) ≡ marked l.mark (all_of (take l.at l.leaves.items));
}

abbrev pub decreases-loop-front : goal.decreases-loop-front
decreases-loop-front g l = l.front
