use Rattle.std.proofs.Common.{◌≡◌, ◌-◌, length, drop}
use Rattle.key_index.{specs.Leaves.all_of, specs.Marks.marked}
use Rattle.key_index.proofs.leaves.first_behind.Given as goal

abbrev pub invariant-loop-back : goal.invariant-loop-back
invariant-loop-back g l = marked l.mark (all_of (drop l.back l.leaves.items)) ≡ marked l.mark (all_of (drop l.at l.leaves.items))

abbrev pub decreases-loop-back : goal.decreases-loop-back
decreases-loop-back g l = length l.leaves.items - l.back
