use Rattle.std.proofs.Common.{◌≤◌, ◌-◌, length}
use Rattle.key_index.specs.Leaves.{begun}
use Rattle.key_index.proofs.leaves.leaf_of.Given as goal

abbrev pub invariant-loop-low : goal.invariant-loop-low
invariant-loop-low g l = record {
  lower : l.low ≤ begun (g.K.Ranked.rank l.key) l.leaves.items;
  upper : begun (g.K.Ranked.rank l.key) l.leaves.items ≤ l.high;
  within : l.high ≤ length l.leaves.items;
}

abbrev pub decreases-loop-low : goal.decreases-loop-low
decreases-loop-low g l = l.high - l.low
