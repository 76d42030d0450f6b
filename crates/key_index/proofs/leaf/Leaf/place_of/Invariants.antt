use Rattle.std.proofs.Common.{◌≤◌, ◌-◌, length}
use Rattle.key_index.specs.Entries.{below}
use Rattle.key_index.proofs.leaf.Leaf.place_of.Given as goal

abbrev pub invariant-loop-low : goal.invariant-loop-low
invariant-loop-low g l = record {
  lower : l.low ≤ length (below (g.K.Ranked.rank l.key) l.self-inside.entries.items);
  upper : length (below (g.K.Ranked.rank l.key) l.self-inside.entries.items) ≤ l.high;
  within : l.high ≤ length l.self-inside.entries.items;
}

abbrev pub decreases-loop-low : goal.decreases-loop-low
decreases-loop-low g l = l.high - l.low
