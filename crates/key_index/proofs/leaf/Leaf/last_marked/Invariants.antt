use Rattle.std.proofs.Common.{◌≡◌, ◌≤◌, length, take}
use Rattle.key_index.specs.Marks.{marked}
use Rattle.key_index.proofs.leaf.Leaf.last_marked.Given as goal

abbrev pub invariant-loop-at : goal.invariant-loop-at
invariant-loop-at g l = record {
  within : l.at ≤ length l.self-inside.entries.items;
  same : marked l.mark (take l.at l.self-inside.entries.items) ≡ marked l.mark (take l.place l.self-inside.entries.items);
}

abbrev pub decreases-loop-at : goal.decreases-loop-at
decreases-loop-at g l = l.at
