use Rattle.std.proofs.Common.{◌≡◌, ◌-◌, length, drop}
use Rattle.key_index.specs.Marks.{marked}
use Rattle.key_index.proofs.leaf.Leaf.first_marked.Given as goal

abbrev pub invariant-loop-at : goal.invariant-loop-at
invariant-loop-at g l = marked l.mark (drop l.at l.self-inside.entries.items) ≡ marked l.mark (drop l.place l.self-inside.entries.items)

abbrev pub decreases-loop-at : goal.decreases-loop-at
decreases-loop-at g l = length l.self-inside.entries.items - l.at
