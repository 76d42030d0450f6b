use Rattle.std.{proofs.Common.{◌≡◌, ◌≤◌, length}, specs.Vec.vec_capacity}
use Rattle.key_index.specs.Leaves.{AreEmpty}
use Rattle.key_index.proofs.index.KeyIndex.open.Given as goal

abbrev pub invariant-loop : goal.invariant-loop
invariant-loop g l = record {
  empty : AreEmpty l.spare.items;
  count : length l.spare.items ≡ l.counter;
  room : l.count ≤ vec_capacity l.spare;
}
