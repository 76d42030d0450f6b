use Rattle.std.proofs.Common.{ℕ, [], ◌+◌, ◌-◌, ◌<◌, ◌≤◌, length, get_or}
use Rattle.key_index.proofs.leaves.pair_that_fits.Given as goal

abbrev pub invariant-loop-at : goal.invariant-loop-at
invariant-loop-at g l = record {
  within : l.at ≤ length l.leaves.items;
  none : (k : ℕ) → k < l.at → 128 < length (get_or l.leaves.items k []) + length (get_or l.leaves.items (k + 1) []);
}

abbrev pub decreases-loop-at : goal.decreases-loop-at
decreases-loop-at g l = length l.leaves.items - l.at
