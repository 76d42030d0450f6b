use Rattle.std.proofs.Common.{◌≡◌, ◌≤◌, ◌+◌, ◌-◌, false, drop, length}
use Rattle.marked_json.specs.Steps.{string_len}
use Rattle.marked_json.proofs.marking.string_len.Given as goal

abbrev pub invariant-loop-ahead : goal.invariant-loop-ahead
invariant-loop-ahead l = (l.at ≤ length l.bytes) × (l.at + string_len false (drop l.at l.bytes) ≡ string_len false l.bytes)

abbrev pub decreases-loop-ahead : goal.decreases-loop-ahead
decreases-loop-ahead l = length l.bytes - l.at
