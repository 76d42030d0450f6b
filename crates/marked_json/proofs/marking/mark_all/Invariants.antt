use Rattle.std.proofs.Common.{◌≡◌, ◌≤◌, ◌-◌, take, drop, length}
use Rattle.marked_json.{specs.Marking.{marked, outside}, specs.Steps.{completed, IsWithinRoom}}
use Rattle.marked_json.proofs.marking.mark_all.Given as goal

abbrev pub invariant-loop-at : goal.invariant-loop-at
invariant-loop-at l = (l.at ≤ length l.text) × (length l.out ≡ length l.fn.out) × IsWithinRoom l.len l.text l.at × (completed (take l.len l.out) (drop l.at l.text) ≡ marked outside l.text)

abbrev pub decreases-loop-at : goal.decreases-loop-at
decreases-loop-at l = length l.text - l.at
