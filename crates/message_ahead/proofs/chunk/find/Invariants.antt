use Rattle.std.proofs.Common.{◌≤◌, All, length}
use Rattle.message_ahead.specs.Ahead.{IsFound}
use Rattle.message_ahead.proofs.chunk.find.Given as goal

abbrev pub invariant-lines : goal.invariant-lines
invariant-lines l = All (IsFound l.bytes l.readings.items) l.found.items × (l.end ≤ length l.bytes) × (l.begin ≤ l.end)

abbrev pub decreases-lines : goal.decreases-lines
decreases-lines l = l.end
