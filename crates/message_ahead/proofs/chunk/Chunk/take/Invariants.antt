use Rattle.std.{proofs.Common.{All, length}, specs.Arc.arc_value}
use Rattle.message_ahead.specs.Ahead.{IsFound}
use Rattle.message_ahead.proofs.chunk.Chunk.take.Given as goal

abbrev pub invariant-stale : goal.invariant-stale
invariant-stale l = All (IsFound (arc_value l.self.pieces).bytes.items l.self.readings.items) l.self.found.items

abbrev pub decreases-stale : goal.decreases-stale
decreases-stale l = length l.self.found.items
