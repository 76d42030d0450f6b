use Rattle.std.proofs.Common.{take}
use Rattle.key_index.specs.Marks.{AreCounts}
use Rattle.key_index.proofs.counts.counts_over.Given as goal

abbrev pub invariant-loop-entry : goal.invariant-loop-entry
invariant-loop-entry g l = AreCounts l.counts (take l.entry-index l.entries)
