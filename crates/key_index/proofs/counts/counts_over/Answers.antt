use Rattle.std.proofs.Common.{take, arith, length-take}
use Rattle.key_index.proofs.Counting.{count_within}
use Rattle.key_index.proofs.counts.counts_over.Goals as goal

pub more-counts-requires : goal.more-counts-requires
more-counts-requires g c m =
    let es = c.args.entries.now in let i = c.loop-entry.entry-index in
    omega (arith, c.loop-entry.invariant m, count_within m (take i es), length-take i es, c.requires)
