use Rattle.std.proofs.Common.{arith}
use Rattle.key_index.proofs.Belonging.{none_from}
use Rattle.key_index.proofs.leaves.pair_that_fits.Goals as goal

pub returns-clause-none : goal.returns-clause-none
returns-clause-none g c = none_from c.args.leaves.now.items (λ k lt. c.loop-at.invariant.none k (omega (arith, lt, c.loop-at-test.false, c.len.ensures, c.loop-at.invariant.within)))
