use Rattle.std.proofs.Common.{arith}
use Rattle.key_index.specs.declared.filed.Mark.TheVariants.{Live, Imports, Exports, Names}
use Rattle.key_index.proofs.counts.Counts.minus.Goals as goal

pub overflow_sub-result : goal.overflow_sub-result
overflow_sub-result c = omega (arith, c.requires Live)

pub overflow_sub-result-2 : goal.overflow_sub-result-2
overflow_sub-result-2 c = omega (arith, c.requires Imports)

pub overflow_sub-result-3 : goal.overflow_sub-result-3
overflow_sub-result-3 c = omega (arith, c.requires Exports)

pub overflow_sub-result-4 : goal.overflow_sub-result-4
overflow_sub-result-4 c = omega (arith, c.requires Names)
