use Rattle.std.proofs.Common.{arith}
use Rattle.key_index.specs.declared.filed.Mark.TheVariants.{Live, Imports, Exports, Names}
use Rattle.key_index.proofs.counts.Counts.plus.Goals as goal

pub overflow_add-result : goal.overflow_add-result
overflow_add-result c = omega (arith, c.requires Live)

pub overflow_add-result-2 : goal.overflow_add-result-2
overflow_add-result-2 c = omega (arith, c.requires Imports)

pub overflow_add-result-3 : goal.overflow_add-result-3
overflow_add-result-3 c = omega (arith, c.requires Exports)

pub overflow_add-result-4 : goal.overflow_add-result-4
overflow_add-result-4 c = omega (arith, c.requires Names)
