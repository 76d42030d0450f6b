use Rattle.std.{proofs.Common.arith, proofs.lemmas.Bool.Decides.nat_tests}
use Rattle.key_index.specs.declared.filed.Mark.TheVariants.{Live, Imports, Exports, Names}
use Rattle.key_index.proofs.counts.Counts.less.Goals as goal

pub overflow_sub-result : goal.overflow_sub-result
overflow_sub-result c = grind (arith, nat_tests, c.requires Live)

pub overflow_sub-result-2 : goal.overflow_sub-result-2
overflow_sub-result-2 c = grind (arith, nat_tests, c.requires Imports)

pub overflow_sub-result-3 : goal.overflow_sub-result-3
overflow_sub-result-3 c = grind (arith, nat_tests, c.requires Exports)

pub overflow_sub-result-4 : goal.overflow_sub-result-4
overflow_sub-result-4 c = grind (arith, nat_tests, c.requires Names)
