use Rattle.std.{proofs.Common.arith, proofs.lemmas.Grind.common_steps}
use Rattle.site_book.proofs.book.blank_rows.Goals as goal

pub loop-each-preserved : goal.loop-each-preserved
loop-each-preserved c = grind (arith, common_steps)
