use Rattle.std.proofs.Common.{map, arith}
use Rattle.site_desk.{specs.Close.IsSummed, proofs.Comparisons.{each_more, each_all}}
use Rattle.site_desk.proofs.checks.are_summed.Goals as goal

pub loop-site-preserved : goal.loop-site-preserved
loop-site-preserved g c =
    each_more (IsSummed (map g.C.HasCell.cell c.args.cells.now)) c.args.books.now c.loop-site.site c.index-books-site.result
    c.index-books-site.is c.loop-site.invariant (c.is_summed.ensures c.if-not-is_summed.false)

pub returns : goal.returns
returns g c = λ _. each_all (IsSummed (map g.C.HasCell.cell c.args.cells.now)) c.args.books.now c.loop-site.site (omega arith) c.loop-site.invariant
