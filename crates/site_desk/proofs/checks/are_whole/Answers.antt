use Rattle.std.{proofs.Common.{map, arith}, proofs.lemmas.List.length-map}
use Rattle.site_desk.{specs.Close.IsWhole, proofs.Comparisons.{each_more, each_all, cell_at}}
use Rattle.site_desk.proofs.checks.are_whole.Goals as goal

pub loop-k-preserved : goal.loop-k-preserved
loop-k-preserved g c =
    let cell = g.C.HasCell.cell in
    each_more (IsWhole c.args.places.now c.args.books.now c.args.passes.now) (map cell c.args.cells.now) c.loop-k.k c.cell.result.now
    (cell_at cell c.args.cells.now c.loop-k.k c.index-cells-k.result c.cell.result.now c.index-cells-k.is c.cell.ensures)
    c.loop-k.invariant (c.is_whole.ensures c.if-not-is_whole.false)

pub returns : goal.returns
returns g c = λ _. each_all (IsWhole c.args.places.now c.args.books.now c.args.passes.now) (map g.C.HasCell.cell c.args.cells.now)
    c.loop-k.k (omega (arith, length-map c.args.cells.now g.C.HasCell.cell)) c.loop-k.invariant
