use Rattle.std.{proofs.Common.{◌≡◌, length, map, arith}, proofs.lemmas.List.length-map}
use Rattle.site_desk.{specs.Cell.Cell, specs.Close.passes_of, proofs.Comparisons.{each_more, each_all, cell_at}}
use Rattle.site_desk.proofs.checks.are_all_passes.Goals as goal

pub loop-k-preserved : goal.loop-k-preserved
loop-k-preserved g c =
    let cell = g.C.HasCell.cell in
    let same : passes_of c.loop-k.k c.args.passes.now ≡ length c.cell.result.now.counts = cc (c.passes_of.ensures, c.passes.ensures) in
    each_more (λ j (d : Cell). passes_of j c.args.passes.now ≡ length d.counts) (map cell c.args.cells.now) c.loop-k.k c.cell.result.now
    (cell_at cell c.args.cells.now c.loop-k.k c.index-cells-k.result c.cell.result.now c.index-cells-k.is c.cell.ensures) c.loop-k.invariant same

pub returns : goal.returns
returns g c = λ _. each_all (λ j (d : Cell). passes_of j c.args.passes.now ≡ length d.counts)
    (map g.C.HasCell.cell c.args.cells.now) c.loop-k.k (omega (arith, length-map c.args.cells.now g.C.HasCell.cell))
    c.loop-k.invariant
