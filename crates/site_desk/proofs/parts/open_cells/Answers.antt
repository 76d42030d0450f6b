use Rattle.std.proofs.Common.{◌+◌, ◌∷◌, [], ◌++◌, ap, sym, ◌∙◌, subst, take, arith}
use Rattle.site_desk.{specs.Parts.AreNewCells, proofs.NewParts.cells_more, specs.Cell.new_cell}
use Rattle.site_desk.proofs.parts.open_cells.Goals as goal

pub loop-k-preserved : goal.loop-k-preserved
loop-k-preserved c =
    let stations = c.args.stations.now in
    let k = c.loop-k.k in
    let s = c.index-stations-k.result in
    let cell = c.in_ok-open.ensures ∙ (λ i. new_cell k s.site (c.row_of-row.ensures i) s.limits (c.period_of-period.ensures i) (c.order_of-order.ensures i)) in
    subst (AreNewCells c.args.sites.now (take (k + 1) stations)) (sym (c.in_ok-push.ensures.items ∙ ap (λ x. c.loop-k.cells.items ++ x ∷ []) cell))
    (cells_more c.args.sites.now stations c.loop-k.cells.items k s (omega arith) c.index-stations-k.is c.loop-k.invariant)
