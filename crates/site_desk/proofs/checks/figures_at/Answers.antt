use Rattle.std.{proofs.Common.{◌≡◌, ◌+◌, ◌-◌, ◌<◌, length, drop, map, get_or, ap, sym, ◌∙◌, subst, arith}, proofs.lemmas.List.length-map}
use Rattle.site_desk.{specs.Close.figures_at, proofs.Comparisons.{figures_more, cell_at}}
use Rattle.site_desk.proofs.checks.figures_at.Goals as goal

pub loop-done-preserved : goal.loop-done-preserved
loop-done-preserved g c =
    let cell = g.C.HasCell.cell in
    let xs = c.args.cells.now in
    let ys = map cell xs in
    let long : length ys ≡ length xs = length-map xs cell in
    let done = c.loop-done.done in
    let site = c.args.site in
    let d = c.cell.result.now in
    let at : d ≡ get_or ys (length xs - 1 - done) d = cell_at cell xs _ c.index-cells-cells.result d c.index-cells-cells.is c.cell.ensures in
    let less : done < length ys = omega (arith, long) in
    let before : c.loop-done.sum ≡ figures_at (drop (length ys - done) ys) site = c.loop-done.invariant ∙ ap (λ n. figures_at (drop (n - done) ys) site) (sym long) in
    let there : d ≡ get_or ys (length ys - 1 - done) d = at ∙ ap (λ n. get_or ys (n - 1 - done) d) (sym long) in
    subst (λ n. c.in_ok-sum.sum ≡ figures_at (drop (n - (done + 1)) ys) site) long (figures_more ys site done d c.loop-done.sum c.in_ok-sum.sum less before there c.in_ok-sum.ensures)
