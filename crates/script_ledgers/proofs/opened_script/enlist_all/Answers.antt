use Rattle.std.{proofs.Common.{◌≡◌, ◌<◌, ◌≤◌, ◌++◌, length, get_or, map, take, drop, subst, ap, ◌∙◌, arith}, proofs.lemmas.List.take_all, proofs.Math.Seq.take-append_seam}
use Rattle.site_desk.specs.Cell.{Cell, new_tally}
use Rattle.script_ledgers.proofs.Enlisted.{enlisted_step, first_given, told_ok, told_value, turned_all}
use Rattle.script_ledgers.proofs.opened_script.enlist_all.Goals as goal

pub loop-cell-preserved : goal.loop-cell-preserved
loop-cell-preserved c =
    let cell : Cell = get_or c.loop-cell.cell-items c.loop-cell.cell-index c.cell-item.result in
    let less = subst (λ n. c.loop-cell.cell-index < n) c.loop-cell.invariant.2 c.loop-cell-test.true in
    let step = enlisted_step c.args.cells.now.items c.loop-cell.cell-items c.loop-cell.cell-index c.loop-cell.tallies.items
    c.push.new.self.items c.cell-item.result c.open_tally.new.self c.unwrap.result
    c.requires less c.loop-cell.invariant.0 c.loop-cell.invariant.1
    (told_ok c.open_tally.result c.unwrap.result _ c.unwrap.ensures c.open_tally.ensures.cell)
    (told_value c.open_tally.result c.unwrap.result (λ p. p ≡ new_tally cell.station (length cell.counts)) c.unwrap.ensures c.open_tally.ensures.tally)
    c.in_ok-push.ensures.items in
    (step.0, step.1, c.loop-cell.invariant.2)

pub returns-clause-cells : goal.returns-clause-cells
returns-clause-cells c =
    let cells = c.args.cells.now.items in
    let items = c.loop-cell.cell-items in
    let past : length cells ≤ c.loop-cell.cell-index = subst (λ l. length l ≤ c.loop-cell.cell-index) c.deref_mut-cell-items.ensures.value c.loop-cell-test.false in
    let whole : c.args.cells.now.len ≡ length items = omega (arith, c.loop-cell.auto.cell-items, c.deref_mut-cell-items.ensures.len, c.args.cells.now.ok) in
    ap (λ n. take n (items ++ drop (length items) cells)) whole
    ∙ take-append_seam items (drop (length items) cells)
    ∙ c.loop-cell.invariant.0
    ∙ turned_all first_given cells c.loop-cell.cell-index past

pub returns-clause-tallies : goal.returns-clause-tallies
returns-clause-tallies c =
    let cells = c.args.cells.now.items in
    let past : length cells ≤ c.loop-cell.cell-index = subst (λ l. length l ≤ c.loop-cell.cell-index) c.deref_mut-cell-items.ensures.value c.loop-cell-test.false in
    c.loop-cell.invariant.1 ∙ ap (map (λ (d : Cell). new_tally d.station 0)) (take_all c.loop-cell.cell-index cells past)
