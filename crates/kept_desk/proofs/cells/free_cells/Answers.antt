use Rattle.std.{proofs.Common.{[], ◌∷◌, ◌++◌, sym, ◌∙◌, subst}, specs.Prelude.All, proofs.lemmas.Iterator.Adapters.YieldsList-from_vec, proofs.lemmas.Iterator.Consumers.YieldsList-end, proofs.lemmas.List.map-id, proofs.lemmas.List.Elements.All-push}
use Rattle.kept_desk.{specs.Entries.of_station, specs.Journal.Ledger, specs.Kept.{IsLeftFrom, commands_of}}
use Rattle.ledger_model.specs.declared.command.Command.{Command}
use Rattle.site_desk.specs.Cell.{Cell, IsInService}
use Rattle.kept_desk.proofs.cells.free_cells.Goals as goal

pub loop-each-preserved : goal.loop-each-preserved
loop-each-preserved g c =
    let first = g.K.Opening.first in
    let before = c.loop-each.invariant in
    let d = c.in-Some.each in
    record {
      cells = c.push_reserved.ensures.items ∙ (λ i. before.cells i ++ c.free_cell-cell.ensures.cell i ∷ []);
      same = c.free_cell-cell.ensures.log ∙ before.same;
      room = c.push_reserved.ensures.capacity ∙ before.room;
      left = All-push (λ (e : Cell). IsInService e → IsLeftFrom e.limits (first e.station) e.content (commands_of (of_station e.station c.args.log.now.entries))) c.loop-each.yielded d before.left
          (subst (λ (j : Ledger). IsInService d → IsLeftFrom d.limits (first d.station) d.content (commands_of (of_station d.station j.entries))) before.same c.free_cell-cell.ensures.left);
    }

pub returns-clause-left : goal.returns-clause-left
returns-clause-left g c =
    let first = g.K.Opening.first in
    let items = c.args.kept.items in
    let gives = c.into_iter-each-iterator.ensures.into_iter_gives in
    let end = YieldsList-end (YieldsList-from_vec items gives.0 (gives.1 ∙ c.args.kept.ok.0)) c.loop-each.yielded
    _ c.loop-each.yielded_by c.next.result c.next.new.self c.in-None.is c.next.ensures.steps in
    subst (All (λ (e : Cell). IsInService e → IsLeftFrom e.limits (first e.station) e.content (commands_of (of_station e.station c.args.log.now.entries))))
    (sym (map-id c.loop-each.yielded) ∙ end.0) c.loop-each.invariant.left
