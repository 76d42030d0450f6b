use Rattle.std.{proofs.Common.{List, ap, sym, ◌∙◌, subst}, specs.Prelude.All, proofs.lemmas.Iterator.Adapters.YieldsList-from_vec, proofs.lemmas.Iterator.Consumers.YieldsList-end, proofs.lemmas.List.map-id, proofs.lemmas.List.Elements.All-push}
use Rattle.kept_desk.{specs.declared.entry.Entry.Entry, specs.Journal.Ledger}
use Rattle.ledger_model.specs.declared.command.Command.{Command}
use Rattle.site_book.specs.Prefix.{IsPrefix}
use Rattle.kept_desk.proofs.cells.confirm_all.Goals as goal

pub loop-moment-preserved : goal.loop-moment-preserved
loop-moment-preserved g c =
    let before = c.loop-moment.invariant in
    let r = c.in-Some.moment in
    record {
      same = c.confirm.ensures.same ∙ before.same;
      first = All-push (λ m. IsPrefix m c.args.log.now.entries) c.loop-moment.yielded r before.first
          (subst (λ (j : Ledger). IsPrefix r j.entries) before.same c.confirm.ensures.first);
    }

pub returns-clause-first : goal.returns-clause-first
returns-clause-first g c =
    let items = c.args.moments.items in
    let gives = c.into_iter-moment-iterator.ensures.into_iter_gives in
    let end = YieldsList-end (YieldsList-from_vec items gives.0 (gives.1 ∙ c.args.moments.ok.0)) c.loop-moment.yielded
    _ c.loop-moment.yielded_by c.next.result c.next.new.self c.in-None.is c.next.ensures.steps in
    subst (All (λ m. IsPrefix m c.args.log.now.entries)) (sym (map-id c.loop-moment.yielded) ∙ end.0) c.loop-moment.invariant.first
