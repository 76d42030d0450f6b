use Rattle.std.{proofs.Common.{◌∙◌, subst}, proofs.lemmas.List.Elements.All-push}
use Rattle.site_desk.specs.Close.{Saw}
use Rattle.site_desk.proofs.locks.give_back_viewers.Goals as goal

pub loop-viewer-preserved : goal.loop-viewer-preserved
loop-viewer-preserved g c =
    let i = c.loop-viewer.invariant in
    record {
      same = c.give_back_viewer.ensures.same ∙ i.same;
      seen = All-push (Saw c.args.books.now.items) c.loop-viewer.yielded c.in-Some.viewer i.seen (subst (λ bs. Saw bs c.in-Some.viewer) i.same c.give_back_viewer.ensures.seen);
    }
