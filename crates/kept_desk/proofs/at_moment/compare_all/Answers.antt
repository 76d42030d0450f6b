use Rattle.std.{proofs.Common.{sym, ◌∙◌, subst}, specs.Prelude.All, specs.Sync.Mutex.mutex_guard_value, proofs.lemmas.List.Elements.All-push}
use Rattle.kept_desk.{specs.Journal.Ledger, specs.Kept.IsLeftOwn}
use Rattle.kept_desk.proofs.at_moment.compare_all.Goals as goal

pub loop-guard-preserved : goal.loop-guard-preserved
loop-guard-preserved g c =
    let first = g.K.Opening.first in
    let before = c.loop-guard.invariant in
    let x = c.compare_one.result in
    record {
      same = c.compare_one.ensures.log ∙ before.same;
      left = subst (All (λ h. IsLeftOwn first c.args.log.now.entries (mutex_guard_value h))) (sym c.in_ok-push.ensures.items)
          (All-push (λ h. IsLeftOwn first c.args.log.now.entries (mutex_guard_value h)) c.loop-guard.compared.items x before.left
          (subst (λ (j : Ledger). IsLeftOwn first j.entries (mutex_guard_value x)) before.same c.compare_one.ensures.left));
    }
