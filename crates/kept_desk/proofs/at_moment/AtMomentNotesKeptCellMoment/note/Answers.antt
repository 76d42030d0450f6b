use Rattle.std.{proofs.Common.{ap, sym, ◌∙◌, subst}, specs.Prelude.All, specs.Sync.Mutex.mutex_guard_value}
use Rattle.kept_desk.{specs.Journal.Ledger, specs.Kept.IsLeftOwn}
use Rattle.kept_desk.proofs.at_moment.AtMomentNotesKeptCellMoment.note.Goals as goal

pub returns : goal.returns
returns g c =
    subst (λ m. All (λ h. IsLeftOwn g.K.Opening.first m (mutex_guard_value h)) c.in_ok-held.held.items)
    (sym (c.moment.ensures.moment ∙ ap (λ (j : Ledger). j.entries) c.in_ok-held.ensures.log)) c.in_ok-held.ensures.left
