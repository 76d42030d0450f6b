use Rattle.std.proofs.Common.{◌∙◌, ap, refl}
use Rattle.script_ledgers.{specs.Script.opened_script, specs.State.State}
use Rattle.journal_script.proofs.UpToListen.{left_by}
use Rattle.journal_script.proofs.restored_script.RestoredScript.into_restored.Goals as goal

pub returns-clause-left : goal.returns-clause-left
returns-clause-left g c =
    let opened = c.in_ok-draft.ensures.script ∙ ap (λ (s : State). opened_script s.script) c.into_script.ensures in
    left_by c.args.self.script.script c.in_ok-draft.draft c.in_ok-draft.cells.items _ c.args.self.source.left_out opened refl refl refl
