-- The worked examples compute.
use Rattle.std.proofs.Common.{◌≡◌, List, [], ap, ◌∙◌}
use Rattle.energy_flow.specs.Flow.{Energy}
use Rattle.ledger_model.{specs.declared.command.Command.Command, specs.declared.answer.Answer.Answer, specs.Limits.Bounds, specs.Content.{entries, empty_content}, specs.declared.reading.Direction.TheVariants.Import, specs.Energy.energy, specs.Laws.{answers, left_by}, proofs.ListedRuns.{told_all, listed_left, told_from_empty, entries_from_empty}}

-- the energy after a list of commands
pub energy_after : (limits : Bounds) (commands : List Command) (e : Energy)
    → energy Import (listed_left limits ([], 0) commands).0 ≡ e → energy Import (entries (left_by limits empty_content commands)) ≡ e
energy_after limits commands e h = ap (energy Import) (entries_from_empty limits commands) ∙ h

-- the answers to a list of commands
pub answers_to : (limits : Bounds) (commands : List Command) (told : List Answer) → told_all limits ([], 0) commands ≡ told → answers limits empty_content commands ≡ told
answers_to limits commands told h = told_from_empty limits commands ∙ h
