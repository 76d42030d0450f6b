use Rattle.std.proofs.Common.{◌∙◌, sym}
use Rattle.ledger_model.specs.declared.command.Command.TheVariants.{Deliver}
use Rattle.journal_script.proofs.Moments.{events_ask_at_any_moment}
use Rattle.journal_script.proofs.lines.asks.Goals as goal

pub returns-in-Event : goal.returns-in-Event
returns-in-Event c = λ is.
    let same = c.is_same_event.ensures is in
    let asks = events_ask_at_any_moment _ _ _ _ c.in-Event.ensures.meaning in
    record { id = asks.id; request = asks.request; means = asks.means; delivers = (λ i. Deliver (sym same.0 i) (sym same.1 i)) ∙ asks.delivers }
