use Rattle.std.proofs.Common.{ap, ◌∙◌}
use Rattle.ledger_model.specs.declared.command.Command.TheVariants.{Deliver}
use Rattle.transaction_event.{specs.Reply.answers_delivery, proofs.Deliveries.each_delivery_is_answered}
use Rattle.script_ledgers.{specs.Running.Settles, specs.State.script_of, proofs.Named.{is_at, some_of}}
use Rattle.script_ledgers.proofs.opened_script.OpenedScript.deliver.Goals as goal

pub put_event_reply-requires-clause-delivery : goal.put_event_reply-requires-clause-delivery
put_event_reply-requires-clause-delivery g c =
    let s = c.args.self.now in
    let at = is_at s.draft s.cells.items s.books.items s.tallies.items s.running c.args.number c.requires.there in
    let did = some_of _ at.station (λ t. Settles (script_of s) _ t (Deliver c.args.delivery.key c.args.delivery.event) c.settle-answer.result) at.there c.settle-answer.ensures.settled in
    ap answers_delivery did.answer_is ∙ each_delivery_is_answered at.station.limits at.station.content c.args.delivery.key c.args.delivery.event
