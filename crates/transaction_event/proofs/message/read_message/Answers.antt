use Rattle.std.proofs.Common.{sym, ◌∙◌, subst}
use Rattle.ocppj_frame.{specs.Frame.{Frame, Called}, specs.Call.{id_of, payload_of}, specs.declared.action.Action.Action}
use Rattle.transaction_event.specs.MessageMeaning.{IsMeaningOfFrame, with_reply}
use Rattle.transaction_event.proofs.message.read_message.Goals as goal

pub returns-in-TransactionEvent-clause-meaning : goal.returns-in-TransactionEvent-clause-meaning
returns-in-TransactionEvent-clause-meaning c =
    let call = c.in-Call.call in
    let P : Frame → Type 0 = λ frame. IsMeaningOfFrame c.args.now frame (with_reply c.event_asked.result c.event_asked.new.reply) in
    let Q : Action → Type 0 = λ action. P (Called (id_of call) action (payload_of call)) in
    subst P (sym c.in-Call.ensures.meaning) (subst Q (sym c.in-TransactionEvent.is ∙ c.action.ensures) (c.event_asked.ensures.meaning c.args.now))
