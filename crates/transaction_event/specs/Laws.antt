-- The laws of the definitions.
use Rattle.std.specs.Prelude.{◌≡◌, ℕ, List, true}
use Rattle.ledger_model.{specs.declared.command.Command.TheVariants.Deliver, specs.Key.KeyName, specs.Event.EventContent, specs.Limits.Bounds, specs.Content.Content, specs.Step.answer, specs.Admissible.IsAdmissible}
use Rattle.transaction_event.{specs.Request.Request, specs.Message.{Event, message}, specs.Reply.answers_delivery}

-- Whatever a ledger holds, its answer to a delivery has a reply.
abbrev pub EachDeliveryIsAnswered : Type 0
EachDeliveryIsAnswered = (limits : Bounds) (content : Content) (key : KeyName) (event : EventContent) → answers_delivery (answer limits content (Deliver key event)) ≡ true

-- Whatever a text means at a moment, an event that it delivers can be delivered to a ledger: each part is in its
-- range.
abbrev pub EachDeliveryIsAdmissible : Type 0
EachDeliveryIsAdmissible = (text : List ℕ) (now : ℕ) (id : List ℕ) (request : Request) → message text now ≡ Event id request → IsAdmissible (Deliver request.key request.event)
