-- The answer to a delivery under a key that has an event.
use Rattle.std.{proofs.Common.{◌≡◌, Bool, ◌↔◌, IsTrue, cond, Option, Some, ap, ◌∙◌}, proofs.lemmas.Bool.Decides.same_from_decides}
use Rattle.ledger_model.{specs.declared.answer.Answer.TheVariants.{Repeat, Refused}, specs.declared.answer.Refusal.TheVariants.ConflictingEvent, specs.Event.EventContent, specs.Key.KeyName, specs.Limits.Bounds, specs.Content.{Content, Stored}, specs.Step.answer_to_deliver, proofs.Callers.same_event-Decides}

-- the answer where an event is under the key
pub answer_known : (limits : Bounds) (c : Content) (key : KeyName) (event : EventContent) (stored : Stored) (found : Option Stored) (same : Bool)
    → Some stored ≡ found → (IsTrue same ↔ (stored.event ≡ event))
    → cond same Repeat (Refused ConflictingEvent) ≡ answer_to_deliver limits c key event found
answer_known limits c key event stored found same is decides =
    ap (λ b. cond b Repeat (Refused ConflictingEvent)) (same_from_decides same _ decides (same_event-Decides stored.event event))
    ∙ ap (answer_to_deliver limits c key event) is
