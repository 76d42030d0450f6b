-- The answers to deliveries.
use Rattle.std.{proofs.Common.{◌≡◌, Bool, true, false, refl, length, ◌+◌}, specs.Prelude.{Option, None, Some, not, ◌&&◌, nat_le, nat_lt, if◌then◌else◌}}
use Rattle.std.specs.FinMap as finite
use Rattle.ledger_model.{specs.declared.answer.Answer.Answer, specs.declared.answer.Answer.TheVariants.{Accepted, Repeat, Refused}, specs.declared.answer.Refusal.TheVariants.{ConflictingEvent, TooManyTransactions, EventsFull, ReadingsFull, ChangesExhausted}, specs.Key.KeyName, specs.Event.{EventContent, same_event}, specs.Limits.Bounds, specs.Content.{Content, Stored, entries, transactions_of, has_transaction}, specs.Step.{answer_to_deliver, readings_stored, accepted_within_limit}}
use Rattle.transaction_event.{specs.Laws.EachDeliveryIsAnswered, specs.Reply.answers_delivery}

either : (b : Bool) (x y : Answer) → answers_delivery x ≡ true → answers_delivery y ≡ true → answers_delivery (if b then x else y) ≡ true
either true x y left right = left
either false x y left right = right

by_event : (limits : Bounds) (c : Content) (key : KeyName) (event : EventContent) (there : Option Stored) → answers_delivery (answer_to_deliver limits c key event there) ≡ true
by_event limits c key event (Some stored) = either (same_event stored.event event) Repeat (Refused ConflictingEvent) refl refl
by_event limits c key event None =
    let changes : answers_delivery (accepted_within_limit limits c) ≡ true = either (nat_le limits.changes c.changes) (Refused ChangesExhausted) (Accepted (c.changes + 1)) refl refl in
    let readings = either (nat_lt limits.readings (readings_stored (entries c) + length event.readings)) (Refused ReadingsFull) (accepted_within_limit limits c) refl changes in
    let events = either (nat_le limits.events (length (entries c))) (Refused EventsFull) _ refl readings in
    either (not (has_transaction key.tx (entries c)) && nat_le limits.transactions (length (transactions_of (entries c)))) (Refused TooManyTransactions) _ refl events

-- whatever a ledger holds, its answer to a delivery has a reply
pub each_delivery_is_answered : EachDeliveryIsAnswered
each_delivery_is_answered limits content key event = by_event limits content key event (finite.get content.events key)
