-- What a desk answers to the delivery of an event.
use Rattle.std.{proofs.Common.{◌≡◌, List, Option, None, Some, Result, Ok, Err, true, refl, sym, subst, arith, slice_get}, specs.Prelude.{IfOk, OnErr}}
use Rattle.ledger_model.{specs.declared.answer.Answer.Answer, specs.declared.answer.Answer.TheVariants.{Accepted, Repeat, Refused}, specs.declared.answer.Refusal.TheVariants.{ConflictingEvent, TooManyTransactions, EventsFull, ReadingsFull, NoSuchEvent, AlreadyVoided, NotVoided, ChangesExhausted}, specs.declared.command.Command.Command, specs.declared.command.Command.TheVariants.Deliver, specs.Event.EventContent, specs.Key.KeyName}
use Rattle.site_book.specs.Book.{Known}
use Rattle.site_desk.{specs.declared.roster.StationPlace.StationPlace, specs.Submit.{IsAnswered, IsUnchanged, Submitted}, specs.Cell.Held}
use Rattle.transaction_event.{specs.Laws.EachDeliveryIsAnswered, specs.Reply.answers_delivery}
use Rattle.station_link.specs.Answer.{IsNextPass, IsSubmitted}

-- an answer of the step to a delivery has a reply
by_step : (at : StationPlace) (p : Held) (key : KeyName) (event : EventContent) (a : Answer) (p' : Held) (told : Option Known)
    → EachDeliveryIsAnswered → IsAnswered at p (Deliver key event) a p' told → answers_delivery a ≡ true
by_step at p key event a p' told law h =
    let P : Answer → Type 0 = λ x. answers_delivery x ≡ true in
    subst P h.answered (law at.limits h.before key event)

-- what a delivery comes to at a place has a reply
replied_at : (at : StationPlace) (p : Held) (key : KeyName) (event : EventContent) (a : Answer) (p' : Held) (told : Option Known)
    → EachDeliveryIsAnswered → Submitted at p (Deliver key event) a p' told → answers_delivery a ≡ true
replied_at at p key event (Accepted n) p' told law h = refl
replied_at at p key event Repeat p' told law h = refl
replied_at at p key event (Refused ChangesExhausted) p' told law h = refl
replied_at at p key event (Refused ConflictingEvent) p' told law h = refl
replied_at at p key event (Refused TooManyTransactions) p' told law h = refl
replied_at at p key event (Refused EventsFull) p' told law h = refl
replied_at at p key event (Refused ReadingsFull) p' told law h = refl
replied_at at p key event (Refused NoSuchEvent) p' told law h = by_step at p key event _ p' told law h
replied_at at p key event (Refused AlreadyVoided) p' told law h = by_step at p key event _ p' told law h
replied_at at p key event (Refused NotVoided) p' told law h = by_step at p key event _ p' told law h

-- a pass that is as it was
same_pass : (p p' : Held) → p' ≡ p → IsNextPass p p'
same_pass p p' same =
    let P : Held → Type 0 = λ q. IsNextPass p q in
    subst P (sym same) (record { station = refl; changes = omega arith })

-- the pass after a command at a place
next_at : (at : StationPlace) (p : Held) (command : Command) (a : Answer) (p' : Held) (told : Option Known) → Submitted at p command a p' told → IsNextPass p p'
next_at at p command (Accepted n) p' told h =
    let P : Held → Type 0 = λ q. IsNextPass p q in
    subst P (sym h.pass) (record { station = refl; changes = omega arith })
next_at at p command Repeat p' told h = same_pass p p' h.unchanged.pass
next_at at p command (Refused ChangesExhausted) p' told h = same_pass p p' h.pass
next_at at p command (Refused ConflictingEvent) p' told h = same_pass p p' h.unchanged.pass
next_at at p command (Refused TooManyTransactions) p' told h = same_pass p p' h.unchanged.pass
next_at at p command (Refused EventsFull) p' told h = same_pass p p' h.unchanged.pass
next_at at p command (Refused ReadingsFull) p' told h = same_pass p p' h.unchanged.pass
next_at at p command (Refused NoSuchEvent) p' told h = same_pass p p' h.unchanged.pass
next_at at p command (Refused AlreadyVoided) p' told h = same_pass p p' h.unchanged.pass
next_at at p command (Refused NotVoided) p' told h = same_pass p p' h.unchanged.pass

replied_by : (stations : List StationPlace) (there : Option StationPlace) (p : Held) (key : KeyName) (event : EventContent) (a : Answer) (p' : Held)
    → slice_get stations p.station ≡ there → EachDeliveryIsAnswered → IsSubmitted stations p (Deliver key event) a p'
    → answers_delivery a ≡ true
replied_by stations None p key event a p' e law h =
    let P : Answer → Type 0 = λ x. answers_delivery x ≡ true in
    subst P (sym (h.stranger e).0) refl
replied_by stations (Some at) p key event a p' e law h = replied_at at p key event a p' (h.settled at e).0 law (h.settled at e).1

next_by : (stations : List StationPlace) (there : Option StationPlace) (p : Held) (command : Command) (a : Answer) (p' : Held)
    → slice_get stations p.station ≡ there → IsSubmitted stations p command a p' → IsNextPass p p'
next_by stations None p command a p' e h = same_pass p p' (h.stranger e).1
next_by stations (Some at) p command a p' e h = next_at at p command a p' (h.settled at e).0 (h.settled at e).1

-- what a desk answers to a delivery has a reply
pub submitted_is_replied : (stations : List StationPlace) (p : Held) (key : KeyName) (event : EventContent) (a : Answer) (p' : Held)
    → EachDeliveryIsAnswered → IsSubmitted stations p (Deliver key event) a p' → answers_delivery a ≡ true
submitted_is_replied stations p key event a p' law h = replied_by stations (slice_get stations p.station) p key event a p' refl law h

-- the pass after a command to a desk
pub submitted_pass : (stations : List StationPlace) (p : Held) (command : Command) (a : Answer) (p' : Held) → IsSubmitted stations p command a p' → IsNextPass p p'
submitted_pass stations p command a p' h = next_by stations (slice_get stations p.station) p command a p' refl h

-- what is answered to a delivery has a reply
pub delivered_is_replied : {E M : Type 0} (stations : List StationPlace) (p : Held) (key : KeyName) (event : EventContent)
    (result : Result (Answer × Option M) E) (p' : Held)
    → EachDeliveryIsAnswered
    → IfOk result (λ r. IsSubmitted stations p (Deliver key event) r.0 p') → IfOk result (λ r. answers_delivery r.0 ≡ true)
delivered_is_replied stations p key event (Ok r) p' law h = submitted_is_replied stations p key event r.0 p' law h
delivered_is_replied stations p key event (Err e) p' law h = h

-- the pass after a delivery, and where there was no memory for it
pub delivered_pass : {E M : Type 0} (stations : List StationPlace) (p : Held) (command : Command) (result : Result (Answer × Option M) E) (p' : Held)
    → IfOk result (λ r. IsSubmitted stations p command r.0 p') → OnErr result (p' ≡ p) → IsNextPass p p'
delivered_pass stations p command (Ok r) p' h same = submitted_pass stations p command r.0 p' h
delivered_pass stations p command (Err e) p' h same =
    let P : Held → Type 0 = λ q. IsNextPass p q in
    subst P (sym same) (record { station = refl; changes = omega arith })
