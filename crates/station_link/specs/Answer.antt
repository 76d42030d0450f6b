-- The answer to a station's text, and the changes that it makes.
use Rattle.std.specs.Prelude.{◌≡◌, ℕ, ◌+◌, ◌≤◌, Bool, true, false, List, Option, None, Some, slice_get}
use Rattle.ledger_model.{specs.declared.answer.Answer.Answer, specs.declared.answer.Answer.TheVariants.Refused, specs.declared.answer.Refusal.TheVariants.ChangesExhausted, specs.declared.command.Command.Command, specs.declared.command.Command.TheVariants.Deliver, specs.Event.EventContent, specs.Key.KeyName}
use Rattle.ocppj_frame.specs.Frame.{frame}
use Rattle.site_book.specs.Book.{Known}
use Rattle.site_desk.{specs.declared.roster.StationPlace.StationPlace, specs.Submit.Submitted, specs.Cell.Held}
use Rattle.transaction_event.{specs.Message.{Meaning, Event, Ready, Silence, message}, specs.MessageMeaning.IsMemoryReply, specs.Reply.event_reply_bytes, specs.Request.Request}

-- The text is a message that asks, at some moment, to deliver this event.
pub record Asks (text : List ℕ) (key : KeyName) (event : EventContent) : Type 0 where
  pub now : ℕ
  pub id : List ℕ
  pub request : Request
  pub means : message text now ≡ Event id request
  pub key_is : request.key ≡ key
  pub event_is : request.event ≡ event

-- What follows from a submitted command at a station of this place, whatever its site's book gave with the answer.
abbrev pub IsSettled : StationPlace → Held → Command → Answer → Held → Type 0
IsSettled at p command answer p' = (told : Option Known) × Submitted at p command answer p' told

-- What a desk of these stations can answer to a command of a pass; a pass of no station of the desk
-- gets ChangesExhausted.
pub record IsSubmitted (stations : List StationPlace) (p : Held) (command : Command) (answer : Answer) (p' : Held) : Type 0 where
  pub settled : (at : StationPlace) → slice_get stations p.station ≡ Some at → IsSettled at p command answer p'
  pub stranger : slice_get stations p.station ≡ None → (answer ≡ Refused ChangesExhausted) × (p' ≡ p)

-- What comes with the answer to a command with a pass of the station of this number: what is known of it at the
-- station's place.
abbrev pub IsGivenAt : {M : Type 0} → (ℕ → StationPlace → Command → Answer → Option M → Type 0) → List StationPlace → ℕ → Command → Answer → Option M → Type 0
IsGivenAt gives stations number command answer seen = (at : StationPlace) → slice_get stations number ≡ Some at → gives number at command answer seen

-- The pass after one text: it belongs to the same station, and made at most one more change.
pub record IsNextPass (p p' : Held) : Type 0 where
  pub station : p'.station ≡ p.station
  pub changes : p'.changes ≤ p.changes + 1

-- The reply to an event is the reply to an answer that the desk can give to its delivery, and what comes with it
-- belongs to that answer.
pub record IsDelivered {M : Type 0} (gives : ℕ → StationPlace → Command → Answer → Option M → Type 0)
    (stations : List StationPlace) (p : Held) (id : List ℕ) (request : Request) (text : Option (List ℕ)) (p' : Held)
    (seen : Option M) : Type 0 where
  pub answer : Answer
  pub submitted : IsSubmitted stations p (Deliver request.key request.event) answer p'
  pub given : IsGivenAt gives stations p.station (Deliver request.key request.event) answer seen
  pub reply : text ≡ Some (event_reply_bytes id request.token answer)

-- This text is ready, or none is, and nothing changed or came with it.
pub record IsReady {M : Type 0} (expected : Option (List ℕ)) (p : Held) (text : Option (List ℕ)) (p' : Held) (seen : Option M) : Type 0 where
  pub same : text ≡ expected
  pub unchanged : p' ≡ p
  pub nothing : seen ≡ None

-- The reply reports OutOfMemory, and nothing changed.
pub record TellsMemory {M : Type 0} (words : List ℕ) (p : Held) (text : Option (List ℕ)) (p' : Held) (seen : Option M) : Type 0 where
  pub reply : List ℕ
  pub tells : IsMemoryReply (frame words) reply
  pub ready : IsReady (Some reply) p text p' seen

-- The answer to a meaning: silence, the ready reply, or the reply to the delivery.
abbrev pub AnswersMeaning : {M : Type 0} → (ℕ → StationPlace → Command → Answer → Option M → Type 0)
    → List StationPlace → Held → Meaning → Option (List ℕ) → Held → Option M → Type 0
AnswersMeaning gives stations p Silence text p' seen = IsReady None p text p' seen
AnswersMeaning gives stations p (Ready reply) text p' seen = IsReady (Some reply) p text p' seen
AnswersMeaning gives stations p (Event id request) text p' seen = IsDelivered gives stations p id request text p' seen

-- The answer to a station's text at a moment; the last argument says whether there was no memory to read
-- it.
abbrev pub Answers : {M : Type 0} → (ℕ → StationPlace → Command → Answer → Option M → Type 0) → List StationPlace
    → Held → List ℕ → ℕ → Option (List ℕ) → Held → Option M → Bool → Type 0
Answers gives stations p words now text p' seen true = TellsMemory words p text p' seen
Answers gives stations p words now text p' seen false = AnswersMeaning gives stations p (message words now) text p' seen

-- The answer to a meaning, with the desk's answer to its event, if it has one.
abbrev pub OutcomeOfMeaning : {M : Type 0} → (ℕ → StationPlace → Command → Answer → Option M → Type 0)
    → List StationPlace → Held → Meaning → Option Answer → Option (List ℕ) → Held → Option M → Type 0
OutcomeOfMeaning gives stations p Silence outcome text p' seen = (outcome ≡ None) × IsReady None p text p' seen
OutcomeOfMeaning gives stations p (Ready reply) outcome text p' seen = (outcome ≡ None) × IsReady (Some reply) p text p' seen
OutcomeOfMeaning gives stations p (Event id request) outcome text p' seen = (d : IsDelivered gives stations p id request text p' seen) × (outcome ≡ Some d.answer)

-- The answer to a station's text at a moment, with the desk's answer to its event; there is none if there was no memory
-- to read the text.
abbrev pub Outcomes : {M : Type 0} → (ℕ → StationPlace → Command → Answer → Option M → Type 0) → List StationPlace
    → Held → List ℕ → ℕ → Option Answer → Option (List ℕ) → Held → Option M → Bool → Type 0
Outcomes gives stations p words now outcome text p' seen true = (outcome ≡ None) × TellsMemory words p text p' seen
Outcomes gives stations p words now outcome text p' seen false = OutcomeOfMeaning gives stations p (message words now) outcome text p' seen

-- The reply in the caller's buffer, if there is one.
abbrev pub reply_of : Bool → List ℕ → Option (List ℕ)
reply_of true text = Some text
reply_of false text = None
