-- The texts of a session, and their answers, one after the other.
use Rattle.std.specs.Prelude.{◌≡◌, ◌⊎◌, ℕ, Bool, false, true, List, [], ◌∷◌, ◌++◌, length, Option, None, Some, Result, Ok, Err, is_some}
use Rattle.ledger_model.{specs.declared.answer.Answer.Answer, specs.declared.command.Command.Command, specs.declared.command.Command.TheVariants.Deliver}
use Rattle.site_desk.{specs.declared.roster.StationPlace.StationPlace, specs.Cell.Held}
use Rattle.station_link.{specs.declared.ending.Why.Why, specs.declared.ending.Why.TheVariants.{OutOfMemory, WriteFault}, specs.declared.ending.Ending.Ending, specs.Answer.{Answers, IsNextPass}, specs.Exchange.{Receives, Sends, Waits}, specs.Moment.IsPresent}
use Rattle.tungstenite.{specs.declared.message.Message.Message, specs.Socket.Socket}
use Rattle.tungstenite.specs.declared.message.Message.TheVariants as kind
use Rattle.transaction_event.{specs.Message.{Event, message}, specs.Request.Request}

-- A list of the value, if there is one; else none.
abbrev pub if_seen : {M : Type 0} → Option M → List M
if_seen None = []
if_seen (Some m) = m ∷ []

-- A reply can fail to be sent so.
abbrev pub IsSendFault : Why → Type 0
IsSendFault why = (why ≡ OutOfMemory) ⊎ (why ≡ WriteFault)

-- What a session has: the pass, its clock, its socket, and what the desk returned with its answers so far.
pub record Point (M C S : Type 0) : Type 0 where
  pub pass : Held
  pub clock : C
  pub socket : Socket S
  pub seen : List M

-- These, as one value.
abbrev pub point : {M C S : Type 0} → Held → C → Socket S → List M → Point M C S
point pass clock socket seen = record { pass = pass; clock = clock; socket = socket; seen = seen }

-- The desk returned this with the answer to a text that asks to deliver an event.
pub record IsAnswered {M : Type 0} (gives : ℕ → StationPlace → Command → Answer → Option M → Type 0) (m : M) : Type 0 where
  pub words : List ℕ
  pub moment : ℕ
  pub id : List ℕ
  pub request : Request
  pub means : message words moment ≡ Event id request
  pub number : ℕ
  pub place : StationPlace
  pub answer : Answer
  pub given : gives number place (Deliver request.key request.event) answer (Some m)

module _ {M C : Type 0} where
  -- A text of these words was answered with a pass, at the moment that the clock gave. What the desk returned with the
  -- answer is behind what it returned before.
  pub record TakesText (gives : ℕ → StationPlace → Command → Answer → Option M → Type 0) (reads : C → Option ℕ → C → Type 0)
      (stations : List StationPlace) (p : Held) (clock : C) (before : List M) (words : List ℕ) (p' : Held) (clock' : C) (now : List M) : Type 0 where
    pub moment : ℕ
    pub reply : Option (List ℕ)
    pub seen : Option M
    pub memory : Bool
    pub present : IsPresent reads clock moment clock'
    pub answered : Answers gives stations p words moment reply p' seen memory
    pub next : IsNextPass p p'
    pub all : now ≡ before ++ if_seen seen

module _ {M C S : Type 0} where
  -- The session waited, and nothing else changed.
  pub record IsStill (remaining contents : S → Option (List ℕ)) (a a' : Point M C S) : Type 0 where
    pub waited : Waits remaining contents a.socket a'.socket
    pub pass : a'.pass ≡ a.pass
    pub clock : a'.clock ≡ a.clock
    pub seen : a'.seen ≡ a.seen

  -- The message is no text: it was not answered, and nothing changed.
  abbrev pub IsIdle : (S → Option (List ℕ)) → (S → Option (List ℕ)) → Result Bool Ending → Point M C S → Point M C S → Type 0
  IsIdle remaining contents (Ok is_text) a a' = (is_text ≡ false) × IsStill remaining contents a a'
  IsIdle remaining contents (Err end) a a' = IsStill remaining contents a a'

module _ {M C S : Type 0} where
  -- One text was read, answered, and its reply sent if it has one.
  pub record IsTurn (gives : ℕ → StationPlace → Command → Answer → Option M → Type 0) (reads : C → Option ℕ → C → Type 0)
      (remaining contents : S → Option (List ℕ)) (stations : List StationPlace) (a a' : Point M C S) : Type 0 where
    pub words : List ℕ
    pub read : Socket S
    pub received : Receives remaining contents a.socket words read
    pub taken : TakesText gives reads stations a.pass a.clock a.seen words a'.pass a'.clock a'.seen
    pub sent : Sends contents read taken.reply a'.socket

  -- Texts were taken one after the other, up to each of these points, and then the session waited.
  abbrev pub AreTurns : (ℕ → StationPlace → Command → Answer → Option M → Type 0) → (C → Option ℕ → C → Type 0)
      → (S → Option (List ℕ)) → (S → Option (List ℕ)) → List StationPlace → Point M C S → List (Point M C S) → Point M C S → Type 0
  AreTurns gives reads remaining contents stations a [] a' = IsStill remaining contents a a'
  AreTurns gives reads remaining contents stations a (t ∷ ts) a' = IsTurn gives reads remaining contents stations a t × AreTurns gives reads remaining contents stations t ts a'

  -- A last text was read and answered; its reply was not sent, since there was no memory or the stream failed.
  pub record IsUnsent (gives : ℕ → StationPlace → Command → Answer → Option M → Type 0) (reads : C → Option ℕ → C → Type 0)
      (remaining contents : S → Option (List ℕ)) (stations : List StationPlace) (why : Why) (a a' : Point M C S) : Type 0 where
    pub words : List ℕ
    pub read : Socket S
    pub received : Receives remaining contents a.socket words read
    pub taken : TakesText gives reads stations a.pass a.clock a.seen words a'.pass a'.clock a'.seen
    pub has_reply : is_some taken.reply ≡ true
    pub fault : IsSendFault why

  -- A session took so many texts, one after the other: each is the next text that was read, it was answered, and its
  -- reply, if it has one, was sent before more was read. One text more may be at its end, whose reply was not sent.
  pub record IsAttended (gives : ℕ → StationPlace → Command → Answer → Option M → Type 0) (reads : C → Option ℕ → C → Type 0)
      (remaining contents : S → Option (List ℕ)) (stations : List StationPlace) (why : Why) (texts : ℕ) (a a' : Point M C S) : Type 0 where
    pub each : List (Point M C S)
    pub last : Point M C S
    pub turns : AreTurns gives reads remaining contents stations a each last
    pub count : texts ≡ length each
    pub ends : (a' ≡ last) ⊎ IsUnsent gives reads remaining contents stations why last a'

  -- What a session did with a message that it had read: a text was answered, and its reply was sent, or not if the
  -- session ends with that; any other message changes nothing.
  abbrev pub Takes : (ℕ → StationPlace → Command → Answer → Option M → Type 0) → (C → Option ℕ → C → Type 0)
      → (S → Option (List ℕ)) → (S → Option (List ℕ)) → List StationPlace → Message → Result Bool Ending → Point M C S → Point M C S → Type 0
  Takes gives reads remaining contents stations (kind.Text words) (Ok is_text) a a' =
      (is_text ≡ true) × ((h : TakesText gives reads stations a.pass a.clock a.seen words a'.pass a'.clock a'.seen) × Sends contents a.socket h.reply a'.socket)
  Takes gives reads remaining contents stations (kind.Text words) (Err end) a a' =
      (h : TakesText gives reads stations a.pass a.clock a.seen words a'.pass a'.clock a'.seen) × (is_some h.reply ≡ true) × IsSendFault end.why
  Takes gives reads remaining contents stations (kind.Binary bytes) r a a' = IsIdle remaining contents r a a'
  Takes gives reads remaining contents stations (kind.Ping bytes) r a a' = IsIdle remaining contents r a a'
  Takes gives reads remaining contents stations (kind.Pong bytes) r a a' = IsIdle remaining contents r a a'
  Takes gives reads remaining contents stations (kind.Close frame) r a a' = IsIdle remaining contents r a a'
