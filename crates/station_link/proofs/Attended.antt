-- Texts of a session, one after the other.
use Rattle.std.{proofs.Common.{◌≡◌, ◌+◌, ℕ, suc, Bool, true, false, ◌⊎◌, inl, inr, List, [], ◌∷◌, ◌++◌, length, Option, Some, None, Result, Ok, Err, refl, sym, subst, ap, ◌∙◌, arith, cond, slice_get}, proofs.lemmas.Bool.false≢true, specs.Prelude.{All, is_some}, proofs.lemmas.List.Elements.{All-append, All-cons, All-nil}}
use Rattle.ledger_model.{specs.declared.answer.Answer.Answer, specs.declared.command.Command.Command}
use Rattle.site_desk.{specs.declared.roster.StationPlace.StationPlace, specs.Cell.Held}
use Rattle.station_link.{specs.declared.ending.Why.Why, specs.declared.ending.Ending.Ending, specs.Answer.{Answers, AnswersMeaning, IsDelivered, reply_of}, specs.Attended.{AreTurns, IsAnswered, IsAttended, IsIdle, IsStill, IsTurn, IsUnsent, Point, Takes, TakesText, if_seen}, specs.Exchange.{AreQuiet, Comes, IsNoText, IsQuiet, Receives, Waits}}
use Rattle.tungstenite.{specs.declared.error.Error.Error, specs.declared.message.Message.Message, specs.Socket.{Flushed, Reads, Socket, has_kind}}
use Rattle.tungstenite.specs.declared.message.Message.TheVariants as kind
use Rattle.transaction_event.{specs.Message.{Meaning, Event, Ready, Silence, message}, specs.Request.Request}

-- a reply that is there
pub is_reply : (has : Bool) (text : List ℕ) → has ≡ true → is_some (reply_of has text) ≡ true
is_reply true text e = refl
is_reply false text e = e

module _ {S : Type 0} (remaining contents : S → Option (List ℕ)) where
  -- some waiting and then more
  quiet_then : (s : Socket S) (xs : List (Socket S)) (t : Socket S) (ys : List (Socket S)) (u : Socket S)
      → AreQuiet remaining contents s xs t → AreQuiet remaining contents t ys u → AreQuiet remaining contents s (xs ++ ys) u
  quiet_then s [] t ys u h k = subst (λ x. AreQuiet remaining contents x ys u) h k
  quiet_then s (x ∷ xs) t ys u h k = (h.0, quiet_then x xs t ys u h.1 k)

  pub waits_then : (s t u : Socket S) → Waits remaining contents s t → Waits remaining contents t u → Waits remaining contents s u
  waits_then s t u h k = (h.0 ++ k.0, quiet_then s h.0 t k.0 u h.1 k.1)

  one_quiet : (s t : Socket S) → IsQuiet remaining contents s t → Waits remaining contents s t
  one_quiet s t h = (t ∷ [], (h, refl))

  -- no waiting yet
  pub waits_not : (s : Socket S) → Waits remaining contents s s
  waits_not s = ([], refl)

  -- a flush
  pub flushes : (s t : Socket S) → Flushed contents s t → Waits remaining contents s t
  flushes s t h = one_quiet s t (inl h)

  -- a read that gave no text
  pub reads_no_text : (s t : Socket S) (r : Result Message Error) → IsNoText r → Reads remaining s t r → Waits remaining contents s t
  reads_no_text s t r no_text h = one_quiet s t (inr (r, no_text, h))

  -- a flush, and a read that gave no text
  pub waits_more : (s t u v : Socket S) (r : Result Message Error) → Waits remaining contents s t → Flushed contents t u → IsNoText r → Reads remaining u v r → Waits remaining contents s v
  waits_more s t u v r before flushed no_text h = waits_then s t v before (waits_then t u v (flushes t u flushed) (reads_no_text u v r no_text h))

  -- a message behind a flush
  pub comes_behind : (s t u v : Socket S) (message : Message) → Waits remaining contents s t → Flushed contents t u → Reads remaining u v (Ok message) → Comes remaining contents s message v
  comes_behind s t u v message before flushed h = record { ready = u; waited = waits_then s t u before (flushes t u flushed); read = h }

  -- a message that is no text
  other_comes : (s t : Socket S) (message : Message) → has_kind 0 message ≡ false → Comes remaining contents s message t → Waits remaining contents s t
  other_comes s t message other h = waits_then s h.ready t h.waited (reads_no_text h.ready t (Ok message) other h.read)

  -- a text behind some waiting
  received_behind : (s t : Socket S) (words : List ℕ) (u : Socket S) → Waits remaining contents s t → Receives remaining contents t words u → Receives remaining contents s words u
  received_behind s t words u before h = record {
    message = h.message;
    is = h.is;
    comes = record { ready = h.comes.ready; waited = waits_then s t h.comes.ready before h.comes.waited; read = h.comes.read };
  }

module _ {M C S : Type 0} (gives : ℕ → StationPlace → Command → Answer → Option M → Type 0) (reads : C → Option ℕ → C → Type 0)
    (remaining contents : S → Option (List ℕ)) (stations : List StationPlace) where
  abbrev Turn : Point M C S → Point M C S → Type 0
  Turn a b = IsTurn gives reads remaining contents stations a b

  abbrev Turns : Point M C S → List (Point M C S) → Point M C S → Type 0
  Turns a ts b = AreTurns gives reads remaining contents stations a ts b

  still_then : (a b c : Point M C S) → IsStill remaining contents a b → IsStill remaining contents b c → IsStill remaining contents a c
  still_then a b c h k = record { waited = waits_then remaining contents a.socket b.socket c.socket h.waited k.waited; pass = k.pass ∙ h.pass; clock = k.clock ∙ h.clock; seen = k.seen ∙ h.seen }

  not_yet : (a : Point M C S) → IsStill remaining contents a a
  not_yet a = record { waited = waits_not remaining contents a.socket; pass = refl; clock = refl; seen = refl }

  -- a turn behind some waiting
  turn_behind : (a b c : Point M C S) → IsStill remaining contents a b → Turn b c → Turn a c
  turn_behind a b c h k =
      let at_socket : Turn (record b { socket = a.socket }) c = record {
        words = k.words;
        read = k.read;
        received = received_behind remaining contents a.socket b.socket k.words k.read h.waited k.received;
        taken = k.taken;
        sent = k.sent;
      } in
      subst (λ (x : Held × (C × List M)). Turn (record { pass = x.0; clock = x.1.0; socket = a.socket; seen = x.1.1 }) c) (λ i. (h.pass i, (h.clock i, h.seen i))) at_socket

  turns_then_still : (a : Point M C S) (ts : List (Point M C S)) (b c : Point M C S) → Turns a ts b → IsStill remaining contents b c → Turns a ts c
  turns_then_still a [] b c h k = still_then a b c h k
  turns_then_still a (t ∷ ts) b c h k = (h.0, turns_then_still t ts b c h.1 k)

  turns_then_turn : (a : Point M C S) (ts : List (Point M C S)) (b c : Point M C S) → Turns a ts b → Turn b c → Turns a (ts ++ c ∷ []) c
  turns_then_turn a [] b c h k = (turn_behind a b c h k, not_yet c)
  turns_then_turn a (t ∷ ts) b c h k = (h.0, turns_then_turn t ts b c h.1 k)

  -- the texts so far
  pub record SoFar (first now : Point M C S) (texts : ℕ) : Type 0 where
    pub each : List (Point M C S)
    pub turns : Turns first each now
    pub count : texts ≡ length each

  -- no text yet
  pub none_yet : (a : Point M C S) (texts : ℕ) → texts ≡ 0 → SoFar a a texts
  none_yet a texts is = record { each = []; turns = not_yet a; count = is }

  length_more : (ts : List (Point M C S)) (c : Point M C S) → length (ts ++ c ∷ []) ≡ length ts + 1
  length_more [] c = refl
  length_more (t ∷ ts) c = ap suc (length_more ts c) ∙ omega arith

  -- a message that changed nothing
  idle : (a b c : Point M C S) (s : Socket S) (n : ℕ) (message : Message) → has_kind 0 message ≡ false → SoFar a b n → Comes remaining contents b.socket message s
      → IsStill remaining contents (record b { socket = s }) c → SoFar a c n
  idle a b c s n message other so_far comes still = record {
    each = so_far.each;
    turns = turns_then_still a so_far.each b c so_far.turns
        (record { waited = waits_then remaining contents b.socket s c.socket (other_comes remaining contents b.socket s message other comes) still.waited; pass = still.pass; clock = still.clock; seen = still.seen });
    count = so_far.count;
  }

  -- one text more
  text_more : (a b c : Point M C S) (s : Socket S) (n : ℕ) (message : Message) → SoFar a b n → Comes remaining contents b.socket message s
      → Takes gives reads remaining contents stations message (Ok true) (record b { socket = s }) c → SoFar a c (n + 1)
  text_more a b c s n (kind.Text words) so_far comes taken = record {
    each = so_far.each ++ c ∷ [];
    turns = turns_then_turn a so_far.each b c so_far.turns
        (record { words = words; read = s; received = record { message = kind.Text words; is = refl; comes = comes }; taken = taken.1.0; sent = taken.1.1 });
    count = ap (λ k. k + 1) so_far.count ∙ sym (length_more so_far.each c);
  }
  text_more a b c s n (kind.Binary bytes) so_far comes taken = absurd (false≢true (sym taken.0))
  text_more a b c s n (kind.Ping bytes) so_far comes taken = absurd (false≢true (sym taken.0))
  text_more a b c s n (kind.Pong bytes) so_far comes taken = absurd (false≢true (sym taken.0))
  text_more a b c s n (kind.Close frame) so_far comes taken = absurd (false≢true (sym taken.0))

  -- another message
  text_not : (a b c : Point M C S) (s : Socket S) (n : ℕ) (message : Message) → SoFar a b n → Comes remaining contents b.socket message s
      → Takes gives reads remaining contents stations message (Ok false) (record b { socket = s }) c → SoFar a c n
  text_not a b c s n (kind.Text words) so_far comes taken = absurd (false≢true taken.0)
  text_not a b c s n (kind.Binary bytes) so_far comes taken = idle a b c s n (kind.Binary bytes) refl so_far comes taken.1
  text_not a b c s n (kind.Ping bytes) so_far comes taken = idle a b c s n (kind.Ping bytes) refl so_far comes taken.1
  text_not a b c s n (kind.Pong bytes) so_far comes taken = idle a b c s n (kind.Pong bytes) refl so_far comes taken.1
  text_not a b c s n (kind.Close frame) so_far comes taken = idle a b c s n (kind.Close frame) refl so_far comes taken.1

  -- a message, by whether it is a text
  pub message_more : (a b c : Point M C S) (s : Socket S) (n n' : ℕ) (message : Message) (is_text : Bool) → SoFar a b n → Comes remaining contents b.socket message s
      → Takes gives reads remaining contents stations message (Ok is_text) (record b { socket = s }) c → n' ≡ cond is_text (n + 1) n → SoFar a c n'
  message_more a b c s n n' message true so_far comes taken is = subst (λ k. SoFar a c k) (sym is) (text_more a b c s n message so_far comes taken)
  message_more a b c s n n' message false so_far comes taken is = subst (λ k. SoFar a c k) (sym is) (text_not a b c s n message so_far comes taken)

  -- the session ended with the texts so far
  pub rests : (a b : Point M C S) (n : ℕ) (why : Why) → SoFar a b n → IsAttended gives reads remaining contents stations why n a b
  rests a b n why so_far = record { each = so_far.each; last = b; turns = so_far.turns; count = so_far.count; ends = inl refl }

  -- the session ended while it waited
  pub ends_waiting : (a b : Point M C S) (s : Socket S) (n : ℕ) (why : Why) → SoFar a b n → Waits remaining contents b.socket s
      → IsAttended gives reads remaining contents stations why n a (record b { socket = s })
  ends_waiting a b s n why so_far waited =
      rests a (record b { socket = s }) n why (record {
        each = so_far.each;
        turns = turns_then_still a so_far.each b (record b { socket = s }) so_far.turns (record { waited = waited; pass = refl; clock = refl; seen = refl });
        count = so_far.count;
      })

  -- the session ended with a message
  pub ends_with : (a b c : Point M C S) (s : Socket S) (n : ℕ) (message : Message) (end : Ending) → SoFar a b n → Comes remaining contents b.socket message s
      → Takes gives reads remaining contents stations message (Err end) (record b { socket = s }) c → IsAttended gives reads remaining contents stations end.why n a c
  ends_with a b c s n (kind.Text words) end so_far comes taken = record {
    each = so_far.each;
    last = b;
    turns = so_far.turns;
    count = so_far.count;
    ends = inr (record {
      words = words;
      read = s;
      received = record { message = kind.Text words; is = refl; comes = comes };
      taken = taken.0;
      has_reply = taken.1;
      fault = taken.2;
    });
  }
  ends_with a b c s n (kind.Binary bytes) end so_far comes taken = rests a c n end.why (idle a b c s n (kind.Binary bytes) refl so_far comes taken)
  ends_with a b c s n (kind.Ping bytes) end so_far comes taken = rests a c n end.why (idle a b c s n (kind.Ping bytes) refl so_far comes taken)
  ends_with a b c s n (kind.Pong bytes) end so_far comes taken = rests a c n end.why (idle a b c s n (kind.Pong bytes) refl so_far comes taken)
  ends_with a b c s n (kind.Close frame) end so_far comes taken = rests a c n end.why (idle a b c s n (kind.Close frame) refl so_far comes taken)

  -- nothing came with an answer
  none_came : (seen : Option M) → seen ≡ None → All (IsAnswered gives) (if_seen seen)
  none_came seen nothing = subst (λ o. All (IsAnswered gives) (if_seen o)) (sym nothing) (All-nil (IsAnswered gives))

  -- what came with the answer to an event
  of_event : (p p' : Held) (words : List ℕ) (moment : ℕ) (id : List ℕ) (request : Request) (reply : Option (List ℕ)) (seen : Option M) (at : StationPlace)
      → message words moment ≡ Event id request → slice_get stations p.station ≡ Some at → IsDelivered gives stations p id request reply p' seen → All (IsAnswered gives) (if_seen seen)
  of_event p p' words moment id request reply None at means there h = All-nil (IsAnswered gives)
  of_event p p' words moment id request reply (Some m) at means there h =
      All-cons (IsAnswered gives) m []
      (record { words = words; moment = moment; id = id; request = request; means = means; number = p.station; place = at; answer = h.answer; given = h.given at there })
      (All-nil (IsAnswered gives))

  -- what came with the answer to a text of this meaning
  of_meaning : (p p' : Held) (words : List ℕ) (moment : ℕ) (meaning : Meaning) (reply : Option (List ℕ)) (seen : Option M) (at : StationPlace) → message words moment ≡ meaning
      → slice_get stations p.station ≡ Some at → AnswersMeaning gives stations p meaning reply p' seen → All (IsAnswered gives) (if_seen seen)
  of_meaning p p' words moment Silence reply seen at means there h = none_came seen h.nothing
  of_meaning p p' words moment (Ready text) reply seen at means there h = none_came seen h.nothing
  of_meaning p p' words moment (Event id request) reply seen at means there h = of_event p p' words moment id request reply seen at means there h

  -- what came with the answer to a text
  of_answer : (p p' : Held) (words : List ℕ) (moment : ℕ) (reply : Option (List ℕ)) (seen : Option M) (memory : Bool) (at : StationPlace)
      → slice_get stations p.station ≡ Some at → Answers gives stations p words moment reply p' seen memory → All (IsAnswered gives) (if_seen seen)
  of_answer p p' words moment reply seen true at there h = none_came seen h.ready.nothing
  of_answer p p' words moment reply seen false at there h = of_meaning p p' words moment (message words moment) reply seen at refl there h

  -- what came so far, with one text more
  of_text : (p p' : Held) (clock clock' : C) (before now : List M) (words : List ℕ) (at : StationPlace) → slice_get stations p.station ≡ Some at → All (IsAnswered gives) before
      → TakesText gives reads stations p clock before words p' clock' now → All (IsAnswered gives) now
  of_text p p' clock clock' before now words at there so_far t =
      subst (All (IsAnswered gives)) (sym t.all)
      (All-append (IsAnswered gives) before (if_seen t.seen) so_far (of_answer p p' words t.moment t.reply t.seen t.memory at there t.answered))

  -- what came with the answers of turns, and the station of the pass after them
  of_turns : (a : Point M C S) (ts : List (Point M C S)) (b : Point M C S) (at : StationPlace) → slice_get stations a.pass.station ≡ Some at → All (IsAnswered gives) a.seen → Turns a ts b
      → (slice_get stations b.pass.station ≡ Some at) × All (IsAnswered gives) b.seen
  of_turns a [] b at there so_far h = (ap (λ (q : Held). slice_get stations q.station) h.pass ∙ there, subst (All (IsAnswered gives)) (sym h.seen) so_far)
  of_turns a (t ∷ ts) b at there so_far h =
      of_turns t ts b at (ap (slice_get stations) h.0.taken.next.station ∙ there)
      (of_text a.pass t.pass a.clock t.clock a.seen t.seen h.0.words at there so_far h.0.taken) h.1

  -- what a session hands on came with its answers
  pub of_session : (a b : Point M C S) (why : Why) (n : ℕ) (at : StationPlace) → slice_get stations a.pass.station ≡ Some at → All (IsAnswered gives) a.seen
      → IsAttended gives reads remaining contents stations why n a b → All (IsAnswered gives) b.seen
  of_session a b why n at there so_far h =
      let turns = of_turns a h.each h.last at there so_far h.turns in
      elim h.ends [
        | inl same ↦ subst (λ (x : Point M C S). All (IsAnswered gives) x.seen) (sym same) turns.1
        | inr u ↦ of_text h.last.pass b.pass h.last.clock b.clock h.last.seen b.seen u.words at turns.0 turns.1 u.taken
      ]
