-- An operator's answers, from the desk's answers.
use Rattle.std.{proofs.Common.{◌≡◌, ℕ, zero, Bool, true, false, ◌⊎◌, inl, inr, List, [], ◌++◌, Option, Some, Result, Ok, Err, refl, ap, sym, subst, ◌∙◌, codes, slice_get}, specs.Prelude.{IfErr, OnOk}}
use Rattle.board_report.specs.Texts.{total_text}
use Rattle.energy_flow.specs.Flow.{Energy}
use Rattle.ledger_model.{specs.declared.answer.Answer.Answer, specs.declared.answer.Answer.TheVariants.{Accepted, Repeat, Refused}, specs.declared.answer.Refusal.TheVariants.{ConflictingEvent, TooManyTransactions, EventsFull, ReadingsFull, NoSuchEvent, AlreadyVoided, NotVoided, ChangesExhausted}, specs.declared.command.Command.Command, specs.declared.command.Command.TheVariants.Deliver, specs.Content.{Content, empty_content}, specs.Limits.Bounds, specs.Step.{Reached, answer}, specs.World.Station}
use Rattle.ledger_model.specs.declared.figures.Figures as figures
use Rattle.script_ledgers.{specs.declared.detail.Detail.Detail, specs.declared.detail.Detail.TheVariants.{Outcome, Reply}, specs.Detail.{event_text, message_text, message_to, ready_text}, specs.Script.{Script, by_meaning, energy_line, export_line, listed, start, told_by}}
use Rattle.script_lines.{specs.declared.script_line.TxList.TxList, specs.Texts.{answer_text, ended_line}}
use Rattle.site_book.specs.Book.{Known}
use Rattle.site_desk.{specs.declared.roster.StationPlace.StationPlace, specs.Operator.{AreTotalsOfName, IsListingOfName}, specs.Roster.IsNamed, specs.Submit.{IsAnswered, Submitted}, specs.Cell.Held}
use Rattle.station_ledger.specs.declared.listing.TxListing.{TxListing}
use Rattle.station_link.specs.Answer.{IsGivenAt, IsSettled, OutcomeOfMeaning, Outcomes}
use Rattle.transaction_event.{specs.Message.{Meaning, Event, Ready, Silence, message}, specs.Reply.event_reply_bytes, specs.Request.Request}
use Rattle.running_desk.{specs.declared.operator.WhichTotals.WhichTotals, specs.declared.operator.WhichTotals.TheVariants.{Figures, Import, Export}, specs.Replied.{AreTotals, IsCommandLine, IsCommanded, IsExhausted, IsList, IsMessageLine, IsSent, IsStationOf, IsTotals, totals_line}}

-- a station of a name with this content
abbrev with_content : List ℕ → Bounds → Content → Station
with_content name limits content = record { site = []; name = name; limits = limits; content = content }

-- a replay may have the station of a name with a content that accepted commands leave
stands_with : (places : List StationPlace) (name : List ℕ) (number : ℕ) (named : IsNamed places name number) (changes : ℕ) (content : Content) → Reached named.place.limits changes content
    → IsStationOf places name (with_content name named.place.limits content)
stands_with places name number named changes content reached = record { number = number; named = named; called = refl; limits = refl; changes = changes; reached = reached }

-- the answer is the step's at this content
record IsStepAt (limits : Bounds) (command : Command) (a : Answer) : Type 0 where
  pub changes : ℕ
  pub content : Content
  pub reached : Reached limits changes content
  pub answered : answer limits content command ≡ a

step_of : (at : StationPlace) (p : Held) (command : Command) (a : Answer) (p' : Held) (told : Option Known) → IsAnswered at p command a p' told → IsStepAt at.limits command a
step_of at p command a p' told h = record { changes = h.before.changes; content = h.before; reached = h.reached; answered = h.answered }

-- what a submitted command is answered, in the words of the step
stepped : (at : StationPlace) (p : Held) (command : Command) (a : Answer) (p' : Held) (told : Option Known)
    → Submitted at p command a p' told → IsStepAt at.limits command a ⊎ (a ≡ Refused ChangesExhausted)
stepped at p command (Accepted n) p' told h = inl (record { changes = h.count; content = h.before; reached = h.reached; answered = h.taken.answered })
stepped at p command Repeat p' told h = inl (step_of at p command Repeat p' told h)
stepped at p command (Refused ChangesExhausted) p' told h = inr refl
stepped at p command (Refused ConflictingEvent) p' told h = inl (step_of at p command (Refused ConflictingEvent) p' told h)
stepped at p command (Refused TooManyTransactions) p' told h = inl (step_of at p command (Refused TooManyTransactions) p' told h)
stepped at p command (Refused EventsFull) p' told h = inl (step_of at p command (Refused EventsFull) p' told h)
stepped at p command (Refused ReadingsFull) p' told h = inl (step_of at p command (Refused ReadingsFull) p' told h)
stepped at p command (Refused NoSuchEvent) p' told h = inl (step_of at p command (Refused NoSuchEvent) p' told h)
stepped at p command (Refused AlreadyVoided) p' told h = inl (step_of at p command (Refused AlreadyVoided) p' told h)
stepped at p command (Refused NotVoided) p' told h = inl (step_of at p command (Refused NotVoided) p' told h)

-- totals of a station are those that a replay prints
pub totals_told : (asked : WhichTotals) (places : List StationPlace) (name : List ℕ) (f : figures.Figures) (e x : Energy)
    → AreTotalsOfName places name f e x → AreTotals places name asked (totals_line asked f e x)
unfolding stands_with
totals_told Figures places name f e x h =
    record {
      station = Some (with_content name h.named.place.limits h.totals.content);
      stands = stands_with places name h.number h.named _ h.totals.content h.totals.reached;
      is = ap (λ (t : figures.Figures). ended_line (total_text t)) h.totals.figures;
    }
totals_told Import places name f e x h =
    record {
      station = Some (with_content name h.named.place.limits h.totals.content);
      stands = stands_with places name h.number h.named _ h.totals.content h.totals.reached;
      is = ap energy_line h.totals.imported;
    }
totals_told Export places name f e x h =
    record {
      station = Some (with_content name h.named.place.limits h.totals.content);
      stands = stands_with places name h.number h.named _ h.totals.content h.totals.reached;
      is = ap export_line h.totals.exported;
    }

-- the line of a command that was submitted is what a replay answers
pub commanded : {M : Type 0} (gives : Command → Answer → Option M → Type 0) (seen : Option M)
    (places : List StationPlace) (name : List ℕ) (p : Held) (command : Command) (p' : Held) (line : List ℕ)
    (named : IsNamed places name p.station)
    → IsCommandLine gives named.place p command p' line seen → IsCommanded places name command line
commanded gives seen places name p command p' line named h =
    elim (stepped named.place p command h.answer p' h.submitted.0 h.submitted.1) [
      | inl s ↦ inl (record {
        station = Some (with_content name named.place.limits s.content);
        stands = stands_with places name p.station named s.changes s.content s.reached;
        is = h.is ∙ ap (λ (a : Answer). ended_line (answer_text a)) (sym s.answered);
      })
      | inr e ↦ inr (h.is ∙ ap (λ (a : Answer). ended_line (answer_text a)) e)
    ]

-- what a line `msg` or `deliver` does with a message of this meaning
by_detail : Detail → Meaning → Station → Script → Script × List ℕ
by_detail Reply m s script = by_meaning m s script
by_detail Outcome m s script = told_by m s script

by_detail_is : (detail : Detail) (s : Station) (script : Script) (words : List ℕ)
    → message_to detail (Some s) script words ≡ by_detail detail (message words script.moment) s script
unfolding by_detail
by_detail_is Reply s script words = refl
by_detail_is Outcome s script words = refl

event_of : (detail : Detail) (id : List ℕ) (request : Request) (s : Station) (script : Script)
    → let answered = answer s.limits s.content (Deliver request.key request.event) in
    event_text detail answered (event_reply_bytes id request.token answered) ≡ (by_detail detail (Event id request) s script).1
unfolding by_detail
event_of Reply id request s script = refl
event_of Outcome id request s script = refl

ready_of : (detail : Detail) (reply : List ℕ) (s : Station) (script : Script) → ready_text detail reply ≡ (by_detail detail (Ready reply) s script).1
unfolding by_detail
ready_of Reply reply s script = refl
ready_of Outcome reply s script = refl

silent_of : (detail : Detail) (s : Station) (script : Script) → ended_line (codes "silent") ≡ (by_detail detail Silence s script).1
unfolding by_detail
silent_of Reply s script = refl
silent_of Outcome s script = refl

-- a meaning's answer, as a line, is what a replay answers
replied : {M : Type 0} (detail : Detail) (gives : ℕ → StationPlace → Command → Answer → Option M → Type 0) (seen : Option M)
    (places : List StationPlace) (name : List ℕ) (p : Held) (named : IsNamed places name p.station) (moment : ℕ) (m : Meaning)
    (outcome : Option Answer) (text : Option (List ℕ)) (p' : Held) (line : List ℕ)
    → OutcomeOfMeaning gives places p m outcome text p' seen → line ≡ message_text detail outcome text
    → ((s : Station) × IsStationOf places name s × (line ≡ (by_detail detail m s (record start { moment = moment })).1)) ⊎ IsExhausted detail m line
replied detail gives seen places name p named moment Silence outcome text p' line h is =
    let s = with_content name named.place.limits empty_content in
    inl (
      s,
      stands_with places name p.station named zero empty_content refl,
      is ∙ ap (message_text detail outcome) h.1.same ∙ silent_of detail s (record start { moment = moment }),
    )
replied detail gives seen places name p named moment (Ready reply) outcome text p' line h is =
    let s = with_content name named.place.limits empty_content in
    inl (
      s,
      stands_with places name p.station named zero empty_content refl,
      is ∙ (λ i. message_text detail (h.0 i) (h.1.same i)) ∙ ready_of detail reply s (record start { moment = moment }),
    )
replied detail gives seen places name p named moment (Event id request) outcome text p' line h is =
    let d = h.0 in
    let said : line ≡ event_text detail d.answer (event_reply_bytes id request.token d.answer) = is ∙ (λ i. message_text detail (h.1 i) (d.reply i)) in
    let settled = d.submitted.settled named.place named.there in
    elim (stepped named.place p (Deliver request.key request.event) d.answer p' settled.0 settled.1) [
      | inl s ↦ inl (
        with_content name named.place.limits s.content,
        stands_with places name p.station named s.changes s.content s.reached,
        said ∙ ap (λ (a : Answer). event_text detail a (event_reply_bytes id request.token a)) (sym s.answered)
            ∙ event_of detail id request (with_content name named.place.limits s.content) (record start { moment = moment }),
      )
      | inr e ↦ inr (said ∙ ap (λ (a : Answer). event_text detail a (event_reply_bytes id request.token a)) e)
    ]

-- words that were read
sent_read : {M : Type 0} (detail : Detail) (gives : ℕ → StationPlace → Command → Answer → Option M → Type 0) (seen : Option M)
    (places : List StationPlace) (name : List ℕ) (p : Held) (named : IsNamed places name p.station) (words : List ℕ) (moment : ℕ)
    (outcome : Option Answer) (text : Option (List ℕ)) (p' : Held) (memory : Bool) (line : List ℕ)
    → Outcomes gives places p words moment outcome text p' seen memory → line ≡ message_text detail outcome text → IsSent detail places name words moment line
sent_read detail gives seen places name p named words moment outcome text p' true line h is =
    inr (inr (record { reply = h.1.reply; tells = h.1.tells; is = is ∙ (λ i. message_text detail (h.0 i) (h.1.ready.same i)) }))
sent_read detail gives seen places name p named words moment outcome text p' false line h is =
    elim (replied detail gives seen places name p named moment (message words moment) outcome text p' line h is) [
      | inl s ↦ inl (record { station = Some s.0; stands = s.1; is = s.2 ∙ ap (λ (x : Script × List ℕ). x.1) (sym (by_detail_is detail s.0 (record start { moment = moment }) words)) })
      | inr e ↦ inr (inl e)
    ]

-- the line of a message that was answered is what a replay answers
pub sent : {M : Type 0} (detail : Detail) (gives : ℕ → StationPlace → Command → Answer → Option M → Type 0) (seen : Option M)
    (places : List StationPlace) (name : List ℕ) (p : Held) (named : IsNamed places name p.station) (words : List ℕ) (p' : Held)
    (line : List ℕ)
    → IsMessageLine detail gives places p words p' line seen → (moment : ℕ) × IsSent detail places name words moment line
sent detail gives seen places name p named words p' line h =
    (h.moment, sent_read detail gives seen places name p named words h.moment h.outcome h.text p' h.memory line h.outcomes h.is)

-- the line of the answer to a command that was submitted, with what was seen
pub submitted_line : {M : Type 0} (gives : ℕ → StationPlace → Command → Answer → Option M → Type 0)
    (seen : Option M) (places roster : List StationPlace) (p p' : Held) (command : Command) (a : Answer)
    (before now : List ℕ)
    → places ≡ roster → before ≡ []
    → ((at : StationPlace) → slice_get roster p.station ≡ Some at → IsSettled at p command a p')
    → IsGivenAt gives roster p.station command a seen → now ≡ before ++ ended_line (answer_text a)
    → (at : StationPlace) → slice_get places p.station ≡ Some at → IsCommandLine (gives p.station at) at p command p' now seen
submitted_line gives seen places roster p p' command a before now same empty settled given put at there =
    let here = ap (λ (x : List StationPlace). slice_get x p.station) (sym same) ∙ there in
    record {
      answer = a;
      submitted = settled at here;
      given = given at here;
      is = put ∙ ap (λ (b : List ℕ). b ++ ended_line (answer_text a)) empty;
    }

-- the list of a transaction that is asked for
pub list_told : {T E : Type 0} (r : Result T E) (what : TxList) (places : List StationPlace) (name tx : List ℕ) (l : TxListing) (now : List ℕ)
    → IsListingOfName places name tx l → OnOk r (now ≡ listed what name tx l) → OnOk r (IsList places what name tx now)
unfolding stands_with
list_told (Ok _) what places name tx l now h put = inl (record {
  station = Some (with_content name h.named.place.limits h.listing.content);
  stands = stands_with places name h.number h.named _ h.listing.content h.listing.reached;
  is = put ∙ ap (listed what name tx) h.listing.is;
})
list_told (Err _) what places name tx l now h put = put

-- the line of the totals that are asked for
pub totals_line_told : {T E : Type 0} (r : Result T E) (asked : WhichTotals) (places : List StationPlace) (name : List ℕ) (f : figures.Figures) (e x : Energy) (now : List ℕ)
    → AreTotalsOfName places name f e x
    → OnOk r (now ≡ totals_line asked f e x) → OnOk r (IsTotals places name asked now)
totals_line_told (Ok _) asked places name f e x now totals put = inl (subst (AreTotals places name asked) (sym put) (totals_told asked places name f e x totals))
totals_line_told (Err _) asked places name f e x now totals put = put

-- why a line has no answer
pub error_told : {T E : Type 0} (r : Result T E) (P Q : E → Type 0) → ((e : E) → P e → Q e) → IfErr r P → IfErr r Q
error_told (Ok _) P Q on h = h
error_told (Err e) P Q on h = on e h
