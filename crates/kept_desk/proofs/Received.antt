-- The moment of an answer says at which content it was given.
use Rattle.std.{proofs.Common.{◌≡◌, ℕ, List, [], ◌∷◌, ◌++◌, Option, None, Some, Result, Ok, Err, ap, refl, sym, ◌∙◌, subst}, specs.Prelude.{IfOk, IfSome, OnOk}}
use Rattle.kept_desk.{specs.declared.broken.Broken.Broken, specs.declared.entry.Entry.Entry, specs.Entries.{entry, of_station}, specs.Journal.{Ledger, OwnEntries}, specs.Kept.{IsAnsweredBehind, IsGiven, IsKeptCell, IsLeftFrom, IsNoted, IsReceived, commands_of}}
use Rattle.ledger_model.{specs.declared.answer.Answer.Answer, specs.declared.answer.Answer.TheVariants.{Accepted, Refused}, specs.declared.answer.Refusal.Refusal, specs.declared.answer.Refusal.TheVariants.{ConflictingEvent, TooManyTransactions, EventsFull, ReadingsFull, NoSuchEvent, AlreadyVoided, NotVoided, ChangesExhausted}, specs.declared.command.Command.Command, specs.Content.Content, specs.Limits.Bounds, specs.Step.answer}
use Rattle.site_book.specs.Book.{Known}
use Rattle.site_desk.{specs.declared.roster.StationPlace.StationPlace, specs.Roster.StandsAt, specs.Submit.{Submitted, TellsOf}, specs.Cell.{Cell, Held}}

-- a share with an entry added, and its receipt
pub noted : (r : Result (List Entry) Broken) (share : OwnEntries) (e : Entry) (log now : Ledger) → OnOk r (share.entries ≡ of_station share.station log.entries) → IfOk r (λ x. x ≡ now.entries)
    → OnOk r (now ≡ record log { entries = log.entries ++ e ∷ [] }) → IfOk r (IsNoted share e)
noted (Ok x) share e log now own is added = record { log = log.entries; own = own; received = is ∙ ap (λ (j : Ledger). j.entries) added }
noted (Err broken) share e log now own is added = tt

module _ (at : StationPlace) (first : ℕ → Content) (number : ℕ) (c : Cell) (share : OwnEntries) (note line : List ℕ)
    (command : Command) (stands : StandsAt number at c) (kept : IsKeptCell first c share) where
  -- an accepted command, at the content to which the entries before it lead
  pub given : (n : ℕ) (told : Option Known) (receipt : List Entry) (now : Option (List Entry))
      → IsNoted share (entry share.station note line command) receipt → TellsOf at c.content command (Accepted n) told
      → now ≡ Some receipt
      → IsGiven at (first number) n (entry number note line command) told now
  given n told receipt now noted_as taken is =
      let station : share.station ≡ number = kept.station ∙ stands.station in
      record {
        log = noted_as.log;
        before = c.content;
        received = is ∙ ap Some noted_as.received ∙ ap (λ k. Some (noted_as.log ++ entry k note line command ∷ [])) station;
        left = subst (λ (x : Bounds × (Content × List Entry)). IsLeftFrom x.0 x.1.0 c.content (commands_of x.1.1))
            (λ i. (stands.limits i, (first (stands.station i), (noted_as.own ∙ ap (λ k. of_station k noted_as.log) station) i))) kept.left;
        taken = taken;
      }

  -- what comes with the answer to a command whose line was written
  pub received : (s : Option (ℕ × Option Known)) (a : Answer) (told : Option Known) (moment : List Entry) (now : Option (List Entry))
      → IsNoted share (entry share.station note line command) moment → IfSome s (λ r. TellsOf at c.content command (Accepted r.0) r.1)
      → IfSome s (λ r. (a ≡ Accepted r.0) × (told ≡ r.1) × (now ≡ Some moment)) → (s ≡ None → (a ≡ Refused ChangesExhausted) × (told ≡ None) × (now ≡ None))
      → IsReceived at (first number) a (entry number note line command) told now
  received (Some r) a told moment now noted_as tells is none =
      subst (λ (x : Answer × Option Known). IsReceived at (first number) x.0 (entry number note line command) x.1 now) (λ i. (sym is.0 i, sym is.1 i))
      (given r.0 r.1 moment now noted_as tells is.2)
  received None a told moment now noted_as tells is none =
      let n = none refl in
      subst (λ (x : Answer × Option (List Entry)). IsReceived at (first number) x.0 (entry number note line command) told x.1) (λ i. (sym n.0 i, sym n.2 i)) refl

  -- an answer that changed nothing, at the content to which the entries of the moment lead
  pub unmoved : (a : Answer) (moment : List Entry) → share.entries ≡ of_station share.station moment → answer c.limits c.content command ≡ a
      → IsAnsweredBehind at.limits (first number) (of_station number moment) command a
  unmoved a moment own is = record {
    before = c.content;
    left = subst (λ (x : Bounds × (Content × List Entry)). IsLeftFrom x.0 x.1.0 c.content (commands_of x.1.1))
        (λ i. (stands.limits i, (first (stands.station i), (own ∙ ap (λ k. of_station k moment) (kept.station ∙ stands.station)) i))) kept.left;
    answered = ap (λ l. answer l c.content command) (sym stands.limits) ∙ is;
  }

-- a refused command leaves the pass as it was
pub refused_same : (at : StationPlace) (p : Held) (command : Command) (why : Refusal) (p' : Held) (told : Option Known) → Submitted at p command (Refused why) p' told → p' ≡ p
refused_same at p command ConflictingEvent p' told h = h.unchanged.pass
refused_same at p command TooManyTransactions p' told h = h.unchanged.pass
refused_same at p command EventsFull p' told h = h.unchanged.pass
refused_same at p command ReadingsFull p' told h = h.unchanged.pass
refused_same at p command NoSuchEvent p' told h = h.unchanged.pass
refused_same at p command AlreadyVoided p' told h = h.unchanged.pass
refused_same at p command NotVoided p' told h = h.unchanged.pass
refused_same at p command ChangesExhausted p' told h = h.pass

-- what follows from a command whose line was written
pub submitted : (at : StationPlace) (p : Held) (command : Command) (s : Option (ℕ × Option Known)) (a : Answer) (told : Option Known) (p' : Held) (now : Option (List Entry)) (moment : List Entry)
    → IfSome s (λ r. Submitted at p command (Accepted r.0) p' r.1) → (s ≡ None → p' ≡ p)
    → IfSome s (λ r. (a ≡ Accepted r.0) × (told ≡ r.1) × (now ≡ Some moment)) → (s ≡ None → (a ≡ Refused ChangesExhausted) × (told ≡ None) × (now ≡ None))
    → Submitted at p command a p' told
submitted at p command (Some r) a told p' now moment taken same is none =
    subst (λ (x : Answer × Option Known). Submitted at p command x.0 p' x.1) (λ i. (sym is.0 i, sym is.1 i)) taken
submitted at p command None a told p' now moment taken same is none =
    let n = none refl in subst (λ (x : Answer). Submitted at p command x p' told) (sym n.0) (record { pass = same refl; untold = n.1 })
