-- What a live server writes, piece by piece.
use Rattle.std.{proofs.Common.{◌≡◌, ℕ, List, [], codes, Option, None, Some, Result, Ok, Err, refl, subst, sym}, specs.Prelude.{IfOk, OnOk}, specs.Io.KnownBytes.Appends, proofs.KnownBytes.{Appends-nil, Appends-trans}, proofs.lemmas.List.Elements.All-nil}
use Rattle.ledger_model.{specs.declared.answer.Answer.Answer, specs.declared.command.Command.Command, specs.Board.Board}
use Rattle.script_lines.{specs.LineMeaning.line_meaning, specs.Lines.Line}
use Rattle.site_desk.{specs.declared.plan.SitePlan.SitePlan, specs.declared.roster.StationPlace.StationPlace}
use Rattle.running_desk.{specs.Ports.at_port, specs.Ordered.lines_in, specs.Replied.IsReplyOrMemory, specs.Replies.{AddsReplies, Replied}}
use Rattle.live_server.specs.Told.{Tells, operator_input, ports}

-- where it listens for stations, and then for browsers
pub both_told : {T E : Type 0} (r : Result T E) (w0 w1 w2 : Option (List ℕ))
    → (port : ℕ) × Appends w0 w1 (at_port (codes "listening") port)
    → OnOk r ((port : ℕ) × Appends w1 w2 (at_port (codes "boards") port))
    → OnOk r ((port : ℕ) × (browsers : Option ℕ) × Appends w0 w2 (ports port browsers))
both_told (Ok _) w0 w1 w2 first then = (first.0, Some then.0, Appends-trans w0 w1 w2 (at_port (codes "listening") first.0) (at_port (codes "boards") then.0) first.1 then.1)
both_told (Err _) w0 w1 w2 first then = then

module _ {M Z : Type 0} (gives : ℕ → StationPlace → Command → Answer → Option M → Type 0) (shows : Z → ℕ → List (List ℕ × Board) → M → Type 0) where
  -- where it listens, and answers behind it, once it ended well
  then_replies : {T E : Type 0} (r : Result T E) (handed : T → List M) (z : Z) (sites : List SitePlan) (places : List StationPlace)
      (coming : Option (List Line)) (w0 w1 w2 : Option (List ℕ))
      → (port : ℕ) × (browsers : Option ℕ) × Appends w0 w1 (ports port browsers)
      → IfOk r (λ seen. AddsReplies gives (shows z) sites places coming w1 w2 (handed seen)) → IfOk r (λ seen. Tells gives (shows z) sites places coming w0 w2 (handed seen))
  then_replies (Ok _) handed z sites places coming w0 w1 w2 first then = record { port = first.0; browsers = first.1; answered = w1; listens = first.2; replies = then }
  then_replies (Err _) handed z sites places coming w0 w1 w2 first then = then

  -- answers at a desk that is the same under another name, to lines that are the same
  pub replies_along : {T E : Type 0} (r : Result T E) (handed : T → List M) (z z' : Z) (sites sites' : List SitePlan)
      (places places' : List StationPlace) (coming coming' : Option (List Line)) (w0 w1 w2 : Option (List ℕ))
      → z' ≡ z → sites' ≡ sites → places' ≡ places → coming' ≡ coming
      → (port : ℕ) × (browsers : Option ℕ) × Appends w0 w1 (ports port browsers)
      → IfOk r (λ seen. AddsReplies gives (shows z') sites' places' coming' w1 w2 (handed seen))
      → IfOk r (λ seen. Tells gives (shows z) sites places coming w0 w2 (handed seen))
  replies_along r handed z z' sites sites' places places' coming coming' w0 w1 w2 own same there comes first then =
      then_replies r handed z sites places coming w0 w1 w2 first
      (subst (λ y. IfOk r (λ seen. AddsReplies gives (shows y) sites places coming w1 w2 (handed seen))) own
      (subst (λ s. IfOk r (λ seen. AddsReplies gives (shows z') s places coming w1 w2 (handed seen))) same
      (subst (λ p. IfOk r (λ seen. AddsReplies gives (shows z') sites' p coming w1 w2 (handed seen))) there
      (subst (λ k. IfOk r (λ seen. AddsReplies gives (shows z') sites' places' k w1 w2 (handed seen))) comes then))))

module _ {M : Type 0} (gives : ℕ → StationPlace → Command → Answer → Option M → Type 0)
    (shows : ℕ → List (List ℕ × Board) → M → Type 0) (sites : List SitePlan) (places : List StationPlace) where
  -- where an operator's lines are read, they are those of the input
  pub of_operator : {T E : Type 0} (r : Result T E) (handed : T → List M) (connections : Option ℕ) (input w0 w1 : Option (List ℕ)) → connections ≡ None
      → IfOk r (λ seen. AddsReplies gives shows sites places (lines_in input) w0 w1 (handed seen))
      → IfOk r (λ seen. AddsReplies gives shows sites places (lines_in (operator_input connections input)) w0 w1 (handed seen))
  of_operator r handed connections input w0 w1 is h = subst (λ n. IfOk r (λ seen. AddsReplies gives shows sites places (lines_in (operator_input n input)) w0 w1 (handed seen))) (sym is) h

  -- where none are read, none are answered
  pub of_nobody : (connections : Option ℕ) (n : ℕ) (input w : Option (List ℕ)) (handed : List M) → connections ≡ Some n → handed ≡ []
      → AddsReplies gives shows sites places (lines_in (operator_input connections input)) w w handed
  of_nobody connections n input w handed is none = subst (λ k. AddsReplies gives shows sites places (lines_in (operator_input k input)) w w handed) (sym is)
      (record { lines = []; those = refl; replies = All-nil (λ (l : Replied M). IsReplyOrMemory gives shows sites places (line_meaning l.line) l.text l.seen); adds = Appends-nil w; all = none })
