-- Runs of commands, and the part of one transaction in them.
use Rattle.std.{proofs.Common.{◌≡◌, ℕ, ◌+◌, ◌≤◌, Bool, true, false, cond, not, ◌&&◌, List, [], ◌∷◌, All, refl, sym, ap, subst, ◌∙◌, arith}, specs.List.{filter, zip}, proofs.lemmas.List.Elements.{All-head, All-tail}, proofs.lemmas.List.Sums.sum_by-cons}
use Rattle.ledger_model.{specs.declared.command.Command.Command, specs.declared.answer.Answer.Answer, specs.declared.answer.Answer.TheVariants.{Accepted, Repeat, Refused}, specs.Admissible.key_of, specs.Content.{Content, empty_content}, specs.Laws.{IsAccepted, answers, left_by}, specs.Limits.Bounds, specs.Step.{answer, content_after, step}, proofs.ReachedContents.is_counted}
use Rattle.transaction_laws.{specs.Alone.{AreEnough, IsStepAlone, alone, changes_after, counted_after, is_by_limit, belongs_to}, specs.Transcript.{DoTheSame, Exchange, IsRunAlone, accepted_in, commands_in, counted_from, is_acceptance, is_own, own_in, own_transcript, transcript}, proofs.AloneEvents.none_alone, proofs.StepLemmas.{other_step, own_step, refused_step}}

-- a count never falls
pub no_fewer : (c : Content) (command : Command) (a : Answer) → (IsAccepted a → a ≡ Accepted (c.changes + 1)) → c.changes ≤ (content_after c command a).changes
no_fewer c command (Accepted m) next = let same : Accepted m ≡ Accepted (c.changes + 1) = next tt in let is : m ≡ c.changes + 1 = cc in omega arith
no_fewer c command Repeat next = omega arith
no_fewer c command (Refused why) next = omega arith

pub both_true : (a b : Bool) → (a && not b) ≡ true → (a ≡ true) × (b ≡ false)
both_true true true h = absurd (subst (λ c. cond c ⊥ (Unit {0})) h tt)
both_true true false h = (refl, refl)
both_true false b h = absurd (subst (λ c. cond c ⊥ (Unit {0})) h tt)

-- the count that a transcript leaves
abbrev changes_over : ℕ → List Exchange → ℕ
changes_over n [] = n
changes_over n (l ∷ ls) = changes_over (changes_after n l.1) ls

counted_over : (n : ℕ) (ls : List Exchange) → changes_over n ls ≡ n + accepted_in ls
counted_over n [] = omega arith
counted_over n (l ∷ ls) =
    let rest = counted_over (changes_after n l.1) ls in
    let whole = sum_by-cons (λ (k : Exchange). cond (is_acceptance k.1) 1 0) l ls in
    omega (arith, rest, whole, one l.1)
  where
    one : (a : Answer) → changes_after n a ≡ n + cond (is_acceptance a) 1 0
    one (Accepted m) = refl
    one Repeat = omega arith
    one (Refused why) = omega arith

module _ (limits lone : Bounds) (enough : AreEnough limits lone) (tx : List ℕ) where
  -- a line that is not one of the transaction leaves what its content has of it
  pub not_own : (c : Content) (n : ℕ) (command : Command) → is_own tx (command, answer limits c command) ≡ false → alone tx n (step limits c command).0 ≡ alone tx n c
  not_own c n command h = by_case (belongs_to tx (key_of command)) refl
    where
      by_case : (b : Bool) → belongs_to tx (key_of command) ≡ b → alone tx n (step limits c command).0 ≡ alone tx n c
      by_case true own = ap (alone tx n) (refused_step limits c command (turned (is_by_limit (answer limits c command)) (ap (λ b. b && not (is_by_limit (answer limits c command))) (sym own) ∙ h)))
        where
          turned : (b : Bool) → (true && not b) ≡ false → b ≡ true
          turned true h = refl
          turned false h = absurd (subst (λ c. cond c (Unit {0}) ⊥) h tt)
      by_case false other = other_step limits c tx n command other

  -- the same, with the first line
  with_line : (c : Content) (n : ℕ) (command : Command) (ls : List Exchange) (left : Content) → IsStepAlone limits lone c tx n command
      → let a = answer limits c command in let next = alone tx (changes_after n a) (step limits c command).0 in
      (transcript lone next (commands_in ls) ≡ counted_from (changes_after n a) ls) × (left_by lone next (commands_in ls) ≡ alone tx (changes_over (changes_after n a) ls) left)
      → (transcript lone (alone tx n c) (command ∷ commands_in ls) ≡ counted_from n ((command, a) ∷ ls))
      × (left_by lone (alone tx n c) (command ∷ commands_in ls) ≡ alone tx (changes_over n ((command, a) ∷ ls)) left)
  with_line c n command ls left one rest = (
    (λ i. (command, one.answer i) ∷ zip (commands_in ls) (answers lone (one.content i) (commands_in ls)))
        ∙ ap (λ l. (command, counted_after n (answer limits c command)) ∷ l) rest.0,
    ap (λ d. left_by lone d (commands_in ls)) one.content ∙ rest.1,
  )

  abbrev AreAlone : Content → Content → ℕ → List Exchange → Type 0
  AreAlone c left n ls = (transcript lone (alone tx n c) (commands_in ls) ≡ counted_from n ls) × (left_by lone (alone tx n c) (commands_in ls) ≡ alone tx (changes_over n ls) left)

  run_alone : (c : Content) (n : ℕ) → n ≤ c.changes → (commands : List Command) → AreAlone c (left_by limits c commands) n (own_in tx (transcript limits c commands))
  run_alone c n less [] = (refl, refl)
  run_alone c n less (command ∷ commands) =
      by_case (is_own tx (command, answer limits c command)) refl
      (λ one. run_alone (step limits c command).0 (changes_after n (answer limits c command)) one.changes commands)
      (run_alone (step limits c command).0 n more commands)
    where
      more : n ≤ (step limits c command).0.changes
      more = let fewer = no_fewer c command (answer limits c command) (λ accepted. (is_counted limits c command accepted).next) in omega (arith, fewer, less)

      by_case : let a = answer limits c command in let next = (step limits c command).0 in let ls = own_in tx (transcript limits next commands) in
          (b : Bool) → is_own tx (command, a) ≡ b
          → (IsStepAlone limits lone c tx n command → AreAlone next (left_by limits next commands) (changes_after n a) ls)
          → AreAlone next (left_by limits next commands) n ls
          → AreAlone c (left_by limits next commands) n (cond b ((command, a) ∷ ls) ls)
      by_case true is own other =
          let parts = both_true (belongs_to tx (key_of command)) (is_by_limit (answer limits c command)) is in
          let one = own_step limits lone enough c tx n less command parts.0 parts.1 in
          with_line c n command (own_in tx (transcript limits (step limits c command).0 commands)) (left_by limits (step limits c command).0 commands) one (own one)
      by_case false is own other =
          let same = not_own c n command is in
          subst (λ d. (transcript lone d (commands_in ls) ≡ counted_from n ls)
          × (left_by lone d (commands_in ls) ≡ alone tx (changes_over n ls) (left_by limits (step limits c command).0 commands))) same other
        where
          ls : List Exchange
          ls = own_in tx (transcript limits (step limits c command).0 commands)

pub alone_from_empty : (limits lone : Bounds) (tx : List ℕ) (commands : List Command) → AreEnough limits lone → IsRunAlone limits lone tx commands
alone_from_empty limits lone tx commands enough =
    let all = run_alone limits lone enough tx empty_content 0 (omega arith) commands in
    let own = own_transcript tx limits commands in
    let count : changes_over 0 own ≡ accepted_in own = omega (arith, counted_over 0 own) in
    record {
      answers = ap (λ d. transcript lone d (commands_in own)) (sym (none_alone tx)) ∙ all.0;
      content = ap (λ d. left_by lone d (commands_in own)) (sym (none_alone tx)) ∙ all.1 ∙ ap (λ n. alone tx n (left_by limits empty_content commands)) count;
    }

-- where no limit refuses, the part of a transaction has all its commands
no_refusal : (tx : List ℕ) (limits : Bounds) (c : Content) (commands : List Command) → All (λ a. is_by_limit a ≡ false) (answers limits c commands)
    → commands_in (own_in tx (transcript limits c commands)) ≡ filter (λ command. belongs_to tx (key_of command)) commands
no_refusal tx limits c [] all = refl
no_refusal tx limits c (command ∷ commands) all =
    let rest = no_refusal tx limits (step limits c command).0 commands (All-tail (λ a. is_by_limit a ≡ false) (answer limits c command) _ all) in
    let first = All-head (λ a. is_by_limit a ≡ false) (answer limits c command) _ all in
    let ls = own_in tx (transcript limits (step limits c command).0 commands) in
    ap (λ b. commands_in (cond (belongs_to tx (key_of command) && not b) ((command, answer limits c command) ∷ ls) ls)) first
    ∙ by_case (belongs_to tx (key_of command)) ls (filter (λ command. belongs_to tx (key_of command)) commands) rest
  where
    by_case : (b : Bool) (ls : List Exchange) (own : List Command) → commands_in ls ≡ own → commands_in (cond (b && true) ((command, answer limits c command) ∷ ls) ls) ≡ cond b (command ∷ own) own
    by_case true ls own rest = ap (λ l. command ∷ l) rest
    by_case false ls own rest = rest

pub all_own : (limits : Bounds) (tx : List ℕ) (commands : List Command) → All (λ a. is_by_limit a ≡ false) (answers limits empty_content commands)
    → commands_in (own_transcript tx limits commands) ≡ filter (λ command. belongs_to tx (key_of command)) commands
all_own limits tx commands = no_refusal tx limits empty_content commands

-- limits that are enough for a transaction of either of two stations
both_limits : Bounds → Bounds → Bounds
both_limits a b = record { transactions = 1; events = a.events + b.events; readings = a.readings + b.readings; changes = a.changes + b.changes }

first_enough : (a b : Bounds) → AreEnough a (both_limits a b)
unfolding both_limits
first_enough a b = record { transactions = omega arith; events = omega arith; readings = omega arith; changes = omega arith }

second_enough : (a b : Bounds) → AreEnough b (both_limits a b)
unfolding both_limits
second_enough a b = record { transactions = omega arith; events = omega arith; readings = omega arith; changes = omega arith }

-- parts of the same commands get the same answers and leave the same
pub same_lines : (tx : List ℕ) (limits : Bounds) (commands : List Command) (limits' : Bounds) (commands' : List Command)
    → commands_in (own_transcript tx limits commands) ≡ commands_in (own_transcript tx limits' commands') → DoTheSame tx limits commands limits' commands'
same_lines tx limits commands limits' commands' same =
    let lone = both_limits limits limits' in
    let a = alone_from_empty limits lone tx commands (first_enough limits limits') in
    let b = alone_from_empty limits' lone tx commands' (second_enough limits limits') in
    let left = sym a.content ∙ ap (left_by lone empty_content) same ∙ b.content in
    record {
      answers = sym a.answers ∙ ap (transcript lone empty_content) same ∙ b.answers;
      events = λ n. ap (λ (d : Content). record { events = d.events; changes = n }) left;
    }
