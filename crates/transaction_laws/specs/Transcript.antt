-- The transcript of a run: its commands with their answers, and the part of it that belongs to one transaction.
use Rattle.std.{specs.Prelude.{◌≡◌, ℕ, ◌&&◌, Bool, true, false, not, List, [], ◌∷◌, filter, map, count_by}, specs.List.zip}
use Rattle.ledger_model.{specs.Admissible.key_of, specs.declared.answer.Answer.Answer, specs.declared.answer.Answer.TheVariants.{Accepted, Repeat, Refused}, specs.declared.command.Command.Command, specs.Content.{Content, empty_content}, specs.Laws.{answers, left_by}, specs.Limits.Bounds}
use Rattle.transaction_laws.specs.Alone.{alone, changes_after, counted_after, is_by_limit, belongs_to}

-- A command, and its answer.
abbrev pub Exchange : Type 0
Exchange = Command × Answer

-- Commands, one after the other, each with its answer.
abbrev pub transcript : Bounds → Content → List Command → List Exchange
transcript limits c commands = zip commands (answers limits c commands)

-- The commands of a transcript.
abbrev pub commands_in : List Exchange → List Command
commands_in ls = map (λ l. l.0) ls

-- Whether a command and its answer belong to this transaction: the command has one of the transaction's keys, and no
-- limit of the station refused it.
abbrev pub is_own : List ℕ → Exchange → Bool
is_own tx l = belongs_to tx (key_of l.0) && not (is_by_limit l.1)

-- The part of a transcript that belongs to a transaction.
abbrev pub own_in : List ℕ → List Exchange → List Exchange
own_in tx ls = filter (is_own tx) ls

-- The transcript with its acceptances counted from a number of changes on.
abbrev pub counted_from : ℕ → List Exchange → List Exchange
counted_from n [] = []
counted_from n (l ∷ ls) = (l.0, counted_after n l.1) ∷ counted_from (changes_after n l.1) ls

-- Whether an answer accepts.
abbrev pub is_acceptance : Answer → Bool
is_acceptance (Accepted n) = true
is_acceptance Repeat = false
is_acceptance (Refused why) = false

-- How many of the answers accept.
abbrev pub accepted_in : List Exchange → ℕ
accepted_in ls = count_by (λ l. is_acceptance l.1) ls

-- The part of a transaction in a run from the empty content.
abbrev pub own_transcript : List ℕ → Bounds → List Command → List Exchange
own_transcript tx limits commands = own_in tx (transcript limits empty_content commands)

-- The commands of a transaction, given alone to an empty ledger of other limits, are answered as among all commands,
-- with their acceptances counted from 1 on, and leave what the transaction has among all.
pub record IsRunAlone (limits lone : Bounds) (tx : List ℕ) (commands : List Command) : Type 0 where
  pub answers : transcript lone empty_content (commands_in (own_transcript tx limits commands)) ≡ counted_from 0 (own_transcript tx limits commands)
  pub content : left_by lone empty_content (commands_in (own_transcript tx limits commands)) ≡ alone tx (accepted_in (own_transcript tx limits commands)) (left_by limits empty_content commands)

-- Two runs, at stations of any limits, answer a transaction's commands alike but for the counts of changes, and leave the
-- same of it.
pub record DoTheSame (tx : List ℕ) (limits : Bounds) (commands : List Command) (limits' : Bounds) (commands' : List Command) : Type 0 where
  pub answers : counted_from 0 (own_transcript tx limits commands) ≡ counted_from 0 (own_transcript tx limits' commands')
  pub events : (n : ℕ) → alone tx n (left_by limits empty_content commands) ≡ alone tx n (left_by limits' empty_content commands')
