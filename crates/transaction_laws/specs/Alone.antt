-- What a content holds of one transaction, and what a command does to it.
use Rattle.std.{specs.Prelude.{◌≡◌, ◌≤◌, ℕ, ◌+◌, Bool, true, false, List, length, min}, specs.Str.bytes_eq}
use Rattle.std.specs.FinMap as finite
use Rattle.ledger_model.{specs.declared.command.Command.Command, specs.declared.answer.Answer.Answer, specs.declared.answer.Answer.TheVariants.{Accepted, Repeat, Refused}, specs.declared.answer.Refusal.TheVariants.{TooManyTransactions, EventsFull, ReadingsFull, ChangesExhausted}, specs.Content.{Content, entries, transactions_of}, specs.Key.KeyName, specs.Limits.Bounds, specs.Step.{readings_stored, step}}

-- Whether a key belongs to this transaction.
abbrev pub belongs_to : List ℕ → KeyName → Bool
belongs_to tx key = bytes_eq tx key.tx

-- A transaction alone: the events that a content has under its keys, with so many changes counted.
abbrev pub alone : List ℕ → ℕ → Content → Content
alone tx n c = record { events = finite.retain_keys c.events (belongs_to tx); changes = n }

-- Whether an answer is a refusal by a limit of the station. No other answer depends on other transactions.
abbrev pub is_by_limit : Answer → Bool
is_by_limit (Refused TooManyTransactions) = true
is_by_limit (Refused EventsFull) = true
is_by_limit (Refused ReadingsFull) = true
is_by_limit (Refused ChangesExhausted) = true
is_by_limit _ = false

-- The answer, where so many changes were accepted before: an acceptance is counted as the next one.
abbrev pub counted_after : ℕ → Answer → Answer
counted_after n (Accepted m) = Accepted (n + 1)
counted_after n Repeat = Repeat
counted_after n (Refused why) = Refused why

-- So many changes, and one more if the answer accepts.
abbrev pub changes_after : ℕ → Answer → ℕ
changes_after n (Accepted m) = n + 1
changes_after n Repeat = n
changes_after n (Refused why) = n

-- Limits that are enough for one transaction of a station: as many events, readings and changes as the station may
-- have, and place for one transaction if the station has any.
pub record AreEnough (limits lone : Bounds) : Type 0 where
  pub transactions : min 1 limits.transactions ≤ lone.transactions
  pub events : limits.events ≤ lone.events
  pub readings : limits.readings ≤ lone.readings
  pub changes : limits.changes ≤ lone.changes

-- A command does to the transaction alone, in a ledger of other limits, what it does to it among others: it is answered
-- the same but for the count of changes, and leaves what the whole content then has of the transaction. The lone count
-- stays no greater.
pub record IsStepAlone (limits lone : Bounds) (c : Content) (tx : List ℕ) (n : ℕ) (command : Command) : Type 0 where
  pub answer : (step lone (alone tx n c) command).1 ≡ counted_after n (step limits c command).1
  pub content : (step lone (alone tx n c) command).0 ≡ alone tx (changes_after n (step limits c command).1) (step limits c command).0
  pub changes : changes_after n (step limits c command).1 ≤ (step limits c command).0.changes

-- A transaction alone has no more events and readings than its station, and is one transaction at most.
pub record NeedsNoMore (c : Content) (tx : List ℕ) (n : ℕ) : Type 0 where
  pub transactions : length (transactions_of (entries (alone tx n c))) ≤ min 1 (length (transactions_of (entries c)))
  pub events : length (entries (alone tx n c)) ≤ length (entries c)
  pub readings : readings_stored (entries (alone tx n c)) ≤ readings_stored (entries c)
