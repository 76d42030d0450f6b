use Rattle.std.{specs.Prelude.{ℕ, zero, suc, List, [], ◌∷◌, ◌++◌, Option, None, Some, ⊤, ◌≡◌, map, length, All, if◌then◌else◌}, specs.List.flat_map}
use Rattle.std.specs.FinMap as finite
use Rattle.ledger_model.{specs.declared.command.Command.Command, specs.declared.command.Command.TheVariants.Deliver, specs.declared.answer.Answer.Answer, specs.declared.answer.Answer.TheVariants.{Accepted, Repeat, Refused}, specs.Limits.Bounds, specs.Key.KeyName, specs.declared.reading.Direction.Direction, specs.Event.{MeterReading, EventContent, toward}, specs.Content.{Content, Stored, empty_content}, specs.Admissible.IsAdmissible, specs.Step.step}

-- The content after a list of commands, one after the other.
abbrev pub left_by : Bounds → Content → List Command → Content
left_by limits c [] = c
left_by limits c (command ∷ commands) = left_by limits (step limits c command).0 commands

-- The answers to a list of commands, one after the other.
abbrev pub answers : Bounds → Content → List Command → List Answer
answers limits c [] = []
answers limits c (command ∷ commands) = (step limits c command).1 ∷ answers limits (step limits c command).0 commands

-- The answer is that the command was accepted.
abbrev pub IsAccepted : Answer → Type 0
IsAccepted (Accepted n) = ⊤
IsAccepted Repeat = ⊥
IsAccepted (Refused why) = ⊥

-- Each of a list of commands, one after the other, is accepted.
abbrev pub AreAccepted : Bounds → Content → List Command → Type 0
AreAccepted limits c [] = ⊤
AreAccepted limits c (command ∷ commands) = IsAccepted (step limits c command).1 × AreAccepted limits (step limits c command).0 commands

-- The numbers below a number, from 0 on.
abbrev pub upto : ℕ → List ℕ
upto zero = []
upto (suc n) = upto n ++ n ∷ []

-- The readings of one direction under a key: those of its event, if there is one and it is live.
abbrev pub readings_at : Direction → Option Stored → List MeterReading
readings_at d None = []
readings_at d (Some stored) = if stored.voided then [] else toward d stored.event.readings

-- The readings of a transaction in one direction that are found by looking at the numbers below a number, one by one
-- from 0 on.
abbrev pub by_number : Direction → List ℕ → Content → ℕ → List MeterReading
by_number d tx c n = flat_map (λ seq. readings_at d (finite.get c.events (record { tx = tx; seq = seq }))) (upto n)

-- An event with its key, as a station sends it.
abbrev pub Sent : Type 0
Sent = KeyName × EventContent

-- The deliveries of what a station sent.
abbrev pub deliveries : List Sent → List Command
deliveries sent = map (λ (d : Sent). Deliver d.0 d.1) sent

-- A list of so many admissible commands, each accepted under these limits, leads from the empty content to this
-- one.
pub record IsLeftByRun (limits : Bounds) (n : ℕ) (c : Content) (commands : List Command) : Type 0 where
  pub long : length commands ≡ n
  pub admissible : All IsAdmissible commands
  pub accepted : AreAccepted limits empty_content commands
  pub left : left_by limits empty_content commands ≡ c

-- The second deliveries are accepted as the first are, and leave the same content.
pub record DeliversTheSame (limits : Bounds) (c : Content) (one other : List Sent) : Type 0 where
  pub accepted : AreAccepted limits c (deliveries other)
  pub content : left_by limits c (deliveries other) ≡ left_by limits c (deliveries one)
