use Rattle.std.specs.Prelude.{◌≡◌, ℕ, ◌+◌, ◌<◌, ◌≤◌, ◌^◌}
use Rattle.ledger_model.{specs.declared.answer.Answer.Answer, specs.declared.command.Command.Command, specs.Admissible.IsAdmissible, specs.Content.Content, specs.Limits.Bounds, specs.Step.{Reached, answer, step}}
use Rattle.station_ledger.{specs.Ledger.Ledger, specs.Spent.{IsSpent, most_spent}}

-- A ledger with these limits and this content gives this answer to the command. The command's parts are in range.
pub record IsJudged (limits : Bounds) (c : Content) (command : Command) (a : Answer) : Type 0 where
  pub answered : a ≡ answer limits c command
  pub admissible : IsAdmissible command

-- A ledger took the command: it gave the step's answer, has the step's content, and evaluated so many differences more.
pub record IsApplied (l : Ledger) (command : Command) (a : Answer) (l' : Ledger) (count count' : ℕ) : Type 0 where
  pub answer : a ≡ answer l.limits l.content command
  pub content : l' ≡ record l { content = (step l.limits l.content command).0 }
  pub work : IsSpent a count count'
  pub bound : count' ≤ count + most_spent l.order l.content.events command
  pub reached : Reached l'.limits l'.content.changes l'.content
  pub fits : l'.content.changes < 2 ^ 64
