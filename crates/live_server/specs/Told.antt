-- What a live server writes to its output.
use Rattle.std.{specs.Prelude.{ℕ, List, [], ◌++◌, Option, None, Some, codes}, specs.Io.KnownBytes.Appends}
use Rattle.ledger_model.{specs.declared.answer.Answer.Answer, specs.declared.command.Command.Command, specs.Board.Board}
use Rattle.script_lines.specs.Lines.{Line}
use Rattle.site_desk.{specs.declared.plan.SitePlan.SitePlan, specs.declared.roster.StationPlace.StationPlace}
use Rattle.running_desk.{specs.Ports.at_port, specs.Replies.AddsReplies}

-- The lines of its ports: for stations, and for browsers if it listens for them.
abbrev pub ports : ℕ → Option ℕ → List ℕ
ports port None = at_port (codes "listening") port
ports port (Some browsers) = at_port (codes "listening") port ++ at_port (codes "boards") browsers

-- The operator's bytes are those of the input; if a number of connections ends the server, there are none.
abbrev pub operator_input : Option ℕ → Option (List ℕ) → Option (List ℕ)
operator_input None input = input
operator_input (Some connections) input = Some []

-- The lines of the server's ports were appended, and then the answers to the operator's lines that
-- come, up to the line `close`; `handed` is what was seen of the desk's journal with these answers.
pub record Tells {M : Type 0} (gives : ℕ → StationPlace → Command → Answer → Option M → Type 0)
    (shows : ℕ → List (List ℕ × Board) → M → Type 0) (sites : List SitePlan) (places : List StationPlace)
    (coming : Option (List Line)) (before now : Option (List ℕ)) (handed : List M) : Type 0 where
  pub port : ℕ
  pub browsers : Option ℕ
  pub answered : Option (List ℕ)
  pub listens : Appends before answered (ports port browsers)
  pub replies : AddsReplies gives shows sites places coming answered now handed
