-- The answers to an operator's lines, one after the other.
use Rattle.std.{specs.Prelude.{◌≡◌, ℕ, List, [], ◌∷◌, Option, None, Some, All, map}, specs.Io.KnownBytes.Appends, specs.List.flat_map}
use Rattle.ledger_model.{specs.declared.answer.Answer.Answer, specs.declared.command.Command.Command, specs.Board.Board}
use Rattle.script_lines.{specs.LineMeaning.line_meaning, specs.Lines.Line}
use Rattle.site_desk.{specs.declared.plan.SitePlan.SitePlan, specs.declared.roster.StationPlace.StationPlace}
use Rattle.station_link.specs.Attended.{if_seen}
use Rattle.running_desk.{specs.Ordered.AreAnswered, specs.Replied.IsReplyOrMemory}

-- A line, its answer, and what was seen of the desk's journal with it.
pub record Replied (M : Type 0) : Type 0 where
  pub line : Line
  pub text : List ℕ
  pub seen : Option M

-- The answers to the operator's lines that come, up to the line that says `close`, were appended
-- one after the other, and nothing else. `lines` has each line with its answer and with what was
-- seen of the desk's journal, and `handed` is all that was seen.
pub record AddsReplies {M : Type 0} (gives : ℕ → StationPlace → Command → Answer → Option M → Type 0)
    (shows : ℕ → List (List ℕ × Board) → M → Type 0) (sites : List SitePlan) (places : List StationPlace)
    (coming : Option (List Line)) (before now : Option (List ℕ)) (handed : List M) : Type 0 where
  pub lines : List (Replied M)
  pub those : AreAnswered coming (map (λ l. l.line) lines)
  pub replies : All (λ l. IsReplyOrMemory gives shows sites places (line_meaning l.line) l.text l.seen) lines
  pub adds : Appends before now (flat_map (λ l. l.text) lines)
  pub all : handed ≡ flat_map (λ l. if_seen l.seen) lines

-- The answer to a line was written.
abbrev pub AddsReply : {M : Type 0} → (ℕ → StationPlace → Command → Answer → Option M → Type 0)
    → (ℕ → List (List ℕ × Board) → M → Type 0) → List SitePlan → List StationPlace → Line → Option (List ℕ) → Option (List ℕ)
    → Option M → Type 0
AddsReply gives shows sites places line before now seen = (text : List ℕ) × Appends before now text × IsReplyOrMemory gives shows sites places (line_meaning line) text seen
