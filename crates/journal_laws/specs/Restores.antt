-- A journal that was cut at any byte and marked is one that a restore takes.
use Rattle.std.specs.Prelude.{◌≡◌, ℕ, ◌+◌, ◌≤◌, true, false, List, ◌++◌, All, length, Some, slice_get}
use Rattle.kept_desk.{specs.declared.entry.Entry.Entry, specs.Entries.{of_station, text_of}}
use Rattle.ledger_model.specs.Laws.{AreAccepted}
use Rattle.script_lines.{specs.Lines.lines_of, specs.Ranges.longest_line}
use Rattle.script_ledgers.specs.Script.{start, script_after}
use Rattle.site_desk.{specs.declared.plan.SitePlan.SitePlan, specs.declared.plan.StationPlan.StationPlan, specs.Cell.Cell}
use Rattle.journal_script.{specs.Cuts.{IsMark, restore_mark, run_begins}, specs.Head.IsHeadOf, specs.Journals.{EndsWhole, HasOnce, IsSpoken, Shows, commands_of}, specs.Restoring.{HasNoListen, loses, marked_by}}

-- A script in whole lines loses none of them, and none is `listen`.
pub record IsKept (read : List ℕ) : Type 0 where
  pub whole : EndsWhole read
  pub loses_none : loses start (lines_of longest_line read) ≡ false
  pub no_listen : HasNoListen longest_line read

-- The head of a journal loses none of its lines.
abbrev pub HeadsAreKept : Type 0
HeadsAreKept = (sites : List SitePlan) (stations : List StationPlan) (head : List ℕ) → IsHeadOf sites stations head → IsKept head

-- Each entry's command is accepted at the content to which its station's entries before it lead.
pub record AreTaken (stations : List StationPlan) (firsts : List Cell) (log : List Entry) : Type 0 where
  pub count : length firsts ≡ length stations
  pub accepted : (k : ℕ) (s : StationPlan) (f : Cell) → slice_get stations k ≡ Some s → slice_get firsts k ≡ Some f → AreAccepted s.limits f.content (commands_of (of_station k log))

-- A mark behind the comment in front of an entry's line leaves it no longer than a line may be. The line itself always
-- leaves that room.
abbrev pub HasRoom : Entry → Type 0
HasRoom e = length e.note + length run_begins ≤ longest_line

-- The law.
abbrev pub CutJournalsRestore : Type 0
CutJournalsRestore = (read : List ℕ) (sites : List SitePlan) (stations : List StationPlan) (firsts : List Cell) (log : List Entry) (front rest mark : List ℕ)
    → IsKept read → HasOnce sites stations → Shows (script_after start (lines_of longest_line read)) sites stations firsts
    → All (IsSpoken stations) log → All HasRoom log → AreTaken stations firsts log → front ++ rest ≡ text_of log → IsMark mark
    → IsKept (read ++ (front ++ mark)) × (mark ≡ restore_mark → marked_by false (lines_of longest_line (read ++ (front ++ mark))) ≡ true)
