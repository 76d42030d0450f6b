-- The contents after a journal's text that was cut at any byte, read as a script behind another
-- one.
use Rattle.std.specs.Prelude.{◌≡◌, ℕ, ◌<◌, ◌≤◌, List, [], ◌∷◌, ◌++◌, ◌⊎◌, All, codes, drop, length, take}
use Rattle.kept_desk.{specs.declared.entry.Entry.Entry, specs.Entries.{entry_text, text_of}}
use Rattle.ledger_model.specs.declared.command.Command.{Command}
use Rattle.script_lines.{specs.Lines.lines_of, specs.Ranges.longest_line}
use Rattle.script_ledgers.specs.Script.{start, script_after}
use Rattle.site_desk.{specs.declared.plan.SitePlan.SitePlan, specs.declared.plan.StationPlan.StationPlan, specs.Cell.Cell}
use Rattle.journal_script.{specs.Journals.{AreLeft, EndsWhole, HasOnce, IsSpoken, Shows}, specs.Restoring.run_line}

-- The bytes that are put behind a journal to restore it, before `listen`.
abbrev pub restore_mark : List ℕ
restore_mark = codes "#\n"

-- How a run begins in a journal.
abbrev pub run_begins : List ℕ
run_begins = run_line ++ 10 ∷ []

-- What is behind a journal that was cut: the mark of a restore, or the next run's first line.
abbrev pub IsMark : List ℕ → Type 0
IsMark mark = (mark ≡ restore_mark) ⊎ (mark ≡ run_begins)

-- The bytes are a front, but not all, of the text of the first of these entries; without entries there are no bytes.
abbrev pub BeginsNext : List ℕ → List Entry → Type 0
BeginsNext part [] = part ≡ []
BeginsNext part (e ∷ es) = (more : List ℕ) × (entry_text e ≡ part ++ more) × (0 < length more)

-- The front of a journal's text has the whole lines of its first k entries, with the bytes in front
-- of them, and only a part, perhaps nothing, of the next entry's text. A line without its line feed
-- is not whole.
pub record HasWhole (log : List Entry) (front : List ℕ) (k : ℕ) : Type 0 where
  pub within : k ≤ length log
  pub part : List ℕ
  pub is : front ≡ text_of (take k log) ++ part
  pub next : BeginsNext part (drop k log)

-- Take a script that ends with a plan's stations in these contents, and behind it the front of a
-- journal's text, cut anywhere, and a mark. The longer script ends with the contents to which the
-- entries with whole lines in that front lead. So a journal that was cut at any byte loses no whole
-- line and gains none.
abbrev pub CutsAreScripts : Type 0
CutsAreScripts = (read : List ℕ) (sites : List SitePlan) (stations : List StationPlan) (firsts : List Cell) (log : List Entry) (front rest mark : List ℕ)
    → EndsWhole read → HasOnce sites stations → Shows (script_after start (lines_of longest_line read)) sites stations firsts
    → All (IsSpoken stations) log → front ++ rest ≡ text_of log → IsMark mark
    → (k : ℕ) × HasWhole log front k × EndsWhole (read ++ (front ++ mark))
    × ((cells : List Cell) → AreLeft stations firsts cells (take k log) → Shows (script_after start (lines_of longest_line (read ++ (front ++ mark)))) sites stations cells)
