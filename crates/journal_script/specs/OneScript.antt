-- A journal that was restored and goes on in its own file: what the server read and wrote, and what the file holds.
use Rattle.std.specs.Prelude.{◌≡◌, ℕ, List, ◌++◌, All, take}
use Rattle.kept_desk.{specs.declared.entry.Entry.Entry, specs.Entries.{IsNote, text_of}}
use Rattle.script_lines.{specs.Lines.lines_of, specs.Ranges.longest_line}
use Rattle.script_ledgers.specs.Script.{Script, start, script_after}
use Rattle.site_desk.{specs.declared.plan.SitePlan.SitePlan, specs.declared.plan.StationPlan.StationPlan, specs.Cell.Cell}
use Rattle.journal_script.{specs.Cuts.{HasWhole, restore_mark, run_begins}, specs.Journals.{AreLeft, EndsWhole, HasOnce, IsSpoken, Shows}}

-- The state in which a replay of these bytes ends.
abbrev pub ends_in : List ℕ → Script
ends_in bytes = script_after start (lines_of longest_line bytes)

-- A comment line behind whole lines, whatever follows, changes nothing in the state in which a replay ends.
abbrev pub CommentsChangeNothing : Type 0
CommentsChangeNothing = (front note back : List ℕ) → EndsWhole front → IsNote note → ends_in (front ++ (note ++ back)) ≡ ends_in (front ++ back)

-- A server read a journal in whole lines with the mark of a restore behind it, and went on in the journal's file, which
-- has no mark. A replay of what the server read and wrote ends as a replay of the file ends.
abbrev pub RestoredFilesAreScripts : Type 0
RestoredFilesAreScripts = (journal written : List ℕ) → EndsWhole journal → ends_in (journal ++ (restore_mark ++ (run_begins ++ written))) ≡ ends_in (journal ++ (run_begins ++ written))

-- If the journal was cut at any byte, behind a script that ends with a plan's stations in these
-- contents, the next run begins with the contents to which the journal's whole lines lead, with the
-- mark and without it.
abbrev pub RestoredCutsAreScripts : Type 0
RestoredCutsAreScripts = (read : List ℕ) (sites : List SitePlan) (stations : List StationPlan) (firsts : List Cell) (log : List Entry) (front rest : List ℕ)
    → EndsWhole read → HasOnce sites stations → Shows (ends_in read) sites stations firsts
    → All (IsSpoken stations) log → front ++ rest ≡ text_of log
    → (k : ℕ) × HasWhole log front k
    × ((cells : List Cell) → AreLeft stations firsts cells (take k log)
    → Shows (ends_in (read ++ (front ++ (restore_mark ++ run_begins)))) sites stations cells × Shows (ends_in (read ++ (front ++ run_begins))) sites stations cells)
