-- A comment behind a script changes nothing of what it leaves.
use Rattle.std.proofs.Common.{◌≡◌, ◌&&◌, ℕ, Bool, true, false, not, List, [], ◌∷◌, ◌++◌, Some, inr, refl, sym, ap, subst, ◌∙◌, append_assoc}
use Rattle.script_lines.{specs.LineMeaning.{line_meaning, nothing}, specs.Lines.lines_of, specs.Ranges.longest_line}
use Rattle.script_ledgers.specs.Script.{start, step_by, script_after}
use Rattle.journal_script.{specs.Head.after, specs.declared.restored.Restored.Restored, specs.Cuts.run_begins, specs.Journals.{EndsWhole, Shows}, specs.Restoring.{IsRestored, run_line}, proofs.Whole.{after_both, lines_apart}}
use Rattle.journal_server.specs.Served.{Leaves}

one_line : lines_of longest_line run_begins ≡ Some run_line ∷ []
one_line = refl

says_nothing : line_meaning (Some run_line) ≡ nothing
says_nothing = refl

pub comment_after : (read : List ℕ) → EndsWhole read → after (read ++ run_begins) ≡ after read
comment_after read whole =
    let s = script_after start (lines_of longest_line read) in
    ap (script_after start) (lines_apart longest_line read run_begins whole ∙ ap (λ l. lines_of longest_line read ++ l) one_line)
    ∙ after_both start (lines_of longest_line read) (Some run_line ∷ [])
    ∙ ap (λ m. (step_by s m).0) says_nothing

pub comment_whole : (read : List ℕ) → EndsWhole (read ++ run_begins)
comment_whole read = inr (read ++ run_line, sym (append_assoc read run_line (10 ∷ [])))

-- what a script leaves, it leaves with the comment behind it
pub restored_after : (read : List ℕ) (r : Restored) → IsRestored read r → Leaves (read ++ run_begins) r.draft.sites r.draft.stations r.cells.items
restored_after read r is = record {
  whole = comment_whole read;
  shows = subst (λ s. Shows s r.draft.sites r.draft.stations r.cells.items) (sym (comment_after read is.whole)) is.shows;
}

-- what is served although it may not be is not lost
pub kept_unless : (lost allows : Bool) → (lost && not allows) ≡ false → allows ≡ false → lost ≡ false
kept_unless true true e f = f
kept_unless true false e f = e
kept_unless false allows e f = refl
