-- What is in front of a journal's line changes nothing of what a script leaves.
use Rattle.std.{proofs.Common.{◌≡◌, ℕ, suc, ◌+◌, ◌-◌, ◌≤◌, Bool, true, false, cond, leb, List, [], ◌∷◌, ◌++◌, Some, None, All, length, take, inl, inr, refl, sym, ap, ◌∙◌, arith, append-nil}, specs.Io.BufRead.{ends_with_byte, strip_last}, proofs.lemmas.Bool.Decides.nat_tests, proofs.lemmas.List.Elements.All-cons}
use Rattle.kept_desk.specs.Entries.{IsComment, IsNote, line_text}
use Rattle.script_lines.{specs.LineMeaning.{line_meaning, nothing}, specs.Lines.{HasNoFeed, ended, lines_of, unended}, specs.Ranges.longest_line, proofs.Cuts.cut-ended}
use Rattle.script_ledgers.specs.Script.{Script, line_step, script_after, step_by}
use Rattle.journal_script.{specs.Journals.EndsWhole, proofs.Whole.{after_both, lines_apart}}

pub note_whole : (note : List ℕ) → IsNote note → EndsWhole note
note_whole note (inl none) = inl none
note_whole note (inr c) = inr (35 ∷ c.said, c.is)

-- a comment has no line feed but its last
pub comment_feedless : (said : List ℕ) → HasNoFeed said → HasNoFeed (35 ∷ said)
comment_feedless said feedless = All-cons (λ b. b ≡ 10 → ⊥) 35 said (λ e. omega (arith, e)) feedless

-- the end of a line takes no first byte that is no carriage return
hash_first : (said : List ℕ) → (rest : List ℕ) × (strip_last 13 (35 ∷ said) ≡ 35 ∷ rest)
hash_first [] = ([], refl)
hash_first (x ∷ xs) = at (ends_with_byte 13 (35 ∷ x ∷ xs))
  where
    less : length (35 ∷ x ∷ xs) - 1 ≡ suc (length xs)
    less = omega arith

    at : (b : Bool) → (rest : List ℕ) × (cond b (take (length (35 ∷ x ∷ xs) - 1) (35 ∷ x ∷ xs)) (35 ∷ x ∷ xs) ≡ 35 ∷ rest)
    at true = (take (length xs) (x ∷ xs), ap (λ n. take n (35 ∷ x ∷ xs)) less)
    at false = (x ∷ xs, refl)

-- a comment says nothing
pub comment_says : (said : List ℕ) → length (35 ∷ said) ≤ longest_line → line_meaning (ended longest_line (35 ∷ said)) ≡ nothing
comment_says said short =
    let fits : leb (length (35 ∷ said)) longest_line ≡ true = grind (arith, nat_tests, short) in
    ap (λ b. line_meaning (cond b (Some (strip_last 13 (35 ∷ said))) None)) fits ∙ ap (λ l. line_meaning (Some l)) (hash_first said).1

pub note_after : (s : Script) (note : List ℕ) → IsNote note → script_after s (lines_of longest_line note) ≡ s
note_after s note (inl none) = ap (λ n. script_after s (lines_of longest_line n)) none
note_after s note (inr c) =
    ap (λ n. script_after s (lines_of longest_line n)) (c.is ∙ sym (append-nil (line_text (35 ∷ c.said))))
    ∙ ap (script_after s) (cut-ended (unended longest_line) longest_line (35 ∷ c.said) [] (comment_feedless c.said c.feedless))
    ∙ ap (λ m. (step_by s m).0) (comment_says c.said c.short)

-- a note behind whole lines
pub noted_after : (s : Script) (read note : List ℕ) → EndsWhole read → IsNote note → script_after s (lines_of longest_line (read ++ note)) ≡ script_after s (lines_of longest_line read)
noted_after s read note whole may =
    ap (script_after s) (lines_apart longest_line read note whole)
    ∙ after_both s (lines_of longest_line read) (lines_of longest_line note)
    ∙ note_after (script_after s (lines_of longest_line read)) note may
