-- A comment changes nothing of what a script leaves; so with the mark of a restore and without it.
use Rattle.std.{proofs.Common.{◌≡◌, ◌≢◌, ℕ, zero, suc, true, not, ◌==◌, List, [], ◌∷◌, ◌++◌, length, take, drop, get_or, inl, inr, refl, sym, ap, subst, ◌∙◌, arith, append_assoc, length-append, eq-eqb}, specs.List.list_all, proofs.lemmas.Bool.false≢true, proofs.lemmas.List.Elements.All-nil, proofs.lemmas.List.Sums.AllPass-from_list_all}
use Rattle.kept_desk.{specs.declared.entry.Entry.Entry, specs.Entries.{IsComment, entry_text, text_of}}
use Rattle.script_lines.{specs.Lines.{HasNoFeed, lines_of}, specs.Ranges.longest_line}
use Rattle.script_ledgers.specs.Script.{start, script_after}
use Rattle.journal_script.{specs.Cuts.{HasWhole, restore_mark, run_begins}, specs.Journals.{AreLeft, EndsWhole, Shows}, specs.Restoring.run_line, specs.OneScript.{CommentsChangeNothing, RestoredCutsAreScripts, RestoredFilesAreScripts, ends_in}, proofs.Cuts.cuts_are_scripts, proofs.LinesRead.both_whole, proofs.Notes.{note_whole, noted_after}, proofs.Whole.{after_both, lines_apart}}

-- What is behind whole lines goes on from the state in which they end.
goes_on : (front back : List ℕ) → EndsWhole front → ends_in (front ++ back) ≡ script_after (ends_in front) (lines_of longest_line back)
goes_on front back whole = ap (script_after start) (lines_apart longest_line front back whole) ∙ after_both start (lines_of longest_line front) (lines_of longest_line back)

pub comments_change_nothing : CommentsChangeNothing
comments_change_nothing front note back whole may =
    ap ends_in (sym (append_assoc front note back))
    ∙ goes_on (front ++ note) back (both_whole front note whole (note_whole note may))
    ∙ ap (λ s. script_after s (lines_of longest_line back)) (noted_after start front note whole may)
    ∙ sym (goes_on front back whole)

mark_is_comment : IsComment restore_mark
mark_is_comment = record { said = []; feedless = All-nil (λ b. b ≢ 10); short = omega arith; is = refl }

pub restored_files_are_scripts : RestoredFilesAreScripts
restored_files_are_scripts journal written whole = comments_change_nothing journal restore_mark (run_begins ++ written) whole (inr mark_is_comment)

-- ---- cut at any byte

no_feed : (bytes : List ℕ) → list_all (λ b. not (b == 10)) bytes ≡ true → HasNoFeed bytes
no_feed bytes h = λ k d less e. false≢true (sym (ap not (eq-eqb (get_or bytes k d) 10 e)) ∙ AllPass-from_list_all (λ b. not (b == 10)) bytes h k d less)

run_is_comment : IsComment run_begins
run_is_comment = record { said = drop 1 run_line; feedless = no_feed (drop 1 run_line) refl; short = omega arith; is = refl }

cancelled : (a b c : List ℕ) → a ++ b ≡ a ++ c → b ≡ c
cancelled [] b c e = e
cancelled (x ∷ a) b c e = let rest : a ++ b ≡ a ++ c = cc e in cancelled a b c rest

-- A front that holds the first entry's text whole holds no mere part of it.
not_less : (e : Entry) (log : List Entry) (front : List ℕ) (k : ℕ) → HasWhole (e ∷ log) front zero → HasWhole (e ∷ log) front (suc k) → ⊥
not_less e log front k one other =
    let text = entry_text e in let later = text_of (take k log) in
    let short = ap length one.is in let long = ap length other.is in
    omega (arith, one.next.2, ap length one.next.1, length-append one.part one.next.0, short, long, length-append (text ++ later) other.part, length-append text later)

-- How many lines are whole in a front is one number.
one_count : (log : List Entry) (front : List ℕ) (j k : ℕ) → HasWhole log front j → HasWhole log front k → j ≡ k
one_count log front zero zero one other = refl
one_count [] front (suc j) k one other = absurd (omega (arith, one.within))
one_count [] front zero (suc k) one other = absurd (omega (arith, other.within))
one_count (e ∷ log) front zero (suc k) one other = absurd (not_less e log front k one other)
one_count (e ∷ log) front (suc j) zero one other = absurd (not_less e log front j other one)
one_count (e ∷ log) front (suc j) (suc k) one other =
    let text = entry_text e in let before = text_of (take j log) in let after = text_of (take k log) in
    let same : text ++ (before ++ one.part) ≡ text ++ (after ++ other.part) =
    sym (append_assoc text before one.part) ∙ sym one.is ∙ other.is ∙ append_assoc text after other.part in
    let behind = before ++ one.part in
    let first : HasWhole log behind j = record { within = omega (arith, one.within); part = one.part; is = refl; next = one.next } in
    let second : HasWhole log behind k = record { within = omega (arith, other.within); part = other.part; is = cancelled text behind (after ++ other.part) same; next = other.next } in
    ap suc (one_count log behind j k first second)

pub restored_cuts_are_scripts : RestoredCutsAreScripts
restored_cuts_are_scripts read sites stations firsts log front rest whole once shows all is =
    let marked = cuts_are_scripts read sites stations firsts log front rest restore_mark whole once shows all is (inl refl) in
    let began = cuts_are_scripts read sites stations firsts log front rest run_begins whole once shows all is (inr refl) in
    let same = one_count log front marked.0 began.0 marked.1 began.1 in
    let restored = read ++ (front ++ restore_mark) in
    let there : read ++ (front ++ (restore_mark ++ run_begins)) ≡ restored ++ run_begins =
    ap (λ l. read ++ l) (sym (append_assoc front restore_mark run_begins)) ∙ sym (append_assoc read (front ++ restore_mark) run_begins) in
    let stays : ends_in (read ++ (front ++ (restore_mark ++ run_begins))) ≡ ends_in restored = ap ends_in there ∙ noted_after start restored run_begins marked.2 (inr run_is_comment) in (
      marked.0,
      marked.1,
      λ cells left.
          (subst (λ s. Shows s sites stations cells) (sym stays) (marked.3 cells left), began.3 cells (subst (λ n. AreLeft stations firsts cells (take n log)) same left)),
    )
