-- A journal that was cut at any byte, with a mark behind it.
use Rattle.std.{proofs.Common.{◌≡◌, ◌≢◌, ℕ, zero, suc, ◌<◌, ◌≤◌, true, not, ◌==◌, List, [], ◌∷◌, ◌++◌, All, length, take, drop, get_or, ◌⊎◌, inl, inr, refl, sym, ap, subst, ◌∙◌, arith, append_assoc, append-nil, length-append, eq-eqb, zero-le}, specs.List.list_all, proofs.lemmas.Bool.{cases_lt, false≢true}, proofs.lemmas.List.take-append-le, proofs.lemmas.List.Elements.{All-append, All-head, All-tail, All-take}, proofs.lemmas.List.Sums.AllPass-from_list_all, proofs.Math.Seq.take-append_seam}
use Rattle.kept_desk.{specs.declared.entry.Entry.Entry, specs.Entries.{IsNote, entry_text, line_text, text_of}}
use Rattle.ledger_model.specs.declared.command.Command.{Command}
use Rattle.script_lines.{specs.Lines.{HasNoFeed, ended, lines_of, unended}, specs.Ranges.longest_line, proofs.Cuts.cut-ended}
use Rattle.script_ledgers.specs.Script.{Script, line_step, start, script_after}
use Rattle.site_desk.{specs.declared.plan.SitePlan.SitePlan, specs.declared.plan.StationPlan.StationPlan, specs.Cell.Cell}
use Rattle.journal_script.{specs.Cuts.{BeginsNext, CutsAreScripts, HasWhole, IsMark}, specs.Journals.{EndsWhole, IsSpoken, Shows}, specs.Restoring.run_line, proofs.Journals.journals_are_scripts, proofs.LinesRead.both_whole, proofs.Notes.{comment_feedless, note_whole, noted_after}, proofs.LastByte.last, proofs.Spoiled.{Stays, spoiled}, proofs.Whole.{after_both, lines_apart}}

-- ---- where a text is cut

-- two equal texts; the first is no longer than the second
pub front_of : (a b x y : List ℕ) → a ++ b ≡ x ++ y → length a ≤ length x → (more : List ℕ) × (x ≡ a ++ more) × (b ≡ more ++ y)
front_of [] b x y e short = (x, refl, e)
front_of (c ∷ a) b [] y e short = absurd (omega arith)
front_of (c ∷ a) b (d ∷ x) y e short =
    let first : c ≡ d = cc e in
    let rest : a ++ b ≡ x ++ y = cc e in
    let later = front_of a b x y rest (omega arith) in
    (later.0, (λ i. sym first i ∷ later.1 i), later.2)

-- how many lines are whole in a front
pub whole_lines : (log : List Entry) (front rest : List ℕ) → front ++ rest ≡ text_of log → (k : ℕ) × HasWhole log front k
whole_lines [] front rest is = (0, record { within = zero-le; part = []; is = nothing front rest is; next = refl })
  where
    nothing : (a b : List ℕ) → a ++ b ≡ [] → a ≡ []
    nothing [] b e = refl
    nothing (x ∷ a) b e = cc e
whole_lines (e ∷ log) front rest is = elim (cases_lt (length front) (length (entry_text e))) [
  | inl less ↦
      let there = front_of front rest (entry_text e) (text_of log) is (omega arith) in
      (0, record { within = zero-le; part = front; is = refl; next = (there.0, there.1, omega (arith, ap length there.1, length-append front there.0)) })
  | inr more ↦
      let there = front_of (entry_text e) (text_of log) front rest (sym is) more in
      let later = whole_lines log there.0 rest (sym there.2) in
      let cut = later.1 in (
        suc later.0,
        record {
          within = omega (arith, cut.within);
          part = cut.part;
          is = there.1 ∙ ap (λ l. entry_text e ++ l) cut.is ∙ sym (append_assoc (entry_text e) (text_of (take later.0 log)) cut.part);
          next = cut.next;
        },
      )
]

-- the part of an entry's text is what is in front of the line, or none of that, and a part without a line feed
record Parted (part : List ℕ) : Type 0 where
  first : List ℕ
  rest : List ℕ
  noted : IsNote first
  feedless : HasNoFeed rest
  is : part ≡ first ++ rest

-- a part that stays before the line feed of a line has none
pub open_part : (line part more : List ℕ) → HasNoFeed line → line_text line ≡ part ++ more → length part ≤ length line → HasNoFeed part
open_part line part more feedless is short =
    let same : take (length part) line ≡ part =
    sym (take-append-le (length part) line (10 ∷ []) short) ∙ ap (take (length part)) is ∙ take-append_seam part more in
    subst HasNoFeed same (All-take (λ b. b ≢ 10) (length part) line feedless)

-- behind what is in front of the line
parted_line : (note line part more : List ℕ) → IsNote note → HasNoFeed line → note ++ line_text line ≡ part ++ more → 0 < length more → length note ≤ length part → Parted part
parted_line note line part more may feedless is some past =
    let there = front_of note (line_text line) part more is past in
    record {
      first = note;
      rest = there.0;
      noted = may;
      feedless = open_part line there.0 more feedless there.2 (omega (arith, some, ap length there.2, length-append there.0 more, length-append line (10 ∷ [])));
      is = there.1;
    }

-- within what is in front of it
parted_note : (note line part more : List ℕ) → IsNote note → note ++ line_text line ≡ part ++ more → length part < length note → Parted part
parted_note note line part more (inl none) is less = absurd (omega (arith, less, ap length none))
parted_note note line part more (inr c) is less =
    let there = front_of part more note (line_text line) (sym is) (omega (arith, less)) in
    record {
      first = [];
      rest = part;
      noted = inl refl;
      feedless = open_part (35 ∷ c.said) part there.0 (comment_feedless c.said c.feedless) (sym c.is ∙ there.1) (omega (arith, less, ap length c.is, length-append (35 ∷ c.said) (10 ∷ [])));
      is = refl;
    }

parted : (stations : List StationPlan) (part : List ℕ) (log : List Entry) → All (IsSpoken stations) log → BeginsNext part log → Parted part
parted stations part [] all next = record { first = []; rest = []; noted = inl refl; feedless = λ k d less. absurd (omega arith); is = next }
parted stations part (e ∷ log) all next =
    let spoken = All-head (IsSpoken stations) e log all in
    elim (cases_lt (length part) (length e.note)) [
      | inl less ↦ parted_note e.note e.line part next.0 spoken.noted next.1 less
      | inr past ↦ parted_line e.note e.line part next.0 spoken.noted spoken.speaks.feedless next.1 next.2 past
    ]

pub All-drop : (stations : List StationPlan) (k : ℕ) (log : List Entry) → All (IsSpoken stations) log → All (IsSpoken stations) (drop k log)
All-drop stations zero log all = all
All-drop stations (suc k) [] all = all
All-drop stations (suc k) (e ∷ log) all = All-drop stations k log (All-tail (IsSpoken stations) e log all)

-- ---- the mark

-- a mark is `#`, bytes without a line feed that end with a byte which ends no command, and a line feed
pub record Marks (mark : List ℕ) : Type 0 where
  pub back : List ℕ
  pub feedless : HasNoFeed back
  pub ends : (last 35 back ≡ 35) ⊎ (last 35 back ≡ 115)
  pub is : mark ≡ 35 ∷ (back ++ 10 ∷ [])

no_feed : (bytes : List ℕ) → list_all (λ b. not (b == 10)) bytes ≡ true → HasNoFeed bytes
no_feed bytes h = λ k d less e. false≢true (sym (ap not (eq-eqb (get_or bytes k d) 10 e)) ∙ AllPass-from_list_all (λ b. not (b == 10)) bytes h k d less)

pub marks : (mark : List ℕ) → IsMark mark → Marks mark
marks mark (inl e) = record { back = []; feedless = no_feed [] refl; ends = inl refl; is = e }
marks mark (inr e) = record { back = drop 1 run_line; feedless = no_feed (drop 1 run_line) refl; ends = inr refl; is = e }

-- the part of a line and a mark behind it are one line
pub one_line : (part mark : List ℕ) (m : Marks mark) → HasNoFeed part → lines_of longest_line (part ++ mark) ≡ ended longest_line (part ++ 35 ∷ m.back) ∷ []
one_line part mark m feedless =
    let raw = part ++ 35 ∷ m.back in
    let whole : part ++ mark ≡ (raw ++ 10 ∷ []) ++ [] = ap (λ l. part ++ l) m.is ∙ sym (append_assoc part (35 ∷ m.back) (10 ∷ [])) ∙ sym (append-nil (raw ++ 10 ∷ [])) in
    ap (lines_of longest_line) whole
    ∙ cut-ended (unended longest_line) longest_line raw [] (All-append (λ b. b ≢ 10) part (35 ∷ m.back) feedless (All-append (λ b. b ≢ 10) (35 ∷ []) m.back (no_feed (35 ∷ []) refl) m.feedless))

-- ---- the law

texts_whole : (log : List Entry) → EndsWhole (text_of log)
texts_whole [] = inl refl
texts_whole (e ∷ log) = both_whole (entry_text e) (text_of log) (inr (e.note ++ e.line, sym (append_assoc e.note e.line (10 ∷ [])))) (texts_whole log)

shows_same : (s t : Script) (sites : List SitePlan) (stations : List StationPlan) (cells : List Cell) → Stays s t → Shows s sites stations cells → Shows t sites stations cells
shows_same s t sites stations cells stays shows = record {
  sites_are = stays.1.sites ∙ shows.sites_are;
  periods_are = stays.1.periods ∙ shows.periods_are;
  orders_are = stays.1.orders ∙ shows.orders_are;
  world_is = stays.0 ∙ shows.world_is;
}

pub cuts_are_scripts : CutsAreScripts
cuts_are_scripts read sites stations firsts log front rest mark whole once shows all is marked =
    let found = whole_lines log front rest is in
    let k = found.0 in
    let cut = found.1 in
    let m = marks mark marked in
    let p = parted stations cut.part (drop k log) (All-drop stations k log all) cut.next in
    let said = read ++ text_of (take k log) in
    let said_whole = both_whole read (text_of (take k log)) whole (texts_whole (take k log)) in
    let before = said ++ p.first in
    let ends = both_whole said p.first said_whole (note_whole p.first p.noted) in
    let same : read ++ (front ++ mark) ≡ before ++ (p.rest ++ mark) =
    ap (λ l. read ++ (l ++ mark)) cut.is
    ∙ ap (λ l. read ++ l) (append_assoc (text_of (take k log)) cut.part mark)
    ∙ sym (append_assoc read (text_of (take k log)) (cut.part ++ mark))
    ∙ ap (λ l. said ++ (l ++ mark)) p.is
    ∙ ap (λ l. said ++ l) (append_assoc p.first p.rest mark)
    ∙ sym (append_assoc said p.first (p.rest ++ mark)) in
    let last_line : EndsWhole (p.rest ++ mark) = inr (p.rest ++ 35 ∷ m.back, ap (λ l. p.rest ++ l) m.is ∙ sym (append_assoc p.rest (35 ∷ m.back) (10 ∷ []))) in
    let s = script_after start (lines_of longest_line before) in
    let line = ended longest_line (p.rest ++ 35 ∷ m.back) in
    let after : script_after start (lines_of longest_line (read ++ (front ++ mark))) ≡ (line_step s line).0 =
    ap (λ l. script_after start (lines_of longest_line l)) same
    ∙ ap (script_after start) (lines_apart longest_line before (p.rest ++ mark) ends ∙ ap (λ l. lines_of longest_line before ++ l) (one_line p.rest mark m p.feedless))
    ∙ after_both start (lines_of longest_line before) (line ∷ []) in (
      k,
      cut,
      subst EndsWhole (sym same) (both_whole before (p.rest ++ mark) ends last_line),
      λ cells left.
          subst (λ t. Shows t sites stations cells) (sym after)
          (shows_same s (line_step s line).0 sites stations cells (spoiled s longest_line p.rest m.back m.ends)
          (subst (λ t. Shows t sites stations cells) (sym (noted_after start said p.first said_whole p.noted))
          (journals_are_scripts read sites stations firsts cells (take k log) whole once shows (All-take (IsSpoken stations) k log all) left))),
    )
