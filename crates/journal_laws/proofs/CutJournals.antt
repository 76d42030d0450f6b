-- A journal that was cut at any byte and marked loses no line, and has no line `listen`.
use Rattle.std.{proofs.Common.{◌≡◌, ◌≢◌, ℕ, zero, suc, ◌+◌, ◌-◌, ◌<◌, ◌≤◌, Bool, true, false, cond, not, eqb, leb, List, [], ◌∷◌, ◌++◌, None, Some, All, length, take, drop, inl, inr, refl, sym, ap, subst, ◌∙◌, arith, append_assoc, append-nil, length-append}, specs.Prelude.{◌&&◌, ◌||◌, ◌==◌, codes}, specs.Io.BufRead.{ends_with_byte, strip_last}, specs.List.ends_with, proofs.lemmas.Bool.cases_lt, proofs.lemmas.Bool.Decides.nat_tests, proofs.lemmas.List.{drop_at, take-append-le}, proofs.lemmas.List.Elements.{All-head, All-nil, All-tail, All-take}, proofs.Math.Seq.take-append_seam}
use Rattle.kept_desk.{specs.declared.entry.Entry.Entry, specs.Entries.{IsNote, entry_text, line_text, text_of}, specs.Speaking.{Says, Speaks}}
use Rattle.ledger_model.{specs.declared.answer.Answer.TheVariants.Accepted, specs.declared.command.Command.Command, specs.Step.answer}
use Rattle.script_lines.{specs.LineMeaning.{LineMeaning, nothing, fails, sets_limits, declares, sets_period, sets_order, sets_settle, tells, sends, delivers, commands, asks_energy, asks_export, asks_total, asks_board, lists, asks_meaning, marks, line_meaning}, specs.Lines.{HasNoFeed, Line, ended, lines_of, unended}, specs.Ranges.longest_line, specs.Texts.{answer_text, delivered_line, ended_line}, proofs.Cuts.cut-ended}
use Rattle.script_ledgers.{specs.Drafts.planned_world, specs.Running.filled, specs.Script.{Script, by_meaning, commanded_to, delivered_to, line_step, script_after, sent_to, start, station_named, step_by, told_by}}
use Rattle.site_desk.specs.declared.plan.StationPlan.{StationPlan}
use Rattle.transaction_event.specs.Reply.{event_reply_bytes}
use Rattle.journal_script.{specs.Cuts.{BeginsNext, IsMark, restore_mark, run_begins}, specs.Journals.{EndsWhole, IsSpoken, station_name}, specs.Restoring.{is_cut, is_lost, is_marked, leaves_nothing, loses, marked_by, run_line}, proofs.Cuts.{All-drop, Marks, front_of, one_line, open_part, marks as marks_are, whole_lines}, proofs.LastByte.{ends_so, keeps_last, last, last_behind}, proofs.LinesRead.both_whole, proofs.Notes.{comment_feedless, comment_says, note_after, note_whole}, proofs.Steps.{cut_entry, takes_line}, proofs.Whole.lines_apart}
use Rattle.journal_laws.{specs.Restores.{CutJournalsRestore, HasRoom}, proofs.KeptLines.{Kept, kept_both, kept_none, kept_one, listen_fails, not_lost}, proofs.Accepted.{AreTakenBy, IsTakenBy, taken_by_world, taken_front}, proofs.LineLengths.short_line}

-- ---- comments

kept_note : (s : Script) (note : List ℕ) → IsNote note → Kept s (lines_of longest_line note)
kept_note s note (inl none) = subst (λ n. Kept s (lines_of longest_line n)) (sym none) (kept_none s)
kept_note s note (inr c) =
    let line = ended longest_line (35 ∷ c.said) in
    let says : line_meaning line ≡ nothing = comment_says c.said c.short in
    let lines : lines_of longest_line note ≡ line ∷ [] =
    ap (lines_of longest_line) (c.is ∙ sym (append-nil (line_text (35 ∷ c.said)))) ∙ cut-ended (unended longest_line) longest_line (35 ∷ c.said) [] (comment_feedless c.said c.feedless) in
    let silent : leaves_nothing (line_step s line).1 ≡ false = ap (λ m. leaves_nothing (step_by s m).1) says in
    let other : line ≢ Some (codes "listen") = λ e. let bad = sym says ∙ ap line_meaning e ∙ listen_fails in cc bad in
    subst (Kept s) (sym lines) (kept_one s line (not_lost (line_step s line).1 line silent) other)

-- ---- lines of entries

accepted_reply : (id : List ℕ) (token : Bool) (n : ℕ) → leaves_nothing (ended_line (event_reply_bytes id token (Accepted n))) ≡ false
accepted_reply id token n = refl

accepted_told : (id : List ℕ) (token : Bool) (n : ℕ) → leaves_nothing (delivered_line (Accepted n) (event_reply_bytes id token (Accepted n))) ≡ false
accepted_told id token n = refl

accepted_command : (n : ℕ) → leaves_nothing (ended_line (answer_text (Accepted n))) ≡ false
accepted_command n = refl

-- The reply to a line whose command is taken is no fault, refusal or CALLERROR.
kept_reply : (s : Script) (m : LineMeaning) (name : List ℕ) (command : Command) → IsTakenBy s.world name command → Says m name command → leaves_nothing (step_by s m).1 ≡ false
kept_reply s nothing name command t says = absurd says
kept_reply s (fails _) name command t says = absurd says
kept_reply s (sets_limits _ _ _ _) name command t says = absurd says
kept_reply s (declares _ _) name command t says = absurd says
kept_reply s (sets_period _ _) name command t says = absurd says
kept_reply s (sets_order _ _) name command t says = absurd says
kept_reply s (sets_settle _ _) name command t says = absurd says
kept_reply s (tells _) name command t says = absurd says
kept_reply s (sends at text) name command t says =
    let asks = says.1 in
    ap (λ o. leaves_nothing (sent_to o s text).1) (ap (λ n. station_named n s.world) says.0 ∙ t.found)
    ∙ ap (λ m. leaves_nothing (by_meaning m t.station s).1) (asks.means s.moment)
    ∙ ap (λ a. leaves_nothing (ended_line (event_reply_bytes asks.id asks.request.token a))) (ap (answer t.station.limits t.station.content) (sym asks.delivers) ∙ t.answered)
    ∙ accepted_reply asks.id asks.request.token t.n
kept_reply s (delivers at text) name command t says =
    let asks = says.1 in
    ap (λ o. leaves_nothing (delivered_to o s text).1) (ap (λ n. station_named n s.world) says.0 ∙ t.found)
    ∙ ap (λ m. leaves_nothing (told_by m t.station s).1) (asks.means s.moment)
    ∙ ap (λ a. leaves_nothing (delivered_line a (event_reply_bytes asks.id asks.request.token a))) (ap (answer t.station.limits t.station.content) (sym asks.delivers) ∙ t.answered)
    ∙ accepted_told asks.id asks.request.token t.n
kept_reply s (commands at asked) name command t says =
    ap (λ o. leaves_nothing (commanded_to o s asked).1) (ap (λ n. station_named n s.world) says.0 ∙ t.found)
    ∙ ap (λ a. leaves_nothing (ended_line (answer_text a))) (ap (answer t.station.limits t.station.content) says.1 ∙ t.answered)
    ∙ accepted_command t.n
kept_reply s (asks_energy _) name command t says = absurd says
kept_reply s (asks_export _) name command t says = absurd says
kept_reply s (asks_total _) name command t says = absurd says
kept_reply s (asks_board _) name command t says = absurd says
kept_reply s (lists _ _ _) name command t says = absurd says
kept_reply s (asks_meaning _) name command t says = absurd says
kept_reply s (marks _) name command t says = absurd says

kept_line : (s : Script) (name line : List ℕ) (command : Command) → Speaks name line command → IsTakenBy s.world name command → Kept s (Some line ∷ [])
kept_line s name line command speaks t =
    kept_one s (Some line) (not_lost (line_step s (Some line)).1 (Some line) (kept_reply s (line_meaning (Some line)) name command t speaks.says))
    (λ e. absurd (subst (λ m. Says m name command) (ap line_meaning e ∙ listen_fails) speaks.says))

kept_log : (stations : List StationPlan) (s : Script) (log : List Entry) → All (IsSpoken stations) log → AreTakenBy stations s.world log → Kept s (lines_of longest_line (text_of log))
kept_log stations s [] all taken = kept_none s
kept_log stations s (e ∷ log) all taken =
    let spoken = All-head (IsSpoken stations) e log all in
    let name = station_name stations e.station in
    let note = lines_of longest_line e.note in
    let later = lines_of longest_line (text_of log) in
    let lines : lines_of longest_line (text_of (e ∷ log)) ≡ note ++ ((Some e.line ∷ []) ++ later) =
    ap (lines_of longest_line) (append_assoc e.note (line_text e.line) (text_of log))
    ∙ lines_apart longest_line e.note (line_text e.line ++ text_of log) (note_whole e.note spoken.noted)
    ∙ ap (λ l. note ++ l) (cut-ended (unended longest_line) longest_line e.line (text_of log) spoken.speaks.feedless)
    ∙ ap (λ l. note ++ (l ∷ later)) (cut_entry name e.line e.command spoken.speaks) in
    let step = takes_line s name e.line e.command spoken.speaks (taken.0.station, taken.0.found) in
    let next : AreTakenBy stations (line_step s (Some e.line)).0.world log = subst (λ w. AreTakenBy stations w log) (sym step.0) taken.1 in
    let own = kept_both s (Some e.line ∷ []) later (kept_line s name e.line e.command spoken.speaks taken.0)
    (kept_log stations (line_step s (Some e.line)).0 log (All-tail (IsSpoken stations) e log all) next) in
    subst (Kept s) (sym lines)
    (kept_both s note ((Some e.line ∷ []) ++ later) (kept_note s e.note spoken.noted) (subst (λ t. Kept t ((Some e.line ∷ []) ++ later)) (sym (note_after s e.note spoken.noted)) own))

-- ---- the part of a line

-- The part of an entry's text is what is in front of its line, or none of that, and a part without a line feed, which
-- leaves room for a mark.
record Part (part : List ℕ) : Type 0 where
  first : List ℕ
  rest : List ℕ
  noted : IsNote first
  feedless : HasNoFeed rest
  short : length rest + length run_begins ≤ longest_line
  is : part ≡ first ++ rest

part_of : (stations : List StationPlan) (part : List ℕ) (log : List Entry) → All (IsSpoken stations) log → All HasRoom log → BeginsNext part log → Part part
part_of stations part [] all room next = record { first = []; rest = []; noted = inl refl; feedless = All-nil (λ b. b ≢ 10); short = omega arith; is = next }
part_of stations part (e ∷ log) all room next =
    let spoken = All-head (IsSpoken stations) e log all in
    let has = All-head HasRoom e log room in
    elim (cases_lt (length part) (length e.note)) [
      | inl less ↦ in_note spoken.noted has less
      | inr past ↦
          let there = front_of e.note (line_text e.line) part next.0 next.1 past in
          let within : length there.0 ≤ length e.line = omega (arith, next.2, ap length there.2, length-append there.0 next.0, length-append e.line (10 ∷ [])) in
          record {
            first = e.note;
            rest = there.0;
            noted = spoken.noted;
            feedless = open_part e.line there.0 next.0 spoken.speaks.feedless there.2 within;
            short = let line = short_line (station_name stations e.station) e.line e.command spoken.speaks in omega (arith, line, within);
            is = there.1;
          }
    ]
  where
    in_note : IsNote e.note → length e.note + length run_begins ≤ longest_line → length part < length e.note → Part part
    in_note (inl none) fits less = absurd (omega (arith, less, ap length none))
    in_note (inr c) fits less =
        let there = front_of part next.0 e.note (line_text e.line) (sym next.1) (omega (arith, less)) in
        record {
          first = [];
          rest = part;
          noted = inl refl;
          feedless = open_part (35 ∷ c.said) part there.0 (comment_feedless c.said c.feedless) (sym c.is ∙ there.1) (omega (arith, less, ap length c.is, length-append (35 ∷ c.said) (10 ∷ [])));
          short = omega (arith, fits, less);
          is = refl;
        }

-- ---- the last line

ends_in_byte : (c : ℕ) (raw : List ℕ) → (c == 13) ≡ false → last 32 raw ≡ c → strip_last 13 raw ≡ raw
ends_in_byte c [] other e = refl
ends_in_byte c (x ∷ xs) other e = keeps_last x xs (ap (λ b. b == 13) e ∙ other)

hash_ends : (raw : List ℕ) → last 32 raw ≡ 35 → ends_with_byte 35 raw ≡ true
hash_ends [] e = absurd (omega (arith, e))
hash_ends (x ∷ xs) e = ends_so 35 x xs ∙ ap (λ b. b == 35) e

run_ends : (rest : List ℕ) → ends_with eqb (rest ++ run_line) run_line ≡ true
run_ends rest =
    let at : length (rest ++ run_line) - length run_line ≡ length rest = omega (arith, length-append rest run_line) in
    let back : drop (length (rest ++ run_line) - length run_line) (rest ++ run_line) ≡ run_line = ap (λ k. drop k (rest ++ run_line)) at ∙ drop_at rest run_line (length rest) refl in
    rw back refl

or_second : (a b : Bool) → b ≡ true → (a || b) ≡ true
or_second true b e = refl
or_second false b e = e

or_first : (a b : Bool) → a ≡ true → (a || b) ≡ true
or_first a b e = ap (λ x. x || b) e

cut_is_kept : (reply : List ℕ) (line : Line) → is_cut line ≡ true → is_lost reply line ≡ false
cut_is_kept reply line e = ap (λ b. leaves_nothing reply && not b) e ∙ and_none (leaves_nothing reply)
  where
    and_none : (b : Bool) → (b && false) ≡ false
    and_none true = refl
    and_none false = refl

-- The part of a line, with a mark behind it, is this line.
record IsCutLine (line : Line) (mark : List ℕ) : Type 0 where
  cut : is_cut line ≡ true
  marked : mark ≡ restore_mark → is_marked line ≡ true
  other : line ≢ Some (codes "listen")

whole_line : (raw : List ℕ) (c : ℕ) → length raw ≤ longest_line → (c == 13) ≡ false → last 32 raw ≡ c → ended longest_line raw ≡ Some raw
whole_line raw c short other e =
    let fits : leb (length raw) longest_line ≡ true = grind (arith, nat_tests, short) in
    ap (λ b. cond b (Some (strip_last 13 raw)) None) fits ∙ ap Some (ends_in_byte c raw other e)

not_listen : (raw : List ℕ) (c : ℕ) → c ≢ 110 → last 32 raw ≡ c → Some raw ≢ Some (codes "listen")
not_listen raw c other e same =
    let text : raw ≡ codes "listen" = cc same in
    other (sym e ∙ ap (last 32) text)

cut_line : (rest mark : List ℕ) (m : Marks mark) → IsMark mark → length rest + length run_begins ≤ longest_line → IsCutLine (ended longest_line (rest ++ 35 ∷ m.back)) mark
cut_line rest mark m (inl is) short =
    let none : m.back ≡ [] = hash_alone m.back (sym m.is ∙ is) in
    let raw = rest ++ 35 ∷ [] in
    let end : last 32 raw ≡ 35 = last_behind 32 rest 35 [] in
    let line : ended longest_line (rest ++ 35 ∷ m.back) ≡ Some raw =
    ap (λ b. ended longest_line (rest ++ 35 ∷ b)) none ∙ whole_line raw 35 (omega (arith, short, length-append rest (35 ∷ []))) refl end in
    subst (λ l. IsCutLine l mark) (sym line) (record {
      cut = or_first (ends_with_byte 35 raw) (ends_with eqb raw run_line) (hash_ends raw end);
      marked = λ _. hash_ends raw end;
      other = not_listen raw 35 (λ e. omega (arith, e)) end;
    })
  where
    hash_alone : (back : List ℕ) → 35 ∷ (back ++ 10 ∷ []) ≡ restore_mark → back ≡ []
    hash_alone [] e = refl
    hash_alone (x ∷ back) e = absurd (omega (arith, ap length e, length-append back (10 ∷ [])))
cut_line rest mark m (inr is) short =
    let all : m.back ++ 10 ∷ [] ≡ drop 1 run_line ++ 10 ∷ [] = ap (drop 1) (sym m.is ∙ is) in
    let back : m.back ≡ drop 1 run_line = before_feed m.back (drop 1 run_line) all in
    let raw = rest ++ run_line in
    let end : last 32 raw ≡ 115 = last_behind 32 rest 35 (drop 1 run_line) in
    let line : ended longest_line (rest ++ 35 ∷ m.back) ≡ Some raw =
    ap (λ b. ended longest_line (rest ++ 35 ∷ b)) back ∙ whole_line raw 115 (omega (arith, short, length-append rest run_line)) refl end in
    subst (λ l. IsCutLine l mark) (sym line) (record {
      cut = or_second (ends_with_byte 35 raw) (ends_with eqb raw run_line) (run_ends rest);
      marked = λ restores. absurd (let long = ap length (sym restores ∙ is) in omega (arith, long));
      other = not_listen raw 115 (λ e. omega (arith, e)) end;
    })
  where
    before_feed : (a b : List ℕ) → a ++ 10 ∷ [] ≡ b ++ 10 ∷ [] → a ≡ b
    before_feed a b e =
        let long : length a ≡ length b = omega (arith, ap length e, length-append a (10 ∷ []), length-append b (10 ∷ [])) in
        sym (take-append-le (length a) a (10 ∷ []) (omega arith) ∙ take_whole a) ∙ ap (take (length a)) e ∙ ap (λ n. take n (b ++ 10 ∷ [])) long ∙ take-append_seam b (10 ∷ [])
      where
        take_whole : (xs : List ℕ) → take (length xs) xs ≡ xs
        take_whole [] = refl
        take_whole (x ∷ xs) = ap (λ l. x ∷ l) (take_whole xs)

marked_last : (b : Bool) (lines : List Line) (line : Line) → marked_by b (lines ++ line ∷ []) ≡ is_marked line
marked_last b [] line = refl
marked_last b (l ∷ lines) line = marked_last (is_marked l) lines line

-- ---- the law

texts_whole : (log : List Entry) → EndsWhole (text_of log)
texts_whole [] = inl refl
texts_whole (e ∷ log) = both_whole (entry_text e) (text_of log) (inr (e.note ++ e.line, sym (append_assoc e.note e.line (10 ∷ [])))) (texts_whole log)

room_behind : (k : ℕ) (log : List Entry) → All HasRoom log → All HasRoom (drop k log)
room_behind zero log all = all
room_behind (suc k) [] all = all
room_behind (suc k) (e ∷ log) all = room_behind k log (All-tail HasRoom e log all)

pub cut_journals_restore : CutJournalsRestore
cut_journals_restore read sites stations firsts log front rest mark kept once shows all room taken is marked =
    let k = (whole_lines log front rest is).0 in
    let cut = (whole_lines log front rest is).1 in
    let p = part_of stations cut.part (drop k log) (All-drop stations k log all) (room_behind k log room) cut.next in
    let m = marks_are mark marked in
    let own = text_of (take k log) in
    let said = read ++ own in
    let before = said ++ p.first in
    let said_whole = both_whole read own kept.whole (texts_whole (take k log)) in
    let ends = both_whole said p.first said_whole (note_whole p.first p.noted) in
    let same : read ++ (front ++ mark) ≡ before ++ (p.rest ++ mark) =
    ap (λ l. read ++ (l ++ mark)) (cut.is ∙ ap (λ l. own ++ l) p.is)
    ∙ ap (λ l. read ++ l) (append_assoc own (p.first ++ p.rest) mark ∙ ap (λ l. own ++ l) (append_assoc p.first p.rest mark))
    ∙ sym (append_assoc read own (p.first ++ (p.rest ++ mark)))
    ∙ sym (append_assoc said p.first (p.rest ++ mark)) in
    let last_whole : EndsWhole (p.rest ++ mark) = inr (p.rest ++ 35 ∷ m.back, ap (λ l. p.rest ++ l) m.is ∙ sym (append_assoc p.rest (35 ∷ m.back) (10 ∷ []))) in
    let line = ended longest_line (p.rest ++ 35 ∷ m.back) in
    let s0 = script_after start (lines_of longest_line read) in
    let world : AreTakenBy stations s0.world (take k log) =
    subst (λ w. AreTakenBy stations w (take k log)) (sym shows.world_is) (taken_front stations (filled (planned_world sites stations) firsts) log k (taken_by_world sites stations firsts log once.stations_once all taken)) in
    let read_lines = lines_of longest_line read in
    let own_lines = lines_of longest_line own in
    let note_lines = lines_of longest_line p.first in
    let first : Kept start read_lines = record { loses_none = kept.loses_none; no_listen = kept.no_listen } in
    let logged : Kept start (lines_of longest_line said) =
    subst (Kept start) (sym (lines_apart longest_line read own kept.whole)) (kept_both start read_lines own_lines first (kept_log stations s0 (take k log) (All-take (IsSpoken stations) k log all) world)) in
    let noted : Kept start (lines_of longest_line before) =
    subst (Kept start) (sym (lines_apart longest_line said p.first said_whole))
    (kept_both start (lines_of longest_line said) note_lines logged (kept_note (script_after start (lines_of longest_line said)) p.first p.noted)) in
    let c = cut_line p.rest mark m marked p.short in
    let s = script_after start (lines_of longest_line before) in
    let lines : lines_of longest_line (read ++ (front ++ mark)) ≡ lines_of longest_line before ++ line ∷ [] =
    ap (lines_of longest_line) same ∙ lines_apart longest_line before (p.rest ++ mark) ends ∙ ap (λ l. lines_of longest_line before ++ l) (one_line p.rest mark m p.feedless) in
    let whole_text : Kept start (lines_of longest_line before ++ line ∷ []) = kept_both start (lines_of longest_line before) (line ∷ []) noted (kept_one s line (cut_is_kept (line_step s line).1 line c.cut) c.other) in
    let there = subst (Kept start) (sym lines) whole_text in (
      record { whole = subst EndsWhole (sym same) (both_whole before (p.rest ++ mark) ends last_whole); loses_none = there.loses_none; no_listen = there.no_listen },
      λ restores. ap (marked_by false) lines ∙ marked_last false (lines_of longest_line before) line ∙ c.marked restores,
    )
