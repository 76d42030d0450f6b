-- The loops over lines: what was read and answered so far, and how each end of a loop is reported.
use Rattle.std.{proofs.Common.{◌≡◌, ℕ, ◌+◌, ◌-◌, ◌<◌, ◌≤◌, false, List, [], ◌∷◌, ◌++◌, Result, Option, Ok, Err, Some, None, IsSome, cond, leb, length, take, refl, sym, ap, subst, ◌∙◌, arith, append_assoc, append-nil, length-append, length-take, inl, inr}, proofs.Math.Seq.take-append-add, proofs.lemmas.Bool.Decides.nat_tests, specs.Result.IsErrAnd, specs.Prelude.OnSome, specs.Io.KnownBytes.{Keeps, Consumes, Appends, IsAtEnd}, proofs.KnownBytes.{Consumes-kept, Consumes-nil, Consumes-trans, Appends-nil, Appends-trans, Appends-kept}, specs.Io.BufRead.strip_last, proofs.lemmas.Bool.{cases_lt, false≢true}}
use Rattle.script_lines.{specs.declared.fault.ReplayFault.ReplayFault, specs.declared.fault.ReplayFault.TheVariants.{ReadFault, WriteFault, TooMuchInput, OutOfMemory}, specs.declared.line_reader.LineEnd.LineEnd, specs.declared.line_reader.LineEnd.TheVariants.{Feed, Input}, specs.Lines.{Line, HasNoFeed, ended, unended, cut, complete_lines, lines_of, text_by}, specs.Ranges.longest_line, specs.Reading.{TakesLine, line_of, line_read}, proofs.PartOfLine.passed_on, proofs.Pieces.{front_has_none, but_last}, proofs.Cuts.{cut-open, cut-ended, cut-unended, complete-unended, kept_line_of, unended_whole, none_kept, all_kept}}
use Rattle.script_ledgers.{specs.Ranges.longest_script, specs.Script.{Script, line_step, script_text, start}}
use Rattle.script_replay.{specs.Outcome.{IsReplay, Replays, WritesFrontOf, Began, AnsweredBy}, specs.Answering.{Replies, StopsAtLine}}

-- what follows lines that were answered
module _ (T all_read : Type 0) (old now : List Line → List ℕ) (max_line_bytes room left : ℕ) (done front : List ℕ)
    (told : AnsweredBy old now max_line_bytes done front) (within : length done + left ≡ room) where
  -- a front of what follows is a front of all
  front_follows : (read written : List ℕ) → WritesFrontOf all_read now max_line_bytes read written → WritesFrontOf all_read old max_line_bytes (done ++ read) (front ++ written)
  front_follows read written (inl w) = inl (w.0, told (λ _. []) read ∙ ap (λ l. front ++ l) w.1 ∙ sym (append_assoc front written w.0))
  front_follows read written (inr w) = inr (w.0, (w.1.0, told (unended max_line_bytes) read ∙ ap (λ l. front ++ l) w.1.1 ∙ sym (append_assoc front written w.1.0)))

  pub follows_on : (result : Result T ReplayFault) (read written : List ℕ) → Began result read → Replays all_read now max_line_bytes left result read written
      → Began result (done ++ read) × Replays all_read old max_line_bytes room result (done ++ read) (front ++ written)
  follows_on (Ok _) read written began r =
      (tt, (omega (arith, r.0, length-append done read), ap (λ l. front ++ l) r.1 ∙ sym (told (unended max_line_bytes) read)))
  follows_on (Err ReadFault) read written began r =
      (tt, (omega (arith, r.0, length-append done read), ap (λ l. front ++ l) r.1 ∙ sym (told (λ _. []) read)))
  follows_on (Err TooMuchInput) read written began r =
      let cut_at : take room (done ++ read) ≡ done ++ take left read = ap (λ n. take n (done ++ read)) (sym within) ∙ take-append-add done read left in (
        tt,
        (
          omega (arith, r.0, length-append done read),
          ap (λ l. front ++ l) r.1 ∙ sym (told (λ _. []) (take left read)) ∙ ap (λ l. old (complete_lines max_line_bytes l)) (sym cut_at),
        ),
      )
  follows_on (Err WriteFault) read written began r =
      (tt, (omega (arith, r.0, length-append done read), front_follows read written r.1))
  follows_on (Err OutOfMemory) read written began r =
      let before : length (done ++ read) - 1 ≡ length done + (length read - 1) = omega (arith, began, length-append done read) in
      let cut_at : take (length (done ++ read) - 1) (done ++ read) ≡ done ++ take (length read - 1) read =
      ap (λ n. take n (done ++ read)) before ∙ take-append-add done read (length read - 1) in (
        omega (arith, began, length-append done read),
        (
          omega (arith, r.0, length-append done read),
          ap (λ l. front ++ l) r.1 ∙ sym (told (λ _. []) (take (length read - 1) read)) ∙ ap (λ l. old (complete_lines max_line_bytes l)) (sym cut_at),
        ),
      )

-- the ends of a line, at the text of what comes from there on
module _ (now : List Line → List ℕ) (empty : now [] ≡ []) (max_line_bytes : ℕ) where
  -- the reading of a line stopped
  pub stops_in_line : (T all_read : Type 0) (room left : ℕ) (fault : ReplayFault) (bytes held : List ℕ) → TakesLine max_line_bytes room left (Err fault) bytes held
      → Began {T = T} (Err fault) bytes × Replays {T = T} all_read now max_line_bytes room (Err fault) bytes []
  stops_in_line T all_read room left ReadFault bytes held t = (tt, (t.0, sym (ap now (complete-unended max_line_bytes bytes t.1) ∙ empty)))
  stops_in_line T all_read room left WriteFault bytes held t = (tt, (t.0, inl ([], ap now (complete-unended max_line_bytes bytes t.1) ∙ empty)))
  stops_in_line T all_read room left TooMuchInput bytes held t = (tt, (t.0, sym (ap now (complete-unended max_line_bytes (take room bytes) t.1) ∙ empty)))
  stops_in_line T all_read room left OutOfMemory bytes held t = (t.0, (t.1, sym (ap now (complete-unended max_line_bytes (take (length bytes - 1) bytes) t.2) ∙ empty)))

  -- all lines of a single line
  pub line_alone : (end : LineEnd) (raw : List ℕ) → HasNoFeed raw → 0 < length (line_read end raw) → lines_of max_line_bytes (line_read end raw) ≡ line_of end max_line_bytes raw ∷ []
  line_alone Feed raw none some = cut-open (unended max_line_bytes) max_line_bytes [] raw (10 ∷ []) none
  line_alone Input raw none some = cut-unended (unended max_line_bytes) max_line_bytes raw none ∙ unended_whole max_line_bytes raw some

  -- a line less its last byte has no line feed
  pub less_its_last : (end : LineEnd) (raw : List ℕ) → HasNoFeed raw → HasNoFeed (take (length (line_read end raw) - 1) (line_read end raw))
  less_its_last Feed raw none = but_last (raw ++ 10 ∷ []) raw refl none
  less_its_last Input raw none = front_has_none (length raw - 1) raw none

  -- the front of the answer of a line
  front_of_line : (all_read : Type 0) (end : LineEnd) (raw written : List ℕ) → (end ≡ Input → all_read) → HasNoFeed raw → 0 < length (line_read end raw)
      → StopsAtLine now (line_of end max_line_bytes raw) WriteFault written → WritesFrontOf all_read now max_line_bytes (line_read end raw) written
  front_of_line all_read Feed raw written reached none some s =
      inl ((s []).0, ap now (cut-open (λ _. []) max_line_bytes [] raw (10 ∷ []) none) ∙ (s []).1)
  front_of_line all_read Input raw written reached none some s =
      inr (reached refl, ((s []).0, ap now (line_alone Input raw none some) ∙ (s []).1))

  -- the answer of a line stopped
  pub stops_at_answer : (T all_read : Type 0) (room : ℕ) (end : LineEnd) (raw : List ℕ) (fault : ReplayFault) (written : List ℕ) → (end ≡ Input → all_read) → HasNoFeed raw
      → 0 < length (line_read end raw) → length (line_read end raw) ≤ room → StopsAtLine now (line_of end max_line_bytes raw) fault written
      → Began {T = T} (Err fault) (line_read end raw) × Replays {T = T} all_read now max_line_bytes room (Err fault) (line_read end raw) written
  stops_at_answer T all_read room end raw ReadFault written reached none some fits s = absurd s
  stops_at_answer T all_read room end raw TooMuchInput written reached none some fits s = absurd s
  stops_at_answer T all_read room end raw WriteFault written reached none some fits s =
      (tt, (fits, front_of_line all_read end raw written reached none some s))
  stops_at_answer T all_read room end raw OutOfMemory written reached none some fits s =
      (some, (fits, s ∙ sym (ap now (complete-unended max_line_bytes _ (less_its_last end raw none)) ∙ empty)))

  -- the last line was answered
  pub ends_at_answer : (all_read : Type 0) (later : List Line → List ℕ) → later [] ≡ [] → (room : ℕ) (end : LineEnd) (raw written : List ℕ) → HasNoFeed raw
      → 0 < length (line_read end raw) → length (line_read end raw) ≤ room → Replies now later (line_of end max_line_bytes raw) written
      → Replays {T = Unit {0}} all_read now max_line_bytes room (Ok tt) (line_read end raw) written
  ends_at_answer all_read later none_later room end raw written none some fits replies =
      (fits, sym (ap now (line_alone end raw none some) ∙ replies [] ∙ ap (λ l. written ++ l) none_later ∙ append-nil written))

  -- no line was left
  pub ends_at_none : (all_read : Type 0) (room : ℕ) (bytes : List ℕ) → bytes ≡ [] → Replays {T = Unit {0}} all_read now max_line_bytes room (Ok tt) bytes []
  ends_at_none all_read room bytes e = (omega (arith, ap length e), sym (ap (λ l. now (lines_of max_line_bytes l)) e ∙ empty))

-- after the lines of `done`, `left` bytes of `room` may still be read, and `now` is the text of what comes
pub record AnsweredLines (old now : List Line → List ℕ) (max_line_bytes room left : ℕ) (r0 r1 w0 w1 : Option (List ℕ)) : Type 0 where
  pub done : List ℕ
  pub front : List ℕ
  pub read : Consumes r0 r1 done
  pub wrote : Appends w0 w1 front
  pub within : length done + left ≡ room
  pub told : AnsweredBy old now max_line_bytes done front

-- the start of a loop
pub begins : (text : List Line → List ℕ) (max_line_bytes room : ℕ) (r w : Option (List ℕ)) → AnsweredLines text text max_line_bytes room room r r w w
begins text max_line_bytes room r w = record {
  done = [];
  front = [];
  read = Consumes-nil r;
  wrote = Appends-nil w;
  within = omega arith;
  told = λ last more. refl;
}

-- a look at what comes next consumed nothing
pub looked : (old now now' : List Line → List ℕ) (max_line_bytes room left : ℕ) (r0 r1 r1' w0 w1 : Option (List ℕ)) → AnsweredLines old now max_line_bytes room left r0 r1 w0 w1
    → Keeps r1 r1' → now' ≡ now → AnsweredLines old now' max_line_bytes room left r0 r1' w0 w1
looked old now now' max_line_bytes room left r0 r1 r1' w0 w1 answered kept same = record {
  done = answered.done;
  front = answered.front;
  read = Consumes-kept r0 r1 r1' answered.done answered.read kept;
  wrote = answered.wrote;
  within = answered.within;
  told = subst (λ t. AnsweredBy old t max_line_bytes answered.done answered.front) (sym same) answered.told;
}

-- a flush wrote nothing
pub Appends-none : (w0 w1 : Option (List ℕ)) → Keeps w0 w1 → Appends w0 w1 []
Appends-none w0 w1 kept = Appends-kept w0 w0 w1 [] (Appends-nil w0) kept

-- one more line was read and answered
pub answers_line : (now later : List Line → List ℕ) (max_line_bytes : ℕ) (raw written : List ℕ) → HasNoFeed raw → Replies now later (ended max_line_bytes raw) written
    → AnsweredBy now later max_line_bytes (raw ++ 10 ∷ []) written
answers_line now later max_line_bytes raw written none replies last more = ap now (cut-ended last max_line_bytes raw more none) ∙ replies (cut last max_line_bytes [] more)

-- lines answered after lines answered
pub AnsweredBy-trans : (old now later : List Line → List ℕ) (max_line_bytes : ℕ) (done front more_done more_front : List ℕ) → AnsweredBy old now max_line_bytes done front
    → AnsweredBy now later max_line_bytes more_done more_front → AnsweredBy old later max_line_bytes (done ++ more_done) (front ++ more_front)
AnsweredBy-trans old now later max_line_bytes done front more_done more_front told more_told last more =
    ap (λ l. old (cut last max_line_bytes [] l)) (append_assoc done more_done more) ∙ told last (more_done ++ more)
    ∙ ap (λ l. front ++ l) (more_told last more) ∙ sym (append_assoc front more_front _)

module _ (old now : List Line → List ℕ) (max_line_bytes room left : ℕ) (r0 r1 r2 w0 w1 w2 : Option (List ℕ)) (p : AnsweredLines old now max_line_bytes room left r0 r1 w0 w1) where
  -- the loop ends as what it did last ends
  pub closes : (T all_read : Type 0) (result : Result T ReplayFault) (bytes part : List ℕ) → Consumes r1 r2 bytes
      → Appends w1 w2 part → Began result bytes × Replays all_read now max_line_bytes left result bytes part
      → (read written : List ℕ) × Consumes r0 r2 read × Appends w0 w2 written × Began result read × Replays all_read old max_line_bytes room result read written
  closes T all_read result bytes part read wrote r =
      let all = follows_on T all_read old now max_line_bytes room left p.done p.front p.told p.within result bytes part r.0 r.1 in (
        p.done ++ bytes,
        p.front ++ part,
        Consumes-trans r0 r1 r2 p.done bytes p.read read,
        Appends-trans w0 w1 w2 p.front part p.wrote wrote,
        all.0,
        all.1,
      )

-- a reply with only a front written
pub stops_writing : (old new : List Line → List ℕ) (line : Line) (reply shown written : List ℕ) → shown ≡ reply → Replies old new line reply
    → (rest : List ℕ) × (shown ≡ written ++ rest) → StopsAtLine old line WriteFault written
stops_writing old new line reply shown written same replies front = λ more.
    (front.0 ++ new more, replies more ∙ ap (λ l. l ++ new more) (sym same ∙ front.1) ∙ append_assoc written front.0 (new more))

-- what a loop ensures at its end
abbrev pub Tells : (T : Type 0) → (List Line → List ℕ) → ℕ → ℕ → Option (List ℕ) → Option (List ℕ) → Option (List ℕ) → Option (List ℕ) → Result T ReplayFault → Type 0
Tells T old max_line_bytes room r0 r1 w0 w1 result =
    (read written : List ℕ) × Consumes r0 r1 read × Appends w0 w1 written × Began result read × Replays (OnSome r0 (IsAtEnd r1)) old max_line_bytes room result read written

-- what a replay of a whole script ensures
pub as_replay : (r0 r1 w0 w1 : Option (List ℕ)) (result : Result (Unit {0}) ReplayFault)
    → Tells (Unit {0}) (script_text start) longest_line longest_script r0 r1 w0 w1 result → IsReplay r0 r1 w0 w1 result
as_replay r0 r1 w0 w1 result t = (t.0, t.1, t.2, t.3, t.5)

-- a look at what comes next failed, and consumed nothing
pub look_failed : (T : Type 0) (old now now' : List Line → List ℕ) (max_line_bytes room left : ℕ) (r0 r1 r1' w0 w1 : Option (List ℕ)) → AnsweredLines old now max_line_bytes room left r0 r1 w0 w1
    → Keeps r1 r1' → now' ≡ now → now' [] ≡ [] → Tells T old max_line_bytes room r0 r1' w0 w1 (Err ReadFault)
look_failed T old now now' max_line_bytes room left r0 r1 r1' w0 w1 answered kept same empty =
    closes old now' max_line_bytes room left r0 r1' r1' w0 w1 w1
    (looked old now now' max_line_bytes room left r0 r1 r1' w0 w1 answered kept same) T (OnSome r0 (IsAtEnd r1')) (Err ReadFault) []
    [] (Consumes-nil r1') (Appends-nil w1)
    (tt, (omega arith, sym empty))

-- the same of a fault that a `?` passes on
Tells-passed : (T : Type 0) (old : List Line → List ℕ) (max_line_bytes room : ℕ) (r0 r1 w0 w1 : Option (List ℕ)) (fault : ReplayFault) (passed : Result T ReplayFault)
    → IsErrAnd passed (λ x. x ≡ fault) → Tells T old max_line_bytes room r0 r1 w0 w1 (Err fault) → Tells T old max_line_bytes room r0 r1 w0 w1 passed
Tells-passed T old max_line_bytes room r0 r1 w0 w1 fault passed is told = subst (Tells T old max_line_bytes room r0 r1 w0 w1) (passed_on passed fault is) told

-- the bytes of a line that was read
pub taken_line : (max_line_bytes left left' : ℕ) (end : LineEnd) (bytes held : List ℕ) → TakesLine max_line_bytes left left' (Ok end) bytes held
    → (raw : List ℕ) × HasNoFeed raw × (bytes ≡ line_read end raw) × (held ≡ take (max_line_bytes + 1) raw) × (length bytes + left' ≡ left)
taken_line max_line_bytes left left' Feed bytes held t = (t.1.0, t.1.1, t.1.2, t.1.3, t.0)
taken_line max_line_bytes left left' Input bytes held t = (bytes, t.1, refl, t.2, t.0)

-- a line that is kept has bytes where what is kept has
pub some_read : (end : LineEnd) (max_line_bytes : ℕ) (held raw : List ℕ) → held ≡ take (max_line_bytes + 1) raw → 0 < length (line_read end held) → 0 < length (line_read end raw)
some_read Feed max_line_bytes held raw e some = omega (arith, length-append raw (10 ∷ []))
some_read Input max_line_bytes held raw e some = omega (arith, ap length e, length-take (max_line_bytes + 1) raw)

-- what a loop knows after it asked for the next line: the lines before are answered, and these bytes of the line
-- were read; `held` is kept of them
pub record NextLine (old now : List Line → List ℕ) (max_line_bytes room left' : ℕ) (r0 r2 w0 w2 : Option (List ℕ)) (result : Result LineEnd ReplayFault) (held : List ℕ) : Type 0 where
  pub left : ℕ
  pub r1 : Option (List ℕ)
  pub w1 : Option (List ℕ)
  pub answered : AnsweredLines old now max_line_bytes room left r0 r1 w0 w1
  pub empty : now [] ≡ []
  pub bytes : List ℕ
  pub read : Consumes r1 r2 bytes
  pub kept : Keeps w1 w2
  pub told : TakesLine max_line_bytes left left' result bytes held

abbrev pub asked : (old now : List Line → List ℕ) (max_line_bytes max_line_bytes' room left left' : ℕ) (r0 r1 r2 w0 w1 w2 : Option (List ℕ)) (result : Result LineEnd ReplayFault) (held : List ℕ)
    → AnsweredLines old now max_line_bytes room left r0 r1 w0 w1 → max_line_bytes' ≡ max_line_bytes → now [] ≡ []
    → (bytes : List ℕ) × Consumes r1 r2 bytes × TakesLine max_line_bytes' left left' result bytes held → Keeps w1 w2
    → NextLine old now max_line_bytes room left' r0 r2 w0 w2 result held
asked old now max_line_bytes max_line_bytes' room left left' r0 r1 r2 w0 w1 w2 result held answered same empty taken kept = record {
  left = left;
  r1 = r1;
  w1 = w1;
  answered = answered;
  empty = empty;
  bytes = taken.0;
  read = taken.1;
  kept = kept;
  told = subst (λ m. TakesLine m left left' result taken.0 held) same taken.2;
}

module _ (old now : List Line → List ℕ) (max_line_bytes room left' : ℕ) (r0 r2 w0 w2 : Option (List ℕ)) (result : Result LineEnd ReplayFault) (held : List ℕ)
    (n : NextLine old now max_line_bytes room left' r0 r2 w0 w2 result held) where
  taken : (r : Result LineEnd ReplayFault) → result ≡ r → TakesLine max_line_bytes n.left left' r n.bytes held
  taken r is = subst (λ x. TakesLine max_line_bytes n.left left' x n.bytes held) is n.told

  -- no line was read
  pub line_fault : (T : Type 0) (fault : ReplayFault) → result ≡ Err fault → Tells T old max_line_bytes room r0 r2 w0 w2 (Err fault)
  line_fault T fault is =
      closes old now max_line_bytes room n.left r0 n.r1 r2 w0 n.w1 w2 n.answered T (OnSome r0 (IsAtEnd r2)) (Err fault) n.bytes [] n.read (Appends-none n.w1 w2 n.kept)
      (stops_in_line now n.empty max_line_bytes T (OnSome r0 (IsAtEnd r2)) n.left left' fault n.bytes held (taken (Err fault) is))

  pub line_stopped : (T : Type 0) (fault : ReplayFault) (passed : Result T ReplayFault) → result ≡ Err fault → IsErrAnd passed (λ x. x ≡ fault)
      → Tells T old max_line_bytes room r0 r2 w0 w2 passed
  line_stopped T fault passed is goes =
      Tells-passed T old max_line_bytes room r0 r2 w0 w2 fault passed goes (line_fault T fault is)

  -- the input ended before a line
  pub line_absent : result ≡ Ok Input → length held ≡ 0 → Tells (Unit {0}) old max_line_bytes room r0 r2 w0 w2 (Ok tt)
  line_absent is none =
      let t = taken_line max_line_bytes n.left left' Input n.bytes held (taken (Ok Input) is) in
      let nothing : n.bytes ≡ [] = t.2 ∙ none_kept max_line_bytes held t.0 t.3 none in
      closes old now max_line_bytes room n.left r0 n.r1 r2 w0 n.w1 w2 n.answered (Unit {0}) (OnSome r0 (IsAtEnd r2)) (Ok tt) n.bytes [] n.read (Appends-none n.w1 w2 n.kept)
      (tt, ends_at_none now n.empty max_line_bytes (OnSome r0 (IsAtEnd r2)) n.left n.bytes nothing)

  -- a line that a line feed ended had a byte
  pub less_room : result ≡ Ok Feed → left' < n.left
  less_room is =
      let t = taken_line max_line_bytes n.left left' Feed n.bytes held (taken (Ok Feed) is) in
      omega (arith, t.4, ap length t.2, length-append t.0 (10 ∷ []))

  -- a line was read
  module _ (end : LineEnd) (is : result ≡ Ok end) (some : 0 < length (line_read end held)) (max_line_bytes'' : ℕ) (line : Line)
      (same'' : max_line_bytes'' ≡ max_line_bytes) (line_is : line ≡ line_of end max_line_bytes'' held)
      (w3 : Option (List ℕ)) (part : List ℕ) (wrote : Appends w2 w3 part) where
    raw_of : (raw : List ℕ) × HasNoFeed raw × (n.bytes ≡ line_read end raw) × (held ≡ take (max_line_bytes + 1) raw) × (length n.bytes + left' ≡ n.left)
    raw_of = taken_line max_line_bytes n.left left' end n.bytes held (taken (Ok end) is)

    line_whole : line ≡ line_of end max_line_bytes raw_of.0
    line_whole = line_is ∙ ap (λ m. line_of end m held) same'' ∙ kept_line_of end max_line_bytes held raw_of.0 raw_of.3

    some_raw : 0 < length (line_read end raw_of.0)
    some_raw = some_read end max_line_bytes held raw_of.0 raw_of.3 some

    fits : length (line_read end raw_of.0) ≤ n.left
    fits = omega (arith, ap length raw_of.2, raw_of.4)

    wrote_on : Appends n.w1 w3 part
    wrote_on = Appends-trans n.w1 w2 w3 [] part (Appends-none n.w1 w2 n.kept) wrote

    read_on : Consumes n.r1 r2 (line_read end raw_of.0)
    read_on = subst (Consumes n.r1 r2) raw_of.2 n.read

    -- its answer was not written whole
    pub answer_fault : (T : Type 0) (fault : ReplayFault) → (end ≡ Input → OnSome r0 (IsAtEnd r2)) → StopsAtLine now line fault part → Tells T old max_line_bytes room r0 r2 w0 w3 (Err fault)
    answer_fault T fault reached stops =
        closes old now max_line_bytes room n.left r0 n.r1 r2 w0 n.w1 w3 n.answered T (OnSome r0 (IsAtEnd r2)) (Err fault) (line_read end raw_of.0) part read_on wrote_on
        (stops_at_answer now n.empty max_line_bytes T (OnSome r0 (IsAtEnd r2)) n.left end raw_of.0 fault part reached raw_of.1 some_raw
        fits (subst (λ l. StopsAtLine now l fault part) line_whole stops))

    pub answer_stopped : (T : Type 0) (fault : ReplayFault) (passed : Result T ReplayFault) → (end ≡ Input → OnSome r0 (IsAtEnd r2))
        → IsErrAnd passed (λ x. x ≡ fault) → StopsAtLine now line fault part
        → Tells T old max_line_bytes room r0 r2 w0 w3 passed
    answer_stopped T fault passed reached goes stops =
        Tells-passed T old max_line_bytes room r0 r2 w0 w3 fault passed goes (answer_fault T fault reached stops)

    -- it was the last one, and was answered
    pub answer_ended : (later : List Line → List ℕ) → later [] ≡ [] → Replies now later line part → Tells (Unit {0}) old max_line_bytes room r0 r2 w0 w3 (Ok tt)
    answer_ended later none_later replies =
        closes old now max_line_bytes room n.left r0 n.r1 r2 w0 n.w1 w3 n.answered (Unit {0}) (OnSome r0 (IsAtEnd r2)) (Ok tt) (line_read end raw_of.0) part read_on wrote_on (
          tt,
          ends_at_answer now n.empty max_line_bytes (OnSome r0 (IsAtEnd r2)) later none_later n.left end raw_of.0 part raw_of.1
              some_raw fits (subst (λ l. Replies now later l part) line_whole replies),
        )

  -- a line was read and answered
  module _ (is : result ≡ Ok Feed) (max_line_bytes'' : ℕ) (line : Line) (same'' : max_line_bytes'' ≡ max_line_bytes) (line_is : line ≡ line_of Feed max_line_bytes'' held)
      (w3 : Option (List ℕ)) (part : List ℕ) (wrote : Appends w2 w3 part) (later : List Line → List ℕ) (replies : Replies now later line part) where
    pub answer_goes_on : AnsweredLines old later max_line_bytes room left' r0 r2 w0 w3
    answer_goes_on =
        let t = taken_line max_line_bytes n.left left' Feed n.bytes held (taken (Ok Feed) is) in
        let line_of_raw : line ≡ line_of Feed max_line_bytes t.0 = line_is ∙ ap (λ m. line_of Feed m held) same'' ∙ kept_line_of Feed max_line_bytes held t.0 t.3 in
        record {
          done = n.answered.done ++ n.bytes;
          front = n.answered.front ++ part;
          read = Consumes-trans r0 n.r1 r2 n.answered.done n.bytes n.answered.read n.read;
          wrote = Appends-trans w0 n.w1 w3 n.answered.front part n.answered.wrote (Appends-trans n.w1 w2 w3 [] part (Appends-none n.w1 w2 n.kept) wrote);
          within = omega (arith, n.answered.within, t.4, length-append n.answered.done n.bytes);
          told = AnsweredBy-trans old now later max_line_bytes n.answered.done n.answered.front n.bytes part n.answered.told
              (subst (λ l. AnsweredBy now later max_line_bytes l part) (sym t.2)
              (answers_line now later max_line_bytes t.0 part t.1 (subst (λ l. Replies now later l part) line_of_raw replies)));
        }

-- a line that a line feed ends was read with it
pub some_feed : (held : List ℕ) → 0 < length (line_read Feed held)
some_feed held = omega (arith, length-append held (10 ∷ []))

-- a line that a line feed ended is not one that the input ended
pub no_input : (E : Type 0) → Feed ≡ Input → E
no_input E is = absurd (cc is)

-- bytes that are known before some are consumed are known after
pub known_after : (r0 r1 r2 : Option (List ℕ)) (read : List ℕ) → Consumes r0 r1 read → OnSome r1 (IsAtEnd r2) → OnSome r0 (IsAtEnd r2)
known_after None r1 r2 read consumed reached = tt
known_after (Some xs) None r2 read consumed reached = absurd consumed
known_after (Some xs) (Some ys) r2 read consumed reached = reached

-- the input ended, and what was known of it at the start of a loop is all read
pub reached_now : (old now : List Line → List ℕ) (max_line_bytes room left' : ℕ) (r0 r2 w0 w2 : Option (List ℕ)) (result : Result LineEnd ReplayFault) (held : List ℕ)
    (n : NextLine old now max_line_bytes room left' r0 r2 w0 w2 result held) → OnSome n.r1 (IsAtEnd r2) → OnSome r0 (IsAtEnd r2)
reached_now old now max_line_bytes room left' r0 r2 w0 w2 result held n reached = known_after r0 n.r1 r2 n.answered.done n.answered.read reached

-- the text of a script that begins with a line
pub line_replies : (s t : Script) (line : Line) (reply : List ℕ) → line_step s line ≡ (t, reply) → Replies (script_text s) (script_text t) line reply
line_replies s t line reply step more = ap (λ p. p.1 ++ text_by line_step p.0 more) step
