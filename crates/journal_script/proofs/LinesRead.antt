-- A script that is read line by line, up to where a loop stops.
use Rattle.std.{proofs.Common.{◌≡◌, ◌≢◌, ℕ, ◌+◌, ◌≤◌, ◌||◌, Bool, true, false, cond, not, leb, List, [], ◌∷◌, ◌++◌, Option, None, Some, All, length, take, inl, inr, refl, sym, ap, subst, ◌∙◌, arith, append_assoc, append-nil, length-append}, specs.Prelude.codes, specs.Io.BufRead.strip_last, specs.Io.KnownBytes.{Consumes, Keeps}, proofs.KnownBytes.{Consumes-kept, Consumes-trans}, proofs.lemmas.Bool.false≢true, proofs.lemmas.Bool.Decides.nat_tests, proofs.lemmas.List.Elements.{All-append, All-cons, All-nil}}
use Rattle.script_lines.{specs.declared.line_reader.LineEnd.TheVariants.Feed, specs.Lines.{Line, ended, lines_of, unended}, specs.Reading.line_of, proofs.Cuts.{all_kept, cut-ended, kept_line_of}}
use Rattle.script_ledgers.specs.Script.{Script, line_step}
use Rattle.journal_script.{specs.declared.left_out.LeftOut.LeftOut, specs.Journals.EndsWhole, specs.Reading.{ReadsLine, ReadsTo, Runs, Standing, read_line, read_lines, standing}, specs.Restoring.{is_lost, is_marked}, proofs.Whole.lines_apart}

-- the line `listen`, as it was read
pub listens : (most : ℕ) (held raw : List ℕ) → held ≡ take (most + 1) raw → ended most held ≡ Some (codes "listen") → strip_last 13 raw ≡ codes "listen"
listens most held raw kept is = at (leb (length held) most) refl is
  where
    at : (b : Bool) → leb (length held) most ≡ b → cond b (Some (strip_last 13 held)) None ≡ Some (codes "listen") → strip_last 13 raw ≡ codes "listen"
    at true e f =
        let same : held ≡ raw = all_kept most held raw kept (grind (arith, nat_tests, e)) in
        let line : strip_last 13 held ≡ codes "listen" = cc f in
        ap (strip_last 13) (sym same) ∙ line
    at false e f = cc f

-- a line that was read and is not `listen`
pub is_other : (most : ℕ) (held : List ℕ) (line : Line) (is : Bool) → is ≡ false → (line ≡ Some (codes "listen") → is ≡ true) → line ≡ ended most held → ended most held ≢ Some (codes "listen")
is_other most held line is false_is found same e = false≢true (sym false_is ∙ found (same ∙ e))

pub no_more : (b : Bool) → not b ≡ false → b ≡ true
no_more true e = refl
no_more false e = sym e

pub one_more : (b : Bool) → not b ≡ true → b ≡ false
one_more true e = sym e
one_more false e = refl

-- a line that was answered and counted
pub told_line : (s t : Script) (seen now : LeftOut) (line other : Line) (reply : List ℕ) → line_step s other ≡ (t, reply)
    → now.is_marked ≡ is_marked line → now.has_lost ≡ (seen.has_lost || is_lost reply line) → line ≡ other → standing t now ≡ read_line (standing s seen) other
told_line s t seen now line other reply is m l same =
    let script : t ≡ (line_step s other).0 = sym (ap (λ p. p.0) is) in
    let marks : now.is_marked ≡ is_marked other = m ∙ ap is_marked same in
    let loses : now.has_lost ≡ (seen.has_lost || is_lost (line_step s other).1 other) =
    l ∙ ap (λ x. seen.has_lost || is_lost reply x) same ∙ ap (λ r. seen.has_lost || is_lost r other) (sym (ap (λ p. p.1) is)) in
    λ i. record { script = script i; marked = marks i; lost = loses i }

pub both_read : (s : Standing) (one other : List Line) → read_lines s (one ++ other) ≡ read_lines (read_lines s one) other
both_read s [] other = refl
both_read s (line ∷ one) other = both_read (read_line s line) one other

-- both parts of a script are whole
pub both_whole : (one other : List ℕ) → EndsWhole one → EndsWhole other → EndsWhole (one ++ other)
both_whole one other whole (inl none) = subst EndsWhole (sym (append-nil one) ∙ ap (λ l. one ++ l) (sym none)) whole
both_whole one other whole (inr (front, is)) = inr (one ++ front, ap (λ l. one ++ l) is ∙ sym (append_assoc one front (10 ∷ [])))

module _ (most : ℕ) (old now : Standing) (read : List ℕ) (runs : Runs most old now read) (room left : ℕ) (more : Bool) (bytes held : List ℕ) (reads : ReadsLine most room left more bytes held) where
  one_line : lines_of most bytes ≡ line_of Feed most held ∷ []
  one_line =
      ap (lines_of most) (reads.is ∙ sym (append-nil (reads.raw ++ 10 ∷ [])))
      ∙ cut-ended (unended most) most reads.raw [] reads.feedless
      ∙ ap (λ l. l ∷ []) (sym (kept_line_of Feed most held reads.raw reads.kept))

  -- the line was answered
  runs_on : (next : Standing) → next ≡ read_line now (line_of Feed most held) → more ≡ true → Runs most old next (read ++ bytes)
  runs_on next step goes = record {
    whole = both_whole read bytes runs.whole (inr (reads.raw, reads.is));
    ran =
        step
        ∙ ap (λ s. read_line s (line_of Feed most held)) runs.ran
        ∙ sym (both_read old (lines_of most read) (line_of Feed most held ∷ []))
        ∙ ap (λ l. read_lines old (lines_of most read ++ l)) (sym one_line)
        ∙ ap (read_lines old) (sym (lines_apart most read bytes runs.whole));
    no_listen =
        subst (All (λ line. line ≢ Some (codes "listen"))) (sym (lines_apart most read bytes runs.whole))
        (All-append (λ line. line ≢ Some (codes "listen")) (lines_of most read) (lines_of most bytes) runs.no_listen
        (subst (All (λ line. line ≢ Some (codes "listen"))) (sym one_line)
        (All-cons (λ line. line ≢ Some (codes "listen")) (line_of Feed most held) [] (reads.other goes) (All-nil (λ line. line ≢ Some (codes "listen"))))));
  }

-- ---- loops

-- a loop over lines goes on by what was read
pub record Goes (most room left : ℕ) (old now : Standing) (r0 r1 : Option (List ℕ)) : Type 0 where
  pub read : List ℕ
  pub runs : Runs most old now read
  pub counted : length read + left ≡ room
  pub consumed : Consumes r0 r1 read

module _ (most room left : ℕ) (old now : Standing) (r0 r1 : Option (List ℕ)) (goes : Goes most room left old now r0 r1) where
  pub goes_same : (r2 : Option (List ℕ)) → Keeps r1 r2 → Goes most room left old now r0 r2
  goes_same r2 keeps = record { read = goes.read; runs = goes.runs; counted = goes.counted; consumed = Consumes-kept r0 r1 r2 goes.read goes.consumed keeps }

  pub goes_to : (t : Standing) → t ≡ now → Goes most room left old t r0 r1
  goes_to t same = subst (λ s. Goes most room left old s r0 r1) (sym same) goes

  module _ (more : Bool) (left' : ℕ) (bytes held : List ℕ) (r2 : Option (List ℕ)) (reads : ReadsLine most left left' more bytes held) (consumes : Consumes r1 r2 bytes) where
    -- the line was answered
    pub goes_on : (next : Standing) → next ≡ read_line now (line_of Feed most held) → more ≡ true → Goes most room left' old next r0 r2
    goes_on next step other = record {
      read = goes.read ++ bytes;
      runs = runs_on most old now goes.read goes.runs left left' more bytes held reads next step other;
      counted = omega (arith, goes.counted, reads.counted, length-append goes.read bytes);
      consumed = Consumes-trans r0 r1 r2 goes.read bytes goes.consumed consumes;
    }

    -- the line is `listen`
    pub goes_until : (t : Standing) → t ≡ now → more ≡ false → ReadsTo most old t r0 r2
    goes_until t same none = record {
      read = goes.read;
      last = bytes;
      runs = record { whole = goes.runs.whole; ran = same ∙ goes.runs.ran; no_listen = goes.runs.no_listen };
      listens = record { raw = reads.raw; feedless = reads.feedless; is = reads.is; last = reads.last none };
      consumed = Consumes-trans r0 r1 r2 goes.read bytes goes.consumed consumes;
    }

-- a line has its line feed
pub one_less : (most room left : ℕ) (more : Bool) (bytes held : List ℕ) → ReadsLine most room left more bytes held → left + 1 ≤ room
one_less most room left more bytes held reads = omega (arith, reads.counted, ap length reads.is, length-append reads.raw (10 ∷ []))
