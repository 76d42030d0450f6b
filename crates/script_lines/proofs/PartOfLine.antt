-- The loop that reads one line: what it has read of the line, and how each end of it is reported.
use Rattle.std.{proofs.Common.{◌≡◌, ◌≢◌, ℕ, ◌+◌, ◌-◌, ◌≤◌, Bool, List, [], ◌∷◌, ◌++◌, Result, Option, Ok, Err, length, take, sym, ap, subst, ◌∙◌, arith, append_assoc, append-nil, take-take, take_all, length-take, length-append, zero-le, inl, inr, le_refl}, proofs.lemmas.List.take-append-le, proofs.lemmas.List.Elements.{All-nil, All-append}, proofs.Math.Seq.take-append-add, proofs.lemmas.Bool.cases_lt, specs.Result.IsErrAnd, specs.Io.KnownBytes.{Keeps, Consumes}, proofs.KnownBytes.{Consumes-nil, Consumes-trans, Keeps-refl, Keeps-trans}}
use Rattle.script_lines.{specs.declared.fault.ReplayFault.ReplayFault, specs.declared.fault.ReplayFault.TheVariants.{ReadFault, WriteFault, TooMuchInput, OutOfMemory}, specs.declared.line_reader.piece.Piece.Piece, specs.declared.line_reader.piece.Piece.TheVariants.{End, Beyond, Part, WholeLine}, specs.declared.line_reader.LineEnd.LineEnd, specs.declared.line_reader.LineEnd.TheVariants.{Feed, Input}, specs.Lines.HasNoFeed, specs.Reading.{TakesPiece, TakesLine}}

-- a line goes on: raw was read of it, `left` of `room` may still be read, and nothing was written
pub record PartOfLine (max_line_bytes room left : ℕ) (held : List ℕ) (r0 r1 w0 w1 : Option (List ℕ)) : Type 0 where
  pub raw : List ℕ
  pub read : Consumes r0 r1 raw
  pub none : HasNoFeed raw
  pub held_is : held ≡ take (max_line_bytes + 1) raw
  pub within : length raw + left ≡ room
  pub kept : Keeps w0 w1

-- what is kept of a list that was kept up to n elements, and of what follows it
pub kept_again : (n : ℕ) (xs ys : List ℕ) → take n (take n xs ++ ys) ≡ take n (xs ++ ys)
kept_again n xs ys = elim (cases_lt n (length xs)) [
  | inl long ↦
      let full : n ≤ length (take n xs) = omega (arith, length-take n xs) in
      let fits : n ≤ length xs = omega arith in
      take-append-le n (take n xs) ys full ∙ take-take n n xs (le_refl n) ∙ sym (take-append-le n xs ys fits)
  | inr short ↦ ap (λ l. take n (l ++ ys)) (take_all n xs short)
]

-- a line that has not begun
pub unbegun : (max_line_bytes room : ℕ) (held : List ℕ) (r w : Option (List ℕ)) → held ≡ [] → PartOfLine max_line_bytes room room held r r w w
unbegun max_line_bytes room held r w empty = record {
  raw = [];
  read = Consumes-nil r;
  none = All-nil (λ b. b ≢ 10);
  held_is = empty ∙ sym (take_all (max_line_bytes + 1) [] zero-le);
  within = omega arith;
  kept = Keeps-refl w;
}

-- what was read, under other names for the limit and the result
recast : (max_line_bytes max_line_bytes' left : ℕ) (result result' : Result Piece ReplayFault) (bytes held held' : List ℕ) → max_line_bytes' ≡ max_line_bytes → result' ≡ result
    → TakesPiece max_line_bytes' left result' bytes held held' → TakesPiece max_line_bytes left result bytes held held'
recast max_line_bytes max_line_bytes' left result result' bytes held held' e f taken =
    subst (λ r. TakesPiece max_line_bytes left r bytes held held') f (subst (λ m. TakesPiece m left result' bytes held held') e taken)

-- a fault that a `?` passes on
pub passed_on : {T E : Type 0} (r : Result T E) (e : E) → IsErrAnd r (λ x. x ≡ e) → Err e ≡ r
passed_on (Ok _) e told = absurd told
passed_on (Err x) e told = sym (ap Err told)

module _ (max_line_bytes max_line_bytes' room left : ℕ) (held held' : List ℕ) (r0 r1 r2 w0 w1 w2 : Option (List ℕ))
    (p : PartOfLine max_line_bytes room left held r0 r1 w0 w1) (same : max_line_bytes' ≡ max_line_bytes) (flushed : Keeps w1 w2)
    (result : Result Piece ReplayFault) where
  kept_on : (part : List ℕ) → held' ≡ take (max_line_bytes + 1) (held ++ part) → held' ≡ take (max_line_bytes + 1) (p.raw ++ part)
  kept_on part e = e ∙ ap (λ l. take (max_line_bytes + 1) (l ++ part)) p.held_is ∙ kept_again (max_line_bytes + 1) p.raw part

  -- one more part of the line
  pub goes_on : (bytes : List ℕ) (n : ℕ) (d : Bool) → Consumes r1 r2 bytes → result ≡ Ok (Part n d) → TakesPiece max_line_bytes' left result bytes held held'
      → PartOfLine max_line_bytes room (left - n) held' r0 r2 w0 w2
  goes_on bytes n d read is told =
      let taken = recast max_line_bytes max_line_bytes' left (Ok (Part n d)) result bytes held held' same is told in record {
        raw = p.raw ++ bytes;
        read = Consumes-trans r0 r1 r2 p.raw bytes p.read read;
        none = All-append (λ b. b ≢ 10) p.raw bytes p.none taken.3;
        held_is = kept_on bytes taken.4;
        within = omega (arith, p.within, taken.0, taken.2, length-append p.raw bytes);
        kept = Keeps-trans w0 w1 w2 p.kept flushed;
      }

  -- the flush failed
  pub stops_at_flush : (bytes : List ℕ) × Consumes r0 r1 bytes × TakesLine max_line_bytes room left (Err WriteFault) bytes held
  stops_at_flush = (p.raw, p.read, (omega (arith, p.within), p.none))

  -- the line ended, or the reading of it did
  pub ends : (bytes : List ℕ) → Consumes r1 r2 bytes → result ≡ Ok End → TakesPiece max_line_bytes' left result bytes held held'
      → (whole : List ℕ) × Consumes r0 r2 whole × TakesLine max_line_bytes room left (Ok Input) whole held'
  ends bytes read is told =
      let taken = recast max_line_bytes max_line_bytes' left (Ok End) result bytes held held' same is told in (
        p.raw,
        subst (Consumes r0 r2) (ap (λ l. p.raw ++ l) taken.0 ∙ append-nil p.raw) (Consumes-trans r0 r1 r2 p.raw bytes p.read read),
        (p.within, p.none, taken.1 ∙ p.held_is),
      )

  pub feeds : (bytes : List ℕ) (n : ℕ) (d : Bool) → Consumes r1 r2 bytes → result ≡ Ok (WholeLine n d) → TakesPiece max_line_bytes' left result bytes held held'
      → (whole : List ℕ) × Consumes r0 r2 whole × TakesLine max_line_bytes room (left - n) (Ok Feed) whole held'
  feeds bytes n d read is told =
      let taken = recast max_line_bytes max_line_bytes' left (Ok (WholeLine n d)) result bytes held held' same is told in (
        p.raw ++ bytes,
        Consumes-trans r0 r1 r2 p.raw bytes p.read read,
        (
          omega (arith, p.within, taken.0, taken.1, length-append p.raw bytes),
          (
            p.raw ++ taken.2.0,
            All-append (λ b. b ≢ 10) p.raw taken.2.0 p.none taken.2.1,
            ap (λ l. p.raw ++ l) taken.2.2 ∙ sym (append_assoc p.raw taken.2.0 (10 ∷ [])),
            kept_on taken.2.0 taken.2.3,
          ),
        ),
      )

  pub overflows : (bytes : List ℕ) → Consumes r1 r2 bytes → result ≡ Ok Beyond → TakesPiece max_line_bytes' left result bytes held held'
      → (whole : List ℕ) × Consumes r0 r2 whole × TakesLine max_line_bytes room left (Err TooMuchInput) whole held'
  overflows bytes read is told =
      let taken = recast max_line_bytes max_line_bytes' left (Ok Beyond) result bytes held held' same is told in
      let all : length p.raw ≡ room = omega (arith, p.within, taken.0) in (
        p.raw ++ bytes,
        Consumes-trans r0 r1 r2 p.raw bytes p.read read,
        (
          omega (arith, all, taken.1, length-append p.raw bytes),
          subst HasNoFeed (sym (take-append-le room p.raw bytes (omega (arith, all)) ∙ take_all room p.raw (omega (arith, all)))) p.none,
        ),
      )

  fails_so : (fault : ReplayFault) (bytes : List ℕ) → Consumes r1 r2 bytes → TakesPiece max_line_bytes left (Err fault) bytes held held'
      → (whole : List ℕ) × Consumes r0 r2 whole × TakesLine max_line_bytes room left (Err fault) whole held'
  fails_so ReadFault bytes read taken = (
    p.raw,
    subst (Consumes r0 r2) (ap (λ l. p.raw ++ l) taken ∙ append-nil p.raw) (Consumes-trans r0 r1 r2 p.raw bytes p.read read),
    (omega (arith, p.within), p.none),
  )
  fails_so WriteFault bytes read taken = absurd taken
  fails_so TooMuchInput bytes read taken = absurd taken
  fails_so OutOfMemory bytes read taken =
      let most_of : length (p.raw ++ bytes) - 1 ≡ length p.raw + (length bytes - 1) = omega (arith, taken.0, length-append p.raw bytes) in (
        p.raw ++ bytes,
        Consumes-trans r0 r1 r2 p.raw bytes p.read read,
        (
          omega (arith, taken.0, length-append p.raw bytes),
          omega (arith, p.within, taken.1, length-append p.raw bytes),
          subst HasNoFeed (sym (ap (λ n. take n (p.raw ++ bytes)) most_of ∙ take-append-add p.raw bytes (length bytes - 1)))
              (All-append (λ b. b ≢ 10) p.raw (take (length bytes - 1) bytes) p.none taken.2),
        ),
      )

  pub fails : (fault : ReplayFault) (passed : Result LineEnd ReplayFault) (bytes : List ℕ) → Consumes r1 r2 bytes → result ≡ Err fault → IsErrAnd passed (λ x. x ≡ fault)
      → TakesPiece max_line_bytes' left result bytes held held'
      → (whole : List ℕ) × Consumes r0 r2 whole × TakesLine max_line_bytes room left passed whole held'
  fails fault passed bytes read is goes told =
      let taken = fails_so fault bytes read (recast max_line_bytes max_line_bytes' left (Err fault) result bytes held held' same is told) in
      (taken.0, taken.1, subst (λ r. TakesLine max_line_bytes room left r taken.0 held') (passed_on passed fault goes) taken.2)
