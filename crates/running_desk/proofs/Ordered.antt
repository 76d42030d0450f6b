-- An operator's lines, as they are read.
use Rattle.std.{proofs.Common.{◌≡◌, ℕ, ◌+◌, ◌<◌, List, [], ◌∷◌, ◌++◌, Option, None, Some, Ok, refl, sym, ap, ◌∙◌, arith, length, length-take, subst, take, append-nil}, specs.Prelude.{OnSome, option_map}, specs.Io.KnownBytes.{Consumes, IsAtEnd}}
use Rattle.script_lines.{specs.declared.line_reader.LineEnd.LineEnd, specs.declared.line_reader.LineEnd.TheVariants.{Feed, Input}, specs.Lines.{lines_of, unended}, specs.Reading.{TakesLine, line_of}, proofs.Cuts.{cut-ended, cut-unended, kept_line_of, unended_whole, none_kept}, specs.Ranges.longest_line}
use Rattle.running_desk.{specs.declared.orders.Came.Came, specs.Ordered.{Comes, Gives, came_of, lines_in}}

some_read : (most b : ℕ) (bs raw : List ℕ) → b ∷ bs ≡ take (most + 1) raw → 0 < length raw
some_read most b bs [] e = absurd (omega (arith, ap length e, length-take {A = ℕ} (most + 1) []))
some_read most b bs (c ∷ cs) e = omega arith

module _ (most room left : ℕ) (bytes : List ℕ) where
  -- what a line feed ends is the first line
  fed : (held xs ys : List ℕ) → xs ≡ bytes ++ ys → TakesLine most room left (Ok Feed) bytes held → Gives (lines_of most xs) (came_of Feed held) (line_of Feed most held) (lines_of most ys)
  fed held xs ys e t =
      ap (lines_of most) (e ∙ ap (λ l. l ++ ys) t.1.2)
      ∙ cut-ended (unended most) most t.1.0 ys t.1.1
      ∙ ap (λ l. l ∷ lines_of most ys) (sym (kept_line_of Feed most held t.1.0 t.1.3))

  -- what the end of the input ends is the last, if there is any
  last : (held xs ys : List ℕ) → xs ≡ bytes ++ ys → ys ≡ [] → TakesLine most room left (Ok Input) bytes held
      → Gives (lines_of most xs) (came_of Input held) (line_of Input most held) (lines_of most ys)
  last [] xs ys e none t =
      let empty : bytes ≡ [] = none_kept most [] bytes t.2 refl in
      (ap (lines_of most) (e ∙ ap (λ l. bytes ++ l) none ∙ append-nil bytes ∙ empty), ap (lines_of most) none)
  last (b ∷ bs) xs ys e none t = (
    ap (lines_of most) (e ∙ ap (λ l. bytes ++ l) none ∙ append-nil bytes)
        ∙ cut-unended (unended most) most bytes t.1
        ∙ unended_whole most bytes (some_read most b bs bytes t.2)
        ∙ ap (λ l. l ∷ []) (sym (kept_line_of Input most (b ∷ bs) bytes t.2)),
    ap (lines_of most) none,
  )

  -- the line that was read is what comes of the lines to come
  pub line_comes : (end : LineEnd) (held : List ℕ) (r0 r1 : Option (List ℕ)) → Consumes r0 r1 bytes → TakesLine most room left (Ok end) bytes held → (end ≡ Input → OnSome r0 (IsAtEnd r1))
      → Comes (option_map (lines_of most) r0) (came_of end held) (line_of end most held) (option_map (lines_of most) r1)
  line_comes end held None r1 consumed t at_end = tt
  line_comes end held (Some xs) None consumed t at_end = consumed
  line_comes Feed held (Some xs) (Some ys) consumed t at_end = fed held xs ys consumed t
  line_comes Input held (Some xs) (Some ys) consumed t at_end = last held xs ys consumed (at_end refl) t

-- the same, of a reader of lines that may be this long
pub next_comes : (end : LineEnd) (came : Came) (held : List ℕ) (most now_most room left : ℕ) (r0 r1 : Option (List ℕ)) → most ≡ longest_line → now_most ≡ most → came ≡ came_of end held
    → (bytes : List ℕ) × Consumes r0 r1 bytes × TakesLine most room left (Ok end) bytes held → (end ≡ Input → OnSome r0 (IsAtEnd r1))
    → Comes (lines_in r0) came (line_of end now_most held) (lines_in r1)
next_comes end came held most now_most room left r0 r1 short same is t at_end =
    subst (λ k. Comes (lines_in r0) k (line_of end now_most held) (lines_in r1)) (sym is)
    (subst (λ n. Comes (lines_in r0) (came_of end held) (line_of end n held) (lines_in r1)) (sym (same ∙ short))
    (line_comes longest_line room left t.0 end held r0 r1 t.1 (subst (λ n. TakesLine n room left (Ok end) t.0 held) short t.2) at_end))
