-- How a script is cut into lines, line by line.
use Rattle.std.{proofs.Common.{◌≡◌, ◌≢◌, ℕ, ◌+◌, ◌<◌, ◌≤◌, false, List, [], ◌∷◌, ◌++◌, Some, None, cond, leb, length, take, refl, inl, inr, sym, ap, ◌∙◌, arith, append_assoc, append-nil, ne_eqb, take_all, length-take}, proofs.lemmas.List.Elements.{All-head, All-tail}, proofs.lemmas.Bool.cases_lt, proofs.lemmas.Bool.Decides.nat_tests, specs.Io.BufRead.strip_last}
use Rattle.script_lines.{specs.declared.line_reader.LineEnd.LineEnd, specs.declared.line_reader.LineEnd.TheVariants.{Feed, Input}, specs.Lines.{Line, HasNoFeed, whole, ended, unended, cut, complete_lines}, specs.Reading.line_of}

module _ (last : List ℕ → List Line) (max_line_bytes : ℕ) where
  -- bytes without a line feed are part of the first line
  pub cut-open : (seen bytes more : List ℕ) → HasNoFeed bytes → cut last max_line_bytes seen (bytes ++ more) ≡ cut last max_line_bytes (seen ++ bytes) more
  cut-open seen [] more none = ap (λ l. cut last max_line_bytes l more) (sym (append-nil seen))
  cut-open seen (b ∷ bs) more none =
      ap (λ t. cond t (ended max_line_bytes seen ∷ cut last max_line_bytes [] (bs ++ more)) (cut last max_line_bytes (seen ++ b ∷ []) (bs ++ more))) (ne_eqb b 10 (All-head (λ x. x ≢ 10) b bs none))
      ∙ cut-open (seen ++ b ∷ []) bs more (All-tail (λ x. x ≢ 10) b bs none)
      ∙ ap (λ l. cut last max_line_bytes l more) (append_assoc seen (b ∷ []) bs)

  -- a line feed ends the first line
  pub cut-ended : (raw more : List ℕ) → HasNoFeed raw → cut last max_line_bytes [] ((raw ++ 10 ∷ []) ++ more) ≡ ended max_line_bytes raw ∷ cut last max_line_bytes [] more
  cut-ended raw more none = ap (cut last max_line_bytes []) (append_assoc raw (10 ∷ []) more) ∙ cut-open [] raw (10 ∷ more) none

  -- bytes without a line feed are no more than the end rule makes of them
  pub cut-unended : (raw : List ℕ) → HasNoFeed raw → cut last max_line_bytes [] raw ≡ last raw
  cut-unended raw none = ap (cut last max_line_bytes []) (sym (append-nil raw)) ∙ cut-open [] raw [] none

-- no line is complete without a line feed
pub complete-unended : (max_line_bytes : ℕ) (raw : List ℕ) → HasNoFeed raw → complete_lines max_line_bytes raw ≡ []
complete-unended max_line_bytes raw none = cut-unended (λ _. []) max_line_bytes raw none

-- the first most + 1 bytes decide whether a line is too long
pub same_length : (max_line_bytes : ℕ) (raw : List ℕ) → leb (length (take (max_line_bytes + 1) raw)) max_line_bytes ≡ leb (length raw) max_line_bytes
same_length max_line_bytes raw = elim (cases_lt max_line_bytes (length raw)) [
  | inl long ↦ grind (arith, nat_tests, length-take (max_line_bytes + 1) raw)
  | inr short ↦ grind (arith, nat_tests, length-take (max_line_bytes + 1) raw)
]

-- what is kept of a line gives the line
pub kept_line : (strip : List ℕ → List ℕ) (max_line_bytes : ℕ) (raw : List ℕ)
    → cond (leb (length (take (max_line_bytes + 1) raw)) max_line_bytes) (Some (strip (take (max_line_bytes + 1) raw))) None ≡ cond (leb (length raw) max_line_bytes) (Some (strip raw)) None
kept_line strip max_line_bytes raw = elim (cases_lt max_line_bytes (length raw)) [
  | inl long ↦
      let over : leb (length raw) max_line_bytes ≡ false = grind (arith, nat_tests) in
      ap (λ t. cond t (Some (strip (take (max_line_bytes + 1) raw))) None) (same_length max_line_bytes raw ∙ over) ∙ sym (ap (λ t. cond t (Some (strip raw)) None) over)
  | inr short ↦ ap (λ l. cond (leb (length l) max_line_bytes) (Some (strip l)) None) (take_all (max_line_bytes + 1) raw (omega arith))
]

pub kept_line_of : (end : LineEnd) (max_line_bytes : ℕ) (held raw : List ℕ) → held ≡ take (max_line_bytes + 1) raw → line_of end max_line_bytes held ≡ line_of end max_line_bytes raw
kept_line_of Feed max_line_bytes held raw e = ap (ended max_line_bytes) e ∙ kept_line (strip_last 13) max_line_bytes raw
kept_line_of Input max_line_bytes held raw e = ap (whole max_line_bytes) e ∙ kept_line (λ l. l) max_line_bytes raw

-- what the end of the input ends is a line unless it is empty
pub unended_whole : (max_line_bytes : ℕ) (raw : List ℕ) → 0 < length raw → unended max_line_bytes raw ≡ whole max_line_bytes raw ∷ []
unended_whole max_line_bytes [] some = absurd (omega arith)
unended_whole max_line_bytes (b ∷ bs) some = refl

-- nothing was read where nothing is kept
pub none_kept : (max_line_bytes : ℕ) (held raw : List ℕ) → held ≡ take (max_line_bytes + 1) raw → length held ≡ 0 → raw ≡ []
none_kept max_line_bytes held [] e none = refl
none_kept max_line_bytes held (b ∷ bs) e none = absurd (omega (arith, ap length e, length-take (max_line_bytes + 1) (b ∷ bs)))

-- a line that is not too long is kept whole
pub all_kept : (max_line_bytes : ℕ) (held raw : List ℕ) → held ≡ take (max_line_bytes + 1) raw → length held ≤ max_line_bytes → held ≡ raw
all_kept max_line_bytes held raw e short = e ∙ take_all (max_line_bytes + 1) raw (omega (arith, ap length e, length-take (max_line_bytes + 1) raw))
