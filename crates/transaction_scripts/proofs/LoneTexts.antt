-- The bytes of a script's lines that stay, and their text.
use Rattle.std.{proofs.Common.{◌≡◌, ◌≢◌, ◌⊎◌, inl, inr, ℕ, Bool, true, false, cond, List, [], ◌∷◌, ◌++◌, refl, sym, ap, ◌∙◌, eqb}, specs.List.flat_map, proofs.lemmas.Bool.false≢true, proofs.lemmas.Bool.Decides.eqb_tells, proofs.lemmas.List.Elements.{All-append, All-cons, All-nil}}
use Rattle.script_ledgers.specs.Script.{Script, line_step, script_text, start}
use Rattle.script_lines.{specs.LineMeaning.line_meaning, specs.Lines.{HasNoFeed, Line, cut, ended, lines_of, unended, whole}, proofs.Cuts.{cut-ended, cut-open}}
use Rattle.transaction_scripts.{specs.LoneBytes.{lone_bytes, lone_script, written_lines}, specs.LoneScripts.{line_texts, lone_lines, lone_texts, stays}, proofs.LoneSteps.lone_answers}

module _ (max_line_bytes : ℕ) (name tx : List ℕ) where
  abbrev lines_behind : List ℕ → List ℕ → List Line
  lines_behind raw bytes = cut (unended max_line_bytes) max_line_bytes raw bytes

  -- the bytes of the lines that stay are cut into these lines
  abbrev AreCut : List ℕ → List ℕ → Script → Type 0
  AreCut raw bytes s = lines_behind [] (lone_bytes name tx s (lines_behind raw bytes) (written_lines raw bytes)) ≡ lone_lines name tx s (lines_behind raw bytes)

  one_more : (raw : List ℕ) (b : ℕ) → HasNoFeed raw → b ≢ 10 → HasNoFeed (raw ++ b ∷ [])
  one_more raw b none other = All-append (λ x. x ≢ 10) raw (b ∷ []) none (All-cons (λ x. x ≢ 10) b [] other (All-nil (λ x. x ≢ 10)))

  cut_again : (raw bytes : List ℕ) (s : Script) → HasNoFeed raw → AreCut raw bytes s
  cut_again [] [] s none = refl
  cut_again (r ∷ raw) [] s none = by_case (stays name tx s (line_meaning (whole max_line_bytes (r ∷ raw))))
    where
      by_case : (b : Bool) → lines_behind [] (cond b ((r ∷ raw) ++ []) []) ≡ cond b (whole max_line_bytes (r ∷ raw) ∷ []) []
      by_case true = cut-open (unended max_line_bytes) max_line_bytes [] (r ∷ raw) [] none
      by_case false = refl
  cut_again raw (b ∷ bs) s none =
      by_feed (eqb b 10) (eqb_tells b 10) refl
      (cut_again [] bs (line_step s (ended max_line_bytes raw)).0 (All-nil (λ x. x ≢ 10)))
      (λ other. cut_again (raw ++ b ∷ []) bs s (one_more raw b none other))
    where
      by_feed : (feed : Bool) → ((eqb b 10 ≡ true) × (b ≡ 10)) ⊎ ((eqb b 10 ≡ false) × (b ≢ 10)) → eqb b 10 ≡ feed
          → AreCut [] bs (line_step s (ended max_line_bytes raw)).0 → (b ≢ 10 → AreCut (raw ++ b ∷ []) bs s)
          → let lines = cond feed (ended max_line_bytes raw ∷ lines_behind [] bs) (lines_behind (raw ++ b ∷ []) bs) in
          lines_behind [] (lone_bytes name tx s lines (cond feed ((raw ++ b ∷ []) ∷ written_lines [] bs) (written_lines (raw ++ b ∷ []) bs))) ≡ lone_lines name tx s lines
      by_feed true (inl is) e rest more = by_case (stays name tx s (line_meaning (ended max_line_bytes raw)))
        where
          next : Script
          next = (line_step s (ended max_line_bytes raw)).0

          by_case : (kept : Bool) → lines_behind [] (cond kept ((raw ++ b ∷ []) ++ lone_bytes name tx next (lines_behind [] bs) (written_lines [] bs)) (lone_bytes name tx next (lines_behind [] bs) (written_lines [] bs)))
              ≡ cond kept (ended max_line_bytes raw ∷ lone_lines name tx next (lines_behind [] bs)) (lone_lines name tx next (lines_behind [] bs))
          by_case true =
              let behind = lone_bytes name tx next (lines_behind [] bs) (written_lines [] bs) in
              ap (λ x. lines_behind [] ((raw ++ x ∷ []) ++ behind)) is.1
              ∙ cut-ended (unended max_line_bytes) max_line_bytes raw behind none
              ∙ ap (λ l. ended max_line_bytes raw ∷ l) rest
          by_case false = rest
      by_feed true (inr other) e rest more = absurd (false≢true (sym other.0 ∙ e))
      by_feed false (inl is) e rest more = absurd (false≢true (sym e ∙ is.0))
      by_feed false (inr other) e rest more = more other.1

  pub same_lines : (bytes : List ℕ) → lines_of max_line_bytes (lone_script max_line_bytes name tx bytes) ≡ lone_lines name tx start (lines_of max_line_bytes bytes)
  same_lines bytes = cut_again [] bytes start (All-nil (λ x. x ≢ 10))

-- a script's text is that of its lines
text_of_lines : (s : Script) (lines : List Line) → script_text s lines ≡ flat_map (λ text. text) (line_texts s lines)
text_of_lines s [] = refl
text_of_lines s (line ∷ lines) = ap (λ l. (line_step s line).1 ++ l) (text_of_lines (line_step s line).0 lines)

pub same_text_alone : (max_line_bytes : ℕ) (name tx bytes : List ℕ)
    → script_text start (lines_of max_line_bytes (lone_script max_line_bytes name tx bytes)) ≡ flat_map (λ text. text) (lone_texts name tx 0 start (lines_of max_line_bytes bytes))
same_text_alone max_line_bytes name tx bytes =
    ap (script_text start) (same_lines max_line_bytes name tx bytes)
    ∙ text_of_lines start (lone_lines name tx start (lines_of max_line_bytes bytes))
    ∙ ap (flat_map (λ text. text)) (lone_answers name tx (lines_of max_line_bytes bytes))
