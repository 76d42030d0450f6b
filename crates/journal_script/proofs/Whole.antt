-- Two scripts one behind the other.
use Rattle.std.proofs.Common.{◌≡◌, ℕ, Bool, true, false, cond, eqb, List, [], ◌∷◌, ◌++◌, inl, inr, refl, sym, ap, ◌∙◌}
use Rattle.script_lines.specs.Lines.{Line, cut, ended, lines_of, unended}
use Rattle.script_ledgers.specs.Script.{Script, line_step, script_after}
use Rattle.journal_script.specs.Journals.{EndsWhole}

pub after_both : (s : Script) (one other : List Line) → script_after s (one ++ other) ≡ script_after (script_after s one) other
after_both s [] other = refl
after_both s (line ∷ one) other = after_both (line_step s line).0 one other

module _ (most : ℕ) where
  -- lines that a line feed ends are cut apart from what is behind them
  cut_apart : (seen front more : List ℕ) → cut (unended most) most seen ((front ++ 10 ∷ []) ++ more) ≡ cut (unended most) most seen (front ++ 10 ∷ []) ++ cut (unended most) most [] more
  cut_apart seen [] more = refl
  cut_apart seen (b ∷ front) more = at (eqb b 10) (cut_apart [] front more) (cut_apart (seen ++ b ∷ []) front more)
    where
      at : (f : Bool)
          → cut (unended most) most [] ((front ++ 10 ∷ []) ++ more) ≡ cut (unended most) most [] (front ++ 10 ∷ []) ++ cut (unended most) most [] more
          → cut (unended most) most (seen ++ b ∷ []) ((front ++ 10 ∷ []) ++ more) ≡ cut (unended most) most (seen ++ b ∷ []) (front ++ 10 ∷ []) ++ cut (unended most) most [] more
          → cond f (ended most seen ∷ cut (unended most) most [] ((front ++ 10 ∷ []) ++ more)) (cut (unended most) most (seen ++ b ∷ []) ((front ++ 10 ∷ []) ++ more))
          ≡ cond f (ended most seen ∷ cut (unended most) most [] (front ++ 10 ∷ [])) (cut (unended most) most (seen ++ b ∷ []) (front ++ 10 ∷ [])) ++ cut (unended most) most [] more
      at true fed on = ap (λ l. ended most seen ∷ l) fed
      at false fed on = on

  pub lines_apart : (read more : List ℕ) → EndsWhole read → lines_of most (read ++ more) ≡ lines_of most read ++ lines_of most more
  lines_apart read more (inl none) = ap (λ l. lines_of most (l ++ more)) none ∙ ap (λ l. lines_of most l ++ lines_of most more) (sym none)
  lines_apart read more (inr (front, is)) = ap (λ l. lines_of most (l ++ more)) is ∙ cut_apart [] front more ∙ ap (λ l. lines_of most l ++ lines_of most more) (sym is)
