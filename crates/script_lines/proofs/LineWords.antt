-- Lemmas on what a line says.
use Rattle.std.{proofs.Common.{◌≡◌, ℕ, Bool, true, false, cond, List, refl, sym, ap, ◌∙◌}, proofs.lemmas.Str.{IsUtf8-from_is_utf8, is_utf8-from_IsUtf8}, specs.Str.{IsUtf8, is_utf8}}
use Rattle.script_lines.{specs.declared.script_line.LineFault.TheVariants.BadLine, specs.LineMeaning.{fails, by_text, by_words}}

-- a text is read by its words
pub by_words-text : (bytes text : List ℕ) → text ≡ bytes → IsUtf8 bytes → by_text text ≡ by_words bytes
by_words-text bytes text same utf8 =
    ap by_text same
    ∙ sym (ap (λ b. cond b (by_text bytes) (fails BadLine)) (is_utf8-from_IsUtf8 bytes utf8))

-- what is no text is not read
pub by_words-no_text : (bytes : List ℕ) → ¬ (IsUtf8 bytes) → fails BadLine ≡ by_words bytes
by_words-no_text bytes none = at (is_utf8 bytes) (IsUtf8-from_is_utf8 bytes)
  where
    at : (b : Bool) → (b ≡ true → IsUtf8 bytes) → fails BadLine ≡ cond b (by_text bytes) (fails BadLine)
    at true is = absurd (none (is refl))
    at false is = refl
