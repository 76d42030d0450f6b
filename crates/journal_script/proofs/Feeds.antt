-- What a search for a line feed says of a text.
use Rattle.std.{proofs.Common.{◌≡◌, ◌↔◌, ℕ, zero, Bool, true, false, not, List, Option, None, Some, refl, sym, ◌∙◌, eqb-true, IsTrue}, specs.Option.is_some, proofs.lemmas.Bool.false≢true, proofs.lemmas.Grind.get_or_default_zero}
use Rattle.memchr.specs.Find.{IsFirstByte, is_byte}
use Rattle.script_lines.{specs.Lines.HasNoFeed, proofs.Pieces.found_none}

-- a text has none where the search finds none
pub is_feedless : (xs : List ℕ) (at : Option ℕ) (b : Bool) → IsFirstByte (is_byte 10) xs at → is_some at ≡ not b → IsTrue b ↔ HasNoFeed xs
is_feedless xs None true nowhere is = (λ _. found_none xs nowhere, λ _. refl)
is_feedless xs None false nowhere is = absurd (false≢true is)
is_feedless xs (Some at) true first is = absurd (false≢true (sym is))
is_feedless xs (Some at) false first is = (
  λ yes. absurd (false≢true yes),
  λ none. absurd (none at zero first.0.high (get_or_default_zero xs at zero first.0.high ∙ eqb-true _ _ first.1)),
)
