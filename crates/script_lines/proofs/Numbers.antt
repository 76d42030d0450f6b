-- The numbers that words write.
use Rattle.std.{proofs.Common.{◌≡◌, ℕ, ◌<◌, ◌^◌, Bool, true, false, List, Option, None, Some, arith, rules, ltb-true, subst, refl, sym}, specs.Prelude.{◌&&◌, nat_lt, if◌then◌else◌}, specs.Char.is_ascii_digit, specs.List.list_all, specs.Str.Parse.{IsNumeral, digits_value, without_leading_plus}, proofs.lemmas.Bool.and_parts, proofs.lemmas.Str.Parse.{IsNumeralModel, numerals_by_value, without_leading_plus_none, not_in_digits}}
use Rattle.script_lines.specs.LineMeaning.{is_number, number}

-- the test finds just the texts of digits
digits : IsNumeralModel (λ ds. list_all is_ascii_digit ds ≡ true) (digits_value 10)
digits = numerals_by_value _ (search rules)

-- a number begins with no plus
no_plus : (word : List ℕ) → is_number word ≡ true → without_leading_plus word ≡ word
no_plus word h =
    let p = and_parts _ _ h in
    without_leading_plus_none word (not_in_digits digits word 43 (and_parts _ _ p.1).0 (λ e. absurd (omega arith)) 0 (ltb-true _ _ p.0))

-- a number is a numeral
numeral : (word : List ℕ) → is_number word ≡ true → IsNumeral 10 (without_leading_plus word)
numeral word h =
    let p = and_parts _ _ h in
    rw (no_plus word h) (ltb-true _ _ p.0, digits.to _ (and_parts _ _ p.1).0)

-- a number that does not fit
out_of_range : (b c : Bool) (n : ℕ) → (c ≡ true → ⊥) → (let r : Option ℕ = if b && c then Some n else None in None ≡ r)
out_of_range true true n never = absurd (never refl)
out_of_range true false n never = refl
out_of_range false c n never = refl

-- a word of which no number is read
pub number_refused : (word : List ℕ) → is_number word ≡ true → ¬ (IsNumeral 10 (without_leading_plus word) × (digits_value 10 (without_leading_plus word) < 2 ^ 64)) → None ≡ number word
number_refused word h none =
    let plain = no_plus word h in
    out_of_range (is_number word) (nat_lt (digits_value 10 word) (2 ^ 64)) (digits_value 10 word)
    (λ t. none (numeral word h, subst (λ w. digits_value 10 w < 2 ^ 64) (sym plain) (ltb-true _ _ t)))
