-- The tokens that `parse` takes as integers.
use Rattle.std.{proofs.Common.{◌≡◌, ◌≢◌, ℕ, ◌<◌, Bool, true, false, cond, List, length, drop, get_or, arith, rules, ltb-true, ℤ, FitsSigned, w64, refl, sym, ◌∙◌}, specs.Prelude.{◌==◌, ◌&&◌, nat_lt, slice_index, Ok, Err, if◌then◌else◌}, specs.Char.is_ascii_digit, specs.List.list_all, specs.Int.Signed.le_z, specs.Str.Parse.{IsNumeral, digits_value, without_leading_plus, without_leading_sign, signed_digits_value}, proofs.lemmas.Bool.and_parts, proofs.lemmas.Int.ints, proofs.lemmas.Str.Parse.{IsNumeralModel, numerals_by_value, without_leading_plus_none, not_in_digits}}
use Rattle.transaction_event.{specs.declared.fault.PayloadFault.TheVariants.Range, specs.Steps.Checked, specs.Integer.{integer_within, within}}
use Rattle.reading_decimal.specs.Integer.{is_integer}

-- the test finds just the texts of digits
digits : IsNumeralModel (λ ds. list_all is_ascii_digit ds ≡ true) (digits_value 10)
digits = numerals_by_value _ (search rules)

-- a digit is no plus
no_plus : (token : List ℕ) → 0 < length token → list_all is_ascii_digit token ≡ true → get_or token 0 0 ≢ 43
no_plus token some all = not_in_digits digits token 43 all (λ h. absurd (omega arith)) 0 some

-- digits behind a sign that is there, or not
behind_sign : (signed : Bool) (token : List ℕ)
    → (nat_lt 0 (length (drop (cond signed 1 0) token)) && list_all is_ascii_digit (drop (cond signed 1 0) token)) ≡ true
    → IsNumeral 10 (cond signed (drop 1 token) (without_leading_plus token))
behind_sign true token h = let p = and_parts _ _ h in (ltb-true _ _ p.0, digits.to _ p.1)
behind_sign false token h =
    let p = and_parts _ _ h in
    let some : 0 < length token = ltb-true _ _ p.0 in
    rw (without_leading_plus_none token (no_plus token some p.1)) (some, digits.to _ p.1)

-- an integer is a numeral behind its sign
pub numeral_from_integer : (token : List ℕ) → is_integer token ≡ true → IsNumeral 10 (without_leading_sign token)
numeral_from_integer token h = behind_sign (slice_index token 0 == 45) token h

-- between two numbers that fit
between_fits : (low n high : ℤ) → FitsSigned w64 low → FitsSigned w64 high → le_z low n ≡ true → le_z n high ≡ true → FitsSigned w64 n
between_fits low n high l h a b = record { sfits = grind (arith, ints) }

-- a test that does not hold leaves the fault
not_taken : (b : Bool) (n : ℤ) → (b ≡ true → ⊥) → Err Range ≡ (let r : Checked ℤ = if b then Ok n else Err Range in r)
not_taken true n never = absurd (never refl)
not_taken false n never = refl

-- a number that fits no i64 is in no range of i64
out_of_range : (low high n : ℤ) → FitsSigned w64 low → FitsSigned w64 high → (FitsSigned w64 n → ⊥) → Err Range ≡ within low high n
out_of_range low high n l h none = not_taken (le_z low n && le_z n high) n (λ both. let p = and_parts (le_z low n) (le_z n high) both in none (between_fits low n high l h p.0 p.1))

-- the integer of an integer token, in a range
within_token : (low high : ℤ) (token : List ℕ) → is_integer token ≡ true → integer_within low high token ≡ within low high (signed_digits_value 10 token)
within_token low high token t = rw t refl

-- what `parse` refuses is out of range
pub refused_integer : (low high : ℤ) (token : List ℕ) → FitsSigned w64 low → FitsSigned w64 high → is_integer token ≡ true
    → (IsNumeral 10 (without_leading_sign token) × FitsSigned w64 (signed_digits_value 10 token) → ⊥)
    → Err Range ≡ integer_within low high token
refused_integer low high token l h t none = out_of_range low high (signed_digits_value 10 token) l h (λ fits. none (numeral_from_integer token t, fits)) ∙ sym (within_token low high token t)
