-- The numbers of RFC 8259, part by part as its grammar writes them.
use Rattle.std.{specs.Prelude.{◌≡◌, ℕ, Bool, true, false, List, [], ◌∷◌, ◌++◌, length, slice_index}, specs.Str.Parse.IsNumeral}

-- `minus`, which may be left out
pub data Minus : List ℕ → Type 0 where
  no_minus : Minus []
  minus : Minus (45 ∷ [])

-- `int`: digits, and the first is 0 only if it is the only one
pub record IsInt (text : List ℕ) : Type 0 where
  pub digits : IsNumeral 10 text
  pub zero_alone : slice_index text 0 ≡ 48 → length text ≡ 1

-- `frac`, a point with digits, which may be left out
pub data Frac : List ℕ → Type 0 where
  no_frac : Frac []
  frac : (digits : List ℕ) → IsNumeral 10 digits → Frac (46 ∷ digits)

-- the sign of an exponent, which may be left out
pub data Sign : List ℕ → Type 0 where
  no_sign : Sign []
  plus : Sign (43 ∷ [])
  negative : Sign (45 ∷ [])

-- `exp`, an `e` or `E` with a sign and digits, which may be left out
pub data Exp : List ℕ → Type 0 where
  no_exp : Exp []
  lower : (sign digits : List ℕ) → Sign sign → IsNumeral 10 digits → Exp (101 ∷ (sign ++ digits))
  upper : (sign digits : List ℕ) → Sign sign → IsNumeral 10 digits → Exp (69 ∷ (sign ++ digits))

-- the whole text is the four parts, one after the other
pub record IsNumber (text : List ℕ) : Type 0 where
  pub minus_part : List ℕ
  pub int_part : List ℕ
  pub frac_part : List ℕ
  pub exp_part : List ℕ
  pub is_minus : Minus minus_part
  pub is_int : IsInt int_part
  pub is_frac : Frac frac_part
  pub is_exp : Exp exp_part
  pub is_text : text ≡ minus_part ++ (int_part ++ (frac_part ++ exp_part))

-- the digits of a `frac`, none if it is left out
abbrev pub frac_digits : {text : List ℕ} → Frac text → List ℕ
frac_digits no_frac = []
frac_digits (frac digits _) = digits

-- a sign is `-`
abbrev pub is_negative_sign : {text : List ℕ} → Sign text → Bool
is_negative_sign no_sign = false
is_negative_sign plus = false
is_negative_sign negative = true

-- the digits of an `exp`, none if it is left out
abbrev pub exp_digits : {text : List ℕ} → Exp text → List ℕ
exp_digits no_exp = []
exp_digits (lower sign digits _ _) = digits
exp_digits (upper sign digits _ _) = digits

-- an `exp` has the sign `-`
abbrev pub is_negative_exp : {text : List ℕ} → Exp text → Bool
is_negative_exp no_exp = false
is_negative_exp (lower sign digits s _) = is_negative_sign s
is_negative_exp (upper sign digits s _) = is_negative_sign s
