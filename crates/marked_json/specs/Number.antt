-- The numbers of RFC 8259: an optional minus, a whole part, a fraction and an exponent.
-- `IsNumber` is the grammar; `is_number` finds the parts one after another. A law says that they agree.
use Rattle.std.{specs.Prelude.{◌≡◌, ◌≢◌, ◌⊎◌, ◌&&◌, ◌||◌, ◌==◌, ◌<◌, ℕ, List, [], ◌∷◌, ◌++◌, length, drop, slice_index, Bool, false, nat_le, if◌then◌else◌, Option, Some, None, option_and_then}, specs.List.{prefix_len, AllPass}}

-- `0` to `9`
abbrev pub is_digit : ℕ → Bool
is_digit c = nat_le 48 c && nat_le c 57

-- one digit or more
pub record IsDigits (cs : List ℕ) : Type 0 where
  pub some_digit : 0 < length cs
  pub all_digits : AllPass is_digit cs

-- nothing, or `-`
abbrev pub IsSign : List ℕ → Type 0
IsSign cs = (cs ≡ []) ⊎ (cs ≡ 45 ∷ [])

-- `0`, or digits that do not begin with 0
abbrev pub IsWhole : List ℕ → Type 0
IsWhole cs = (cs ≡ 48 ∷ []) ⊎ (IsDigits cs × (slice_index cs 0 ≢ 48))

-- nothing, or `.` and digits
abbrev pub IsFraction : List ℕ → Type 0
IsFraction cs = (cs ≡ []) ⊎ ((digits : List ℕ) × IsDigits digits × (cs ≡ 46 ∷ digits))

-- `e` or `E`
abbrev pub IsExponentMark : ℕ → Type 0
IsExponentMark c = (c ≡ 101) ⊎ (c ≡ 69)

-- nothing, `+` or `-`
abbrev pub IsExponentSign : List ℕ → Type 0
IsExponentSign cs = (cs ≡ []) ⊎ ((c : ℕ) × ((c ≡ 43) ⊎ (c ≡ 45)) × (cs ≡ c ∷ []))

-- nothing, or a mark, a sign and digits
abbrev pub IsExponent : List ℕ → Type 0
IsExponent cs =
    (cs ≡ [])
    ⊎ ((c : ℕ) × (sign : List ℕ) × (digits : List ℕ) × IsExponentMark c × IsExponentSign sign × IsDigits digits × (cs ≡ c ∷ (sign ++ digits)))

-- the grammar: the four parts, one after another
pub record IsNumber (token : List ℕ) : Type 0 where
  pub sign : List ℕ
  pub whole : List ℕ
  pub fraction : List ℕ
  pub exponent : List ℕ
  pub is_sign : IsSign sign
  pub is_whole : IsWhole whole
  pub is_fraction : IsFraction fraction
  pub is_exponent : IsExponent exponent
  pub in_order : token ≡ sign ++ (whole ++ (fraction ++ exponent))

-- what follows one digit or more
abbrev pub after_digits : List ℕ → Option (List ℕ)
after_digits cs = if prefix_len is_digit cs == 0 then None else Some (drop (prefix_len is_digit cs) cs)

-- what follows an optional minus
abbrev pub after_sign : List ℕ → List ℕ
after_sign [] = []
after_sign (c ∷ cs) = if c == 45 then cs else c ∷ cs

-- what follows a whole part
abbrev pub after_whole : List ℕ → Option (List ℕ)
after_whole [] = None
after_whole (c ∷ cs) = if c == 48 then Some cs else after_digits (c ∷ cs)

-- what follows an optional fraction
abbrev pub after_fraction : List ℕ → Option (List ℕ)
after_fraction [] = Some []
after_fraction (c ∷ cs) = if c == 46 then after_digits cs else Some (c ∷ cs)

-- what follows an optional sign of an exponent
abbrev pub after_exponent_sign : List ℕ → List ℕ
after_exponent_sign [] = []
after_exponent_sign (c ∷ cs) = if c == 43 || c == 45 then cs else c ∷ cs

-- what follows an optional exponent
abbrev pub after_exponent : List ℕ → Option (List ℕ)
after_exponent [] = Some []
after_exponent (c ∷ cs) = if c == 101 || c == 69 then after_digits (after_exponent_sign cs) else Some (c ∷ cs)

-- the parts were found, and nothing is left
abbrev pub is_all : Option (List ℕ) → Bool
is_all None = false
is_all (Some rest) = length rest == 0

-- the token is a number
abbrev pub is_number : List ℕ → Bool
is_number token = is_all (option_and_then after_exponent (option_and_then after_fraction (after_whole (after_sign token))))
