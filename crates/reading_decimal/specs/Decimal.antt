-- A decimal of RFC 8259, and its whole milliwatt-hours.
use Rattle.std.{specs.Prelude.{ℕ, ◌+◌, ◌*◌, ◌/◌, ◌^◌, ◌≤◌, Bool, not, ◌&&◌, ◌||◌, List, length, drop, ◌==◌, nat_lt, nat_le, if◌then◌else◌, slice_index, ℤ, pos, negsuc, Option, Some, None, Result, Err}, specs.Option.ok_or, specs.Float.Numeral.{Parts, scan_numeral, numeral_digits, tens_up, tens_down}, specs.Str.Parse.digits_value}
use Rattle.ledger_model.specs.Ranges.{greatest_reading}
use Rattle.reading_decimal.{specs.declared.decimal.Unit.Unit as EnergyUnit, specs.declared.decimal.Unit.TheVariants.{Wh, KWh}, specs.declared.decimal.DecimalFault.DecimalFault, specs.declared.decimal.DecimalFault.TheVariants.{NotADecimal, TooLong, ExponentRange, Negative, TooLarge}}

-- the token begins with `-`
abbrev pub is_negative : List ℕ → Bool
is_negative token = slice_index token 0 == 45

-- the token without a leading `-`
abbrev pub unsigned : List ℕ → List ℕ
unsigned token = drop (if is_negative token then 1 else 0) token

-- the digits before and after the point and those of the exponent
abbrev pub parts : List ℕ → Parts
parts token = scan_numeral (unsigned token)

-- There is a digit, and no 0 in front of another; a point has a digit behind it; none of the text's len bytes is
-- left over.
abbrev pub is_decimal_of : Parts → ℕ → Bool
is_decimal_of p len =
    ((nat_lt 0 (length p.whole) && (length p.whole == 1 || not (slice_index p.whole 0 == 48)))
    && (not p.point || nat_lt 0 (length p.fraction))) && p.len == len

-- the token is a number of RFC 8259
abbrev pub is_decimal : List ℕ → Bool
is_decimal token = is_decimal_of (parts token) (length (unsigned token))

-- the watt-hours of one unit
abbrev pub watt_hours : EnergyUnit → ℕ
watt_hours Wh = 1
watt_hours KWh = 1000

-- a multiplier is a power of ten: the tens that it multiplies by, and those that it divides by
abbrev pub tens_of : ℤ → ℕ
tens_of (pos n) = n
tens_of (negsuc n) = 0

abbrev pub tenths_of : ℤ → ℕ
tenths_of (pos n) = 0
tenths_of (negsuc n) = n + 1

-- The power of ten that makes both sides of `n <= value * 10^multiplier * unit * 1000` whole.
abbrev pub tens_left : Parts → ℤ → ℕ
tens_left p multiplier = tens_down p + tenths_of multiplier

-- The right side, multiplied by that power.
abbrev pub right_side : Parts → ℤ → EnergyUnit → ℕ
right_side p multiplier unit = numeral_digits p * (watt_hours unit * 1000) * 10 ^ (tens_up p + tens_of multiplier)

-- The whole milliwatt-hours of a value that is not negative, rounded down.
abbrev pub mwh : Parts → ℤ → EnergyUnit → ℕ
mwh p multiplier unit = right_side p multiplier unit / 10 ^ tens_left p multiplier

-- n is the greatest whole number of milliwatt-hours that is not above the value
pub record IsMwh (p : Parts) (multiplier : ℤ) (unit : EnergyUnit) (n : ℕ) : Type 0 where
  pub within : n * 10 ^ tens_left p multiplier ≤ right_side p multiplier unit
  pub greatest : (m : ℕ) → m * 10 ^ tens_left p multiplier ≤ right_side p multiplier unit → m ≤ n

-- n, if a register can show it
abbrev pub within_register : ℕ → Option ℕ
within_register n = if nat_le n greatest_reading then Some n else None

-- how many characters a decimal may have (this product's profile)
abbrev pub longest_decimal : ℕ
longest_decimal = 36

-- the greatest exponent that may be written, without its sign (this product's profile)
abbrev pub greatest_exponent : ℕ
greatest_exponent = 99

-- The reading of a decimal. A decimal has only ASCII bytes, so its bytes count its characters. Minus
-- zero is 0.
abbrev pub mwh_reading : List ℕ → ℤ → EnergyUnit → Result ℕ DecimalFault
mwh_reading token multiplier unit =
    if not (is_decimal token) then Err NotADecimal
    else (if nat_lt longest_decimal (length token) then Err TooLong
    else (if nat_lt greatest_exponent (digits_value 10 (parts token).exponent) then Err ExponentRange
    else (if is_negative token && nat_lt 0 (numeral_digits (parts token)) then Err Negative
    else ok_or (within_register (mwh (parts token) multiplier unit)) TooLarge)))
