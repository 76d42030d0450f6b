-- The last step of reading a decimal, once no fault applies.
use Rattle.std.{proofs.Common.{◌≡◌, ℕ, ◌+◌, ◌*◌, ◌/◌, ◌^◌, ◌≤◌, ◌&&◌, true, false, List, length, ℤ, sym, ap, ◌∙◌, subst, arith, nat_lt, length-drop}, specs.Option.ok_or, proofs.lemmas.Nat.pow-add, specs.Float.Numeral.{Parts, numeral_digits, tens_up, tens_down}, specs.Str.Parse.digits_value}
use Rattle.reading_decimal.{specs.declared.decimal.Unit.Unit as EnergyUnit, specs.declared.decimal.DecimalFault.TheVariants.TooLarge, specs.Decimal.{is_decimal, is_negative, unsigned, parts, watt_hours, tens_of, tenths_of, tens_left, right_side, mwh, within_register, mwh_reading}, specs.Numeral.IsShort, proofs.Scan.scan_numeral-IsShort}

unsigned-short : (token : List ℕ) → length token ≤ 36 → length (unsigned token) ≤ 36
unsigned-short token h = simp length-drop (omega arith)

-- the parts of a token that is not too long
pub parts-IsShort : (token : List ℕ) (p : Parts) → p ≡ parts token → length token ≤ 36 → IsShort p
parts-IsShort token p e h =
    subst IsShort (sym e) (scan_numeral-IsShort (unsigned token) (unsigned-short token h))

-- a unit is a power of ten like the others
pub right_side-tens : (p : Parts) (multiplier : ℤ) (unit : EnergyUnit) (tens : ℕ) → watt_hours unit * 1000 ≡ 10 ^ tens
    → numeral_digits p * 10 ^ (tens_up p + tens_of multiplier + tens) ≡ right_side p multiplier unit
right_side-tens p multiplier unit tens e =
    let up = tens_up p + tens_of multiplier in
    omega (arith, ap (λ k. numeral_digits p * k) (pow-add 10 up tens), ap (λ k. numeral_digits p * (10 ^ up * k)) e)

-- the tens and the digits that the body collects give the milliwatt-hours
pub mwh-collected : (token : List ℕ) (multiplier : ℤ) (unit : EnergyUnit) (p : Parts) (value up tens units down tenths : ℕ)
    → p ≡ parts token → value ≡ numeral_digits p → up ≡ tens_up p → tens ≡ tens_of multiplier → watt_hours unit * 1000 ≡ 10 ^ units
    → down ≡ tens_down p → tenths ≡ tenths_of multiplier
    → value * 10 ^ (up + tens + units) / 10 ^ (down + tenths) ≡ mwh (parts token) multiplier unit
mwh-collected token multiplier unit p value up tens units down tenths same v u t w d f =
    rw (v, u, t, d, f) (ap (λ n. n / 10 ^ tens_left p multiplier) (right_side-tens p multiplier unit units w) ∙ ap (λ q. mwh q multiplier unit) same)

pub mwh_reading-last : (token : List ℕ) (multiplier : ℤ) (unit : EnergyUnit) → is_decimal token ≡ true → nat_lt 36 (length token) ≡ false
    → nat_lt 99 (digits_value 10 (parts token).exponent) ≡ false → (is_negative token && nat_lt 0 (numeral_digits (parts token))) ≡ false
    → mwh_reading token multiplier unit ≡ ok_or (within_register (mwh (parts token) multiplier unit)) TooLarge
mwh_reading-last token multiplier unit d l e n = rw (d, l, e, n)
