-- What the scan of a short text holds: digits, and few of them.
use Rattle.std.{proofs.Common.{◌≡◌, ℕ, ◌+◌, ◌-◌, ◌<◌, ◌≤◌, Bool, true, false, cond, eqb, List, [], ◌∷◌, length, get_or, take, drop, slice_range, refl, ap, arith, length-take, length-drop}, proofs.Math.Numerals.one-add, proofs.lemmas.Bool.Decides.nat_tests, proofs.lemmas.List.Sums.prefix_len-le-length, specs.Char.{digit_value, is_ascii_digit}, specs.Str.Parse.AllDigits, specs.Float.Numeral.{scan_numeral, digits_len, digits_end, exponent_start, has_exponent}}
use Rattle.reading_decimal.specs.Numeral.{IsShort}

digit_of : (c : ℕ) → is_ascii_digit c ≡ true → digit_value c < 10
digit_of c h = grind (arith, nat_tests)

pub digits_front : (xs : List ℕ) → AllDigits 10 (take (digits_len xs) xs)
digits_front [] = tt
digits_front (x ∷ xs) = by_first (is_ascii_digit x) refl (digits_front xs)
  where
    by_first : (b : Bool) → is_ascii_digit x ≡ b → AllDigits 10 (take (digits_len xs) xs) → AllDigits 10 (take (cond b (1 + digits_len xs) 0) (x ∷ xs))
    by_first true e more = rw one-add (digit_of x e, more)
    by_first false e more = tt

-- the digits that begin at an index
pub run_digits : (bs : List ℕ) (from : ℕ) → AllDigits 10 (slice_range bs from (digits_end bs from))
run_digits bs from =
    let e : from + digits_len (drop from bs) - from ≡ digits_len (drop from bs) = omega arith in
    rw e (digits_front (drop from bs))

run_if : (bs : List ℕ) (b : Bool) (from : ℕ) (end : ℕ) → (b ≡ true → end ≡ digits_end bs from) → AllDigits 10 (cond b (slice_range bs from end) [])
run_if bs true from end h = rw (h refl) (run_digits bs from)
run_if bs false from end h = tt

length-run_if : (bs : List ℕ) (b : Bool) (from end : ℕ) → length (cond b (slice_range bs from end) []) ≤ length bs - from
length-run_if bs true from end = omega (arith, length-take (end - from) (drop from bs), length-drop from bs)
length-run_if bs false from end = omega arith

pub scan_numeral-IsShort : (bs : List ℕ) → length bs ≤ 36 → IsShort (scan_numeral bs)
unfolding scan_numeral
scan_numeral-IsShort bs h =
    let a = digits_end bs 0 in
    let point = eqb (get_or bs a 0) 46 in
    let b = cond point (digits_end bs (a + 1)) a in
    let within : a ≤ length bs = omega (arith, prefix_len-le-length is_ascii_digit (drop 0 bs), length-drop 0 bs) in
    let start = exponent_start bs b in
    let fraction = length-run_if bs point (a + 1) b in
    record {
      whole_digits = run_digits bs 0;
      fraction_digits = run_if bs point (a + 1) b (λ e. ap (λ t. cond t (digits_end bs (a + 1)) a) e);
      exponent_digits = run_if bs (has_exponent bs b) start (digits_end bs start) (λ e. refl);
      few_digits = omega (arith, fraction, length-take (a - 0) (drop 0 bs));
      few_exponent_digits = omega (arith, length-run_if bs (has_exponent bs b) start (digits_end bs start));
    }
