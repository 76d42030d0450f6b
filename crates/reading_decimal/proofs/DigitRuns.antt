-- Reading digits from the left into a number of 128 bits.
use Rattle.std.{proofs.Common.{◌≡◌, ℕ, suc, ◌+◌, ◌-◌, ◌*◌, ◌^◌, ◌<◌, ◌≤◌, List, [], ◌∷◌, ◌++◌, length, get_or, drop, refl, sym, ap, ◌∙◌, subst, arith, lit<}, proofs.Math.Nat.{pow-suc, pow-le-pow_right, mul-le-mul_right, le-mul_of_pos_right}, proofs.Math.Numerals.add-one, proofs.Math.Seq.drop-cons, proofs.lemmas.Bool.Decides.nat_tests, proofs.lemmas.Int.Digits.digits_value-lt, proofs.lemmas.Nat.pow-add, proofs.lemmas.Str.Parse.digit_from_value, specs.Char.digit_value, specs.Str.Parse.{AllDigits, digits_value, digits_value_after}}
use Rattle.reading_decimal.proofs.Scaling.{ten_pos}

-- `value` has been read so far, and `rest` is still to be read
pub record IsReading (value : ℕ) (rest : List ℕ) (front : ℕ) (digits : List ℕ) : Type 0 where
  pub same : digits_value_after 10 value rest ≡ digits_value_after 10 front digits
  pub all : AllDigits 10 rest
  pub room : (value + 1) * 10 ^ length rest ≤ 2 ^ 128

digit_is : (digit : ℕ) → 48 ≤ digit → digit ≤ 57 → digit_value digit ≡ digit - 48
digit_is digit low high = grind (arith, nat_tests)

room_more : (value digit k : ℕ) → digit < 10 → (value + 1) * 10 ^ suc k ≤ 2 ^ 128 → (value * 10 + digit + 1) * 10 ^ k ≤ 2 ^ 128
room_more value digit k d h =
    let small : value * 10 + digit + 1 ≤ (value + 1) * 10 = omega arith in
    omega (arith, ap (λ x. (value + 1) * x) (pow-suc 10 k), mul-le-mul_right (10 ^ k) small)

room_fits : (value k : ℕ) → (value + 1) * 10 ^ k ≤ 2 ^ 128 → value < 2 ^ 128
room_fits value k h = omega (arith, le-mul_of_pos_right (value + 1) (ten_pos k))

-- what one more digit asks for and gives
pub record IsReadingMore (value digit : ℕ) (rest : List ℕ) (front : ℕ) (digits : List ℕ) : Type 0 where
  pub low : 48 ≤ digit
  pub fits : value * 10 + (digit - 48) < 2 ^ 128
  pub next : IsReading (value * 10 + (digit - 48)) rest front digits

read_one : (value digit : ℕ) (rest : List ℕ) (front : ℕ) (digits : List ℕ) → IsReading value (digit ∷ rest) front digits → IsReadingMore value digit rest front digits
read_one value digit rest front digits r =
    let range = digit_from_value digit r.all.0 in
    let is : digit_value digit ≡ digit - 48 = digit_is digit range.0 range.1 in
    let room : (value * 10 + (digit - 48) + 1) * 10 ^ length rest ≤ 2 ^ 128 = room_more value (digit - 48) (length rest) (omega arith) r.room in
    record {
      low = range.0;
      fits = room_fits _ (length rest) room;
      next = record {
        same = ap (λ d. digits_value_after 10 (value * 10 + d) rest) (sym is) ∙ r.same;
        all = r.all.1;
        room = room;
      };
    }

-- the digit at an index of the digits that are read
pub read_at : (value : ℕ) (digits : List ℕ) (i front : ℕ) → i < length digits → IsReading value (drop i digits) front digits
    → IsReadingMore value (get_or digits i 0) (drop (i + 1) digits) front digits
read_at value digits i front h r =
    rw add-one (read_one value (get_or digits i 0) (drop (suc i) digits) front digits (subst (λ ds. IsReading value ds front digits) (drop-cons digits i 0 h) r))

-- as many digits as a short text has fit
pub one_fits : (k : ℕ) → k ≤ 36 → 1 * 10 ^ k ≤ 2 ^ 128
one_fits k h = omega (arith, pow-le-pow_right {n = 10} (lit< tt) h)

-- digits behind others fit, where both are few
pub both_fit : (xs ys : List ℕ) → AllDigits 10 xs → length xs + length ys ≤ 36 → (digits_value 10 xs + 1) * 10 ^ length ys ≤ 2 ^ 128
both_fit xs ys all few =
    let below : digits_value 10 xs + 1 ≤ 10 ^ length xs = omega (arith, digits_value-lt 10 xs all) in
    omega (arith, mul-le-mul_right (10 ^ length ys) below, pow-add 10 (length xs) (length ys), pow-le-pow_right {n = 10} (lit< tt) few)

pub digits_value_after-append : (n : ℕ) (xs ys : List ℕ) → digits_value_after 10 n (xs ++ ys) ≡ digits_value_after 10 (digits_value_after 10 n xs) ys
digits_value_after-append n [] ys = refl
digits_value_after-append n (x ∷ xs) ys = digits_value_after-append (n * 10 + digit_value x) xs ys
