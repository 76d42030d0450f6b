-- The scan of a token takes it whole exactly if the token is a number of RFC 8259.
use Rattle.std.{proofs.Common.{◌≡◌, ℕ, ◌+◌, ◌-◌, ◌<◌, ◌≤◌, Bool, true, false, cond, not, ◌&&◌, ◌||◌, eqb, ltb, List, [], ◌∷◌, ◌++◌, length, get_or, take, drop, slice_range, inl, inr, refl, sym, ap, ◌∙◌, subst, arith, true≢false, length-drop}, proofs.Math.Bool.or-true, proofs.Math.Nat.sub-zero, proofs.Math.Numerals.{one-add, add-one}, proofs.Math.Seq.drop-cons, proofs.lemmas.Bool.{cases_Bool, cases_lt, and_parts, or_cases, eqb-true, eq-eqb, ltb-true, lt-ltb}, proofs.lemmas.Bool.Decides.nat_tests, proofs.lemmas.List.{get_or-drop, get_or_past, drop-drop, take-append-drop, length-append, take_at, drop_at}, proofs.lemmas.List.Sums.prefix_len-le-length, proofs.lemmas.Str.Parse.digit_from_value, specs.Char.{digit_value, is_ascii_digit}, specs.Str.Parse.{AllDigits, IsNumeral}, specs.Float.Numeral.{scan_numeral, digits_len, digits_end, exponent_start, has_exponent}}
use Rattle.reading_decimal.{proofs.Scan.{digits_front, run_digits}, specs.Grammar.{Minus, no_minus, minus, IsInt, Frac, no_frac, frac, Sign, no_sign, plus, negative, Exp, no_exp, lower, upper, IsNumber}, specs.Decimal.{is_decimal_of, is_decimal, is_negative}}

-- a digit's byte is one of '0' to '9'
pub is_digit : (c : ℕ) → digit_value c < 10 → is_ascii_digit c ≡ true
is_digit c h = let r = digit_from_value c h in grind (arith, nat_tests)

digit_below : (c : ℕ) → is_ascii_digit c ≡ true → digit_value c < 10
digit_below c h = grind (arith, nat_tests)

-- digits, and then what is no digit
pub digits_len-append : (xs rest : List ℕ) → AllDigits 10 xs → digits_len rest ≡ 0 → digits_len (xs ++ rest) ≡ length xs
digits_len-append [] rest h stop = stop
digits_len-append (x ∷ xs) rest h stop = rw (is_digit x h.0, digits_len-append xs rest h.1 stop, one-add)

pub digits_len-all : (xs : List ℕ) → AllDigits 10 xs → digits_len xs ≡ length xs
digits_len-all [] h = refl
digits_len-all (x ∷ xs) h = rw (is_digit x h.0, digits_len-all xs h.1, one-add)

-- how many bytes the exponent that begins a text takes
abbrev exponent_len : List ℕ → ℕ
exponent_len rest = cond (has_exponent rest 0) (digits_end rest (exponent_start rest 0)) 0

-- an index of a text is one of what is from another index on
pub digits_end-drop : (bs : List ℕ) (b k : ℕ) → digits_end bs (b + k) ≡ b + digits_end (drop b bs) k
digits_end-drop bs b k = rw (drop-drop) (omega arith)

pub exponent_start-drop : (bs : List ℕ) (b : ℕ) → exponent_start bs b ≡ b + exponent_start (drop b bs) 0
exponent_start-drop bs b = rw (get_or-drop b bs 1 0) (by_sign (eqb (get_or bs (b + 1) 0) 45 || eqb (get_or bs (b + 1) 0) 43))
  where
    by_sign : (s : Bool) → cond s (b + 2) (b + 1) ≡ b + cond s 2 1
    by_sign true = refl
    by_sign false = refl

pub has_exponent-drop : (bs : List ℕ) (b : ℕ) → has_exponent bs b ≡ has_exponent (drop b bs) 0
has_exponent-drop bs b =
    let here : get_or bs b 0 ≡ get_or (drop b bs) 0 0 = ap (λ i. get_or bs i 0) (omega arith) ∙ sym (get_or-drop b bs 0 0) in
    let there : get_or bs (exponent_start bs b) 0 ≡ get_or (drop b bs) (exponent_start (drop b bs) 0) 0 =
    ap (λ i. get_or bs i 0) (exponent_start-drop bs b) ∙ sym (get_or-drop b bs (exponent_start (drop b bs) 0) 0) in
    λ i. (eqb (here i) 101 || eqb (here i) 69) && is_ascii_digit (there i)

exponent_len-drop : (bs : List ℕ) (b : ℕ) → cond (has_exponent bs b) (digits_end bs (exponent_start bs b)) b ≡ b + exponent_len (drop b bs)
exponent_len-drop bs b =
    let rest = drop b bs in
    ap (λ x. cond x (digits_end bs (exponent_start bs b)) b) (has_exponent-drop bs b)
    ∙ ap (λ i. cond (has_exponent rest 0) (digits_end bs i) b) (exponent_start-drop bs b)
    ∙ ap (λ n. cond (has_exponent rest 0) n b) (digits_end-drop bs b (exponent_start rest 0))
    ∙ by_has (has_exponent rest 0) (digits_end rest (exponent_start rest 0))
  where
    by_has : (h : Bool) (n : ℕ) → cond h (b + n) b ≡ b + cond h n 0
    by_has true n = refl
    by_has false n = omega arith

-- digits that reach to the end
all_digits : (xs : List ℕ) → digits_len xs ≡ length xs → AllDigits 10 xs
all_digits [] h = tt
all_digits (x ∷ xs) h =
    elim (cases_Bool (is_ascii_digit x)) [
      | inl e ↦ (digit_below x e, all_digits xs (omega (arith, rw (e, one-add) at h)))
      | inr e ↦ absurd (omega (arith, rw e at h))
    ]

numeral_of : (xs : List ℕ) → is_ascii_digit (get_or xs 0 0) ≡ true → digits_len xs ≡ length xs → IsNumeral 10 xs
numeral_of [] first h = absurd (true≢false (sym first))
numeral_of (x ∷ xs) first h = (omega arith, all_digits (x ∷ xs) h)

-- a sign that may be left out, and then digits
record IsSigned (text : List ℕ) : Type 0 where
  sign : List ℕ
  digits : List ℕ
  is_sign : Sign sign
  is_digits : IsNumeral 10 digits
  is_text : text ≡ sign ++ digits

signed_of : (c : ℕ) (cs : List ℕ) → is_ascii_digit (get_or (c ∷ cs) (exponent_start (c ∷ cs) 0) 0) ≡ true
    → digits_end (c ∷ cs) (exponent_start (c ∷ cs) 0) ≡ length (c ∷ cs) → IsSigned cs
signed_of c [] first h = absurd (true≢false (sym first))
signed_of c (d ∷ ds) first h =
    elim (cases_Bool (eqb d 45 || eqb d 43)) [
      | inl e ↦
          let digits = numeral_of ds (rw e at first) (omega (arith, rw e at h)) in
          elim (or_cases (eqb d 45) (eqb d 43) e) [
            | inl m ↦ record { sign = 45 ∷ []; digits = ds; is_sign = negative; is_digits = digits; is_text = ap (λ x. x ∷ ds) (eqb-true d 45 m) }
            | inr m ↦ record { sign = 43 ∷ []; digits = ds; is_sign = plus; is_digits = digits; is_text = ap (λ x. x ∷ ds) (eqb-true d 43 m) }
          ]
      | inr e ↦ record { sign = []; digits = d ∷ ds; is_sign = no_sign; is_digits = numeral_of (d ∷ ds) (rw e at first) (omega (arith, rw e at h)); is_text = refl }
    ]

exp_of : (rest : List ℕ) → exponent_len rest ≡ length rest → Exp rest
exp_of [] h = no_exp
exp_of (c ∷ cs) h =
    elim (cases_Bool (has_exponent (c ∷ cs) 0)) [
      | inl e ↦
          let tests = and_parts (eqb c 101 || eqb c 69) _ e in
          let s = signed_of c cs tests.1 (rw e at h) in
          elim (or_cases (eqb c 101) (eqb c 69) tests.0) [
            | inl m ↦ subst (λ x. Exp x) (sym (λ i. eqb-true c 101 m i ∷ s.is_text i)) (lower s.sign s.digits s.is_sign s.is_digits)
            | inr m ↦ subst (λ x. Exp x) (sym (λ i. eqb-true c 69 m i ∷ s.is_text i)) (upper s.sign s.digits s.is_sign s.is_digits)
          ]
      | inr e ↦ absurd (omega (arith, rw e at h))
    ]

-- what is behind the whole part: a fraction and an exponent
record IsEnding (text : List ℕ) : Type 0 where
  frac_part : List ℕ
  exp_part : List ℕ
  is_frac : Frac frac_part
  is_exp : Exp exp_part
  is_text : text ≡ frac_part ++ exp_part

get_or-below : (xs : List ℕ) (i : ℕ) → (get_or xs i 0 ≡ 0 → ⊥) → i < length xs
get_or-below xs i h = elim (cases_lt i (length xs)) [ inl lt ↦ lt | inr ge ↦ absurd (h (get_or_past xs i 0 ge)) ]

exp_at : (u : List ℕ) (b : ℕ) → b ≤ length u → b + exponent_len (drop b u) ≡ length u → Exp (drop b u)
exp_at u b within h = exp_of (drop b u) (omega (arith, length-drop b u))

ending_of : (u : List ℕ) (a : ℕ) (point : Bool) → eqb (get_or u a 0) 46 ≡ point → a ≤ length u
    → (not point || ltb 0 (length (cond point (slice_range u (a + 1) (cond point (digits_end u (a + 1)) a)) []))) ≡ true
    → cond point (digits_end u (a + 1)) a + exponent_len (drop (cond point (digits_end u (a + 1)) a) u) ≡ length u
    → IsEnding (drop a u)
ending_of u a false e within f h =
    record { frac_part = []; exp_part = drop a u; is_frac = no_frac; is_exp = exp_at u a within h; is_text = refl }
ending_of u a true e within f h =
    let dot : get_or u a 0 ≡ 46 = eqb-true (get_or u a 0) 46 e in
    let below : a < length u = get_or-below u a (λ z. absurd (omega (arith, dot, z))) in
    let behind = drop (a + 1) u in
    let n = digits_len behind in
    let end = a + 1 + n in
    let front : a + 1 + n - (a + 1) ≡ n = omega arith in
    let long = rw front at (ltb-true 0 (length (slice_range u (a + 1) end)) f) in
    let fits : end ≤ length u = omega (arith, prefix_len-le-length is_ascii_digit behind, length-drop (a + 1) u) in
    record {
      frac_part = 46 ∷ take n behind;
      exp_part = drop end u;
      is_frac = frac (take n behind) (long, digits_front behind);
      is_exp = exp_at u end fits h;
      is_text = drop-cons u a 0 below ∙ (λ i. dot i ∷ (ap (λ k. drop k u) (sym (add-one a)) ∙ sym (take-append-drop n behind) ∙ ap (λ r. take n behind ++ r) (drop-drop n (a + 1) u)) i);
    }

-- the number without its sign
record IsUnsigned (text : List ℕ) : Type 0 where
  int_part : List ℕ
  is_int : IsInt int_part
  ending : List ℕ
  is_ending : IsEnding ending
  is_text : text ≡ int_part ++ ending

zero_alone : (xs : List ℕ) → (eqb (length xs) 1 || not (eqb (get_or xs 0 0) 48)) ≡ true → get_or xs 0 0 ≡ 48 → length xs ≡ 1
zero_alone xs h first = grind (arith, nat_tests)

digits_end-le : (u : List ℕ) → digits_end u 0 ≤ length u
digits_end-le u = omega (arith, prefix_len-le-length is_ascii_digit u)

cut_at : (a : ℕ) (u : List ℕ) → u ≡ take (a - 0) u ++ drop a u
cut_at a u = rw sub-zero (sym (take-append-drop a u))

unsigned_of : (u : List ℕ) → is_decimal_of (scan_numeral u) (length u) ≡ true → IsUnsigned u
unfolding scan_numeral
unsigned_of u h =
    let a = digits_end u 0 in
    let point = eqb (get_or u a 0) 46 in
    let b = cond point (digits_end u (a + 1)) a in
    let whole = slice_range u 0 a in
    let all = and_parts _ _ h in
    let front = and_parts _ _ all.0 in
    let int = and_parts _ _ front.0 in
    let len = sym (exponent_len-drop u b) ∙ eqb-true _ _ all.1 in
    record {
      int_part = whole;
      is_int = record { digits = (ltb-true 0 (length whole) int.0, run_digits u 0); zero_alone = zero_alone whole int.1 };
      ending = drop a u;
      is_ending = ending_of u a point refl (digits_end-le u) front.1 len;
      is_text = cut_at a u;
    }

-- The other way: what an exponent, a fraction and a whole part make of a scan.
plain_exponent : (c d : ℕ) (ds : List ℕ) → (eqb c 101 || eqb c 69) ≡ true → AllDigits 10 (d ∷ ds) → exponent_len (c ∷ d ∷ ds) ≡ length (c ∷ d ∷ ds)
plain_exponent c d ds mark all =
    let no_sign : (eqb d 45 || eqb d 43) ≡ false = let r = digit_from_value d all.0 in grind (arith, nat_tests) in
    rw (mark, no_sign, is_digit d all.0) (omega (arith, digits_len-all ds all.1))

signed_exponent : (c s d : ℕ) (ds : List ℕ) → (eqb c 101 || eqb c 69) ≡ true → (eqb s 45 || eqb s 43) ≡ true → AllDigits 10 (d ∷ ds)
    → exponent_len (c ∷ s ∷ d ∷ ds) ≡ length (c ∷ s ∷ d ∷ ds)
signed_exponent c s d ds mark sign all =
    rw (mark, sign, is_digit d all.0) (omega (arith, digits_len-all ds all.1))

marked_exponent : (c : ℕ) (sign digits : List ℕ) → (eqb c 101 || eqb c 69) ≡ true → Sign sign → IsNumeral 10 digits
    → exponent_len (c ∷ (sign ++ digits)) ≡ length (c ∷ (sign ++ digits))
marked_exponent c sign [] mark s n = absurd (omega (arith, n.0))
marked_exponent c sign (d ∷ ds) mark no_sign n = plain_exponent c d ds mark n.1
marked_exponent c sign (d ∷ ds) mark plus n = signed_exponent c 43 d ds mark refl n.1
marked_exponent c sign (d ∷ ds) mark negative n = signed_exponent c 45 d ds mark refl n.1

exponent_len-Exp : (rest : List ℕ) → Exp rest → exponent_len rest ≡ length rest
exponent_len-Exp rest no_exp = refl
exponent_len-Exp rest (lower sign digits s n) = marked_exponent 101 sign digits refl s n
exponent_len-Exp rest (upper sign digits s n) = marked_exponent 69 sign digits refl s n

-- an exponent begins with no digit and no point
pub exp_stops : (rest : List ℕ) → Exp rest → (digits_len rest ≡ 0) × (eqb (get_or rest 0 0) 46 ≡ false)
exp_stops rest no_exp = (refl, refl)
exp_stops rest (lower sign digits s n) = (refl, refl)
exp_stops rest (upper sign digits s n) = (refl, refl)

-- what the scan says about a text, from what is in it
abbrev is_read : List ℕ → Bool → List ℕ → ℕ → ℕ → Bool
is_read whole point fraction len all =
    ((ltb 0 (length whole) && (eqb (length whole) 1 || not (eqb (get_or whole 0 0) 48))) && (not point || ltb 0 (length fraction))) && eqb len all

int_test : (whole : List ℕ) → IsInt whole → (ltb 0 (length whole) && (eqb (length whole) 1 || not (eqb (get_or whole 0 0) 48))) ≡ true
int_test whole i =
    elim (cases_Bool (eqb (get_or whole 0 0) 48)) [
      | inl e ↦ rw (lt-ltb 0 (length whole) i.digits.0, i.zero_alone (eqb-true _ 48 e))
      | inr e ↦ rw (lt-ltb 0 (length whole) i.digits.0, e, or-true)
    ]

is_read-plain : (whole : List ℕ) (all : ℕ) → IsInt whole → is_read whole false [] all all ≡ true
is_read-plain whole all i = rw (int_test whole i, eq-eqb all all refl)

is_read-point : (whole digits : List ℕ) (all : ℕ) → IsInt whole → 0 < length digits → is_read whole true digits all all ≡ true
is_read-point whole digits all i long = rw (int_test whole i, eq-eqb all all refl, lt-ltb 0 (length digits) long)

scan_plain : (u : List ℕ) (a : ℕ) → digits_end u 0 ≡ a → eqb (get_or u a 0) 46 ≡ false
    → is_decimal_of (scan_numeral u) (length u) ≡ is_read (slice_range u 0 a) false [] (cond (has_exponent u a) (digits_end u (exponent_start u a)) a) (length u)
unfolding scan_numeral
scan_plain u a e p = rw (e, p)

scan_point : (u : List ℕ) (a b : ℕ) → digits_end u 0 ≡ a → eqb (get_or u a 0) 46 ≡ true → digits_end u (a + 1) ≡ b
    → is_decimal_of (scan_numeral u) (length u) ≡ is_read (slice_range u 0 a) true (slice_range u (a + 1) b) (cond (has_exponent u b) (digits_end u (exponent_start u b)) b) (length u)
unfolding scan_numeral
scan_point u a b e p d = rw (e, p, d)

-- the text behind the whole part
pub behind : (int rest : List ℕ) → drop (length int) (int ++ rest) ≡ rest
behind int rest = drop_at int rest (length int) refl

pub first_behind : (int rest : List ℕ) → get_or (int ++ rest) (length int) 0 ≡ get_or rest 0 0
first_behind int rest =
    let at : get_or (drop (length int) (int ++ rest)) 0 0 ≡ get_or (int ++ rest) (length int) 0 =
    get_or-drop (length int) (int ++ rest) 0 0 ∙ ap (λ i. get_or (int ++ rest) i 0) (omega arith) in
    sym at ∙ ap (λ r. get_or r 0 0) (behind int rest)

pub whole_front : (int rest : List ℕ) → slice_range (int ++ rest) 0 (length int) ≡ int
whole_front int rest = rw sub-zero (take_at int rest (length int) refl)

read_plain : (int rest : List ℕ) → IsInt int → Exp rest → is_decimal_of (scan_numeral (int ++ rest)) (length (int ++ rest)) ≡ true
read_plain int rest i x =
    let u = int ++ rest in
    let n = length int in
    let ends : digits_end u 0 ≡ n = omega (arith, digits_len-append int rest i.digits.1 (exp_stops rest x).0) in
    let no_point : eqb (get_or u n 0) 46 ≡ false = ap (λ c. eqb c 46) (first_behind int rest) ∙ (exp_stops rest x).1 in
    let tail : exponent_len (drop n u) ≡ length rest = ap exponent_len (behind int rest) ∙ exponent_len-Exp rest x in
    let len : cond (has_exponent u n) (digits_end u (exponent_start u n)) n ≡ length u = exponent_len-drop u n ∙ omega (arith, tail, length-append int rest) in
    scan_plain u n ends no_point ∙ (λ j. is_read (whole_front int rest j) false [] (len j) (length u)) ∙ is_read-plain int (length u) i

read_point : (int digits rest : List ℕ) → IsInt int → IsNumeral 10 digits → Exp rest
    → is_decimal_of (scan_numeral (int ++ 46 ∷ (digits ++ rest))) (length (int ++ 46 ∷ (digits ++ rest))) ≡ true
read_point int digits rest i d x =
    let u = int ++ 46 ∷ (digits ++ rest) in
    let n = length int in
    let b = n + 1 + length digits in
    let ends : digits_end u 0 ≡ n = omega (arith, digits_len-append int (46 ∷ (digits ++ rest)) i.digits.1 refl) in
    let is_point : eqb (get_or u n 0) 46 ≡ true = ap (λ c. eqb c 46) (first_behind int (46 ∷ (digits ++ rest))) in
    let after : drop (n + 1) u ≡ digits ++ rest = sym (drop-drop 1 n u) ∙ ap (λ r. drop 1 r) (behind int (46 ∷ (digits ++ rest))) in
    let count : digits_len (drop (n + 1) u) ≡ length digits = ap digits_len after ∙ digits_len-append digits rest d.1 (exp_stops rest x).0 in
    let next : digits_end u (n + 1) ≡ b = omega (arith, count) in
    let front : b - (n + 1) ≡ length digits = omega arith in
    let fraction : slice_range u (n + 1) b ≡ digits = rw (front, after) (take_at digits rest (length digits) refl) in
    let last : drop b u ≡ rest = sym (drop-drop (length digits) (n + 1) u) ∙ ap (λ r. drop (length digits) r) after ∙ behind digits rest in
    let tail : exponent_len (drop b u) ≡ length rest = ap exponent_len last ∙ exponent_len-Exp rest x in
    let len : cond (has_exponent u b) (digits_end u (exponent_start u b)) b ≡ length u =
    exponent_len-drop u b ∙ omega (arith, tail, length-append int (46 ∷ (digits ++ rest)), length-append digits rest) in
    scan_point u n b ends is_point next ∙ (λ j. is_read (whole_front int (46 ∷ (digits ++ rest)) j) true (fraction j) (len j) (length u)) ∙ is_read-point int digits (length u) i d.0

read_unsigned : (int ending rest : List ℕ) → IsInt int → Frac ending → Exp rest
    → is_decimal_of (scan_numeral (int ++ (ending ++ rest))) (length (int ++ (ending ++ rest))) ≡ true
read_unsigned int ending rest i no_frac x = read_plain int rest i x
read_unsigned int ending rest i (frac digits d) x = read_point int digits rest i d x

-- the first digit is no `-`
pub no_sign_first : (int rest : List ℕ) → IsInt int → is_negative (int ++ rest) ≡ false
no_sign_first [] rest i = absurd (omega (arith, i.digits.0))
no_sign_first (c ∷ cs) rest i = let r = digit_from_value c i.digits.1.0 in grind (arith, nat_tests)

read_signed : (sign int ending rest : List ℕ) → Minus sign → IsInt int → Frac ending → Exp rest → is_decimal (sign ++ (int ++ (ending ++ rest))) ≡ true
read_signed sign int ending rest no_minus i f x = rw (no_sign_first int (ending ++ rest) i) (read_unsigned int ending rest i f x)
read_signed sign int ending rest minus i f x = read_unsigned int ending rest i f x

pub IsNumber-is_decimal : (token : List ℕ) → IsNumber token → is_decimal token ≡ true
IsNumber-is_decimal token n =
    ap is_decimal n.is_text ∙ read_signed n.minus_part n.int_part n.frac_part n.exp_part n.is_minus n.is_int n.is_frac n.is_exp

number_with : (sign u token : List ℕ) → Minus sign → token ≡ sign ++ u → IsUnsigned u → IsNumber token
number_with sign u token m e n = record {
  minus_part = sign;
  int_part = n.int_part;
  frac_part = n.is_ending.frac_part;
  exp_part = n.is_ending.exp_part;
  is_minus = m;
  is_int = n.is_int;
  is_frac = n.is_ending.is_frac;
  is_exp = n.is_ending.is_exp;
  is_text = e ∙ ap (λ r. sign ++ r) (n.is_text ∙ ap (λ r. n.int_part ++ r) n.is_ending.is_text);
}

pub is_decimal-IsNumber : (token : List ℕ) → is_decimal token ≡ true → IsNumber token
is_decimal-IsNumber [] h = number_with [] [] [] no_minus refl (unsigned_of [] h)
is_decimal-IsNumber (c ∷ cs) h =
    elim (cases_Bool (eqb c 45)) [
      | inl e ↦ number_with (45 ∷ []) cs (c ∷ cs) minus (ap (λ x. x ∷ cs) (eqb-true c 45 e)) (unsigned_of cs (rw e at h))
      | inr e ↦ number_with [] (c ∷ cs) (c ∷ cs) no_minus refl (unsigned_of (c ∷ cs) (rw e at h))
    ]
