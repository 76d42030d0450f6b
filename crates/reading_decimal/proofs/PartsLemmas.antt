-- The parts that the scan of a number gives are those that the grammar writes.
use Rattle.std.{proofs.Common.{◌≡◌, ℕ, ◌+◌, ◌-◌, Bool, true, false, cond, ◌&&◌, ◌||◌, eqb, List, [], ◌∷◌, ◌++◌, length, get_or, take, drop, slice_range, refl, sym, ap, ◌∙◌, arith, take_all}, proofs.lemmas.Bool.Decides.nat_tests, proofs.lemmas.List.{get_or-drop, drop-drop, take_at}, proofs.lemmas.Str.Parse.digit_from_value, specs.Str.Parse.{AllDigits, IsNumeral}, specs.Float.Numeral.{Parts, scan_numeral, digits_len, digits_end, exponent_start, has_exponent}}
use Rattle.reading_decimal.{specs.Grammar.{Minus, no_minus, minus, IsInt, Frac, no_frac, frac, Sign, no_sign, plus, negative, Exp, no_exp, lower, upper, IsNumber, frac_digits, is_negative_sign, exp_digits, is_negative_exp}, specs.Decimal.parts, specs.Laws.AreWritten, proofs.GrammarLemmas.{is_digit, digits_len-append, digits_len-all, exponent_start-drop, has_exponent-drop, digits_end-drop, exp_stops, behind, first_behind, whole_front, no_sign_first}}

-- the digits behind a front are read from there to the end
digits_behind : (front digits : List ℕ) → AllDigits 10 digits → slice_range (front ++ digits) (length front) (digits_end (front ++ digits) (length front)) ≡ digits
digits_behind front digits all =
    let there : drop (length front) (front ++ digits) ≡ digits = behind front digits in
    let count : digits_end (front ++ digits) (length front) - length front ≡ length digits = omega (arith, ap digits_len there ∙ digits_len-all digits all) in
    ap (λ n. take n (drop (length front) (front ++ digits))) count ∙ ap (take (length digits)) there ∙ take_all (length digits) digits (omega arith)

-- the digits of the exponent that is at a place, and whether its sign is `-`
abbrev exponent_at : List ℕ → ℕ → List ℕ
exponent_at u b = cond (has_exponent u b) (slice_range u (exponent_start u b) (digits_end u (exponent_start u b))) []

abbrev negative_at : List ℕ → ℕ → Bool
negative_at u b = has_exponent u b && eqb (get_or u (b + 1) 0) 45

-- what is read from a place on is read of what is there
slice_behind : (u : List ℕ) (b i j : ℕ) → slice_range u (b + i) (b + j) ≡ slice_range (drop b u) i j
slice_behind u b i j =
    let count : (b + j) - (b + i) ≡ j - i = omega arith in
    ap (λ n. take n (drop (b + i) u)) count ∙ ap (take (j - i)) (sym (drop-drop i b u))

exponent_at-drop : (u : List ℕ) (b : ℕ) → exponent_at u b ≡ exponent_at (drop b u) 0
exponent_at-drop u b =
    let rest = drop b u in
    let start = exponent_start rest 0 in
    ap (λ h. cond h (slice_range u (exponent_start u b) (digits_end u (exponent_start u b))) []) (has_exponent-drop u b)
    ∙ ap (λ i. cond (has_exponent rest 0) (slice_range u i (digits_end u i)) []) (exponent_start-drop u b)
    ∙ ap (λ e. cond (has_exponent rest 0) (slice_range u (b + start) e) []) (digits_end-drop u b start)
    ∙ ap (λ s. cond (has_exponent rest 0) s []) (slice_behind u b start (digits_end rest start))

negative_at-drop : (u : List ℕ) (b : ℕ) → negative_at u b ≡ negative_at (drop b u) 0
negative_at-drop u b = λ i. has_exponent-drop u b i && eqb (sym (get_or-drop b u 1 0) i) 45

-- an exponent's digits behind its mark and its sign
marked_parts : (c : ℕ) (sign digits : List ℕ) → (eqb c 101 || eqb c 69) ≡ true → (s : Sign sign) → IsNumeral 10 digits
    → (exponent_at (c ∷ (sign ++ digits)) 0 ≡ digits) × (negative_at (c ∷ (sign ++ digits)) 0 ≡ is_negative_sign s)
marked_parts c sign [] mark s n = absurd (omega (arith, n.0))
marked_parts c sign (d ∷ ds) mark no_sign n =
    let rest = c ∷ d ∷ ds in
    let r = digit_from_value d n.1.0 in
    let unsigned : (eqb d 45 || eqb d 43) ≡ false = grind (arith, nat_tests) in
    let no_minus : eqb d 45 ≡ false = grind (arith, nat_tests) in
    let has : has_exponent rest 0 ≡ true = rw (mark, unsigned) (is_digit d n.1.0) in
    let start : exponent_start rest 0 ≡ 1 = rw unsigned refl in (
      ap (λ h. cond h (slice_range rest (exponent_start rest 0) (digits_end rest (exponent_start rest 0))) []) has
          ∙ ap (λ i. slice_range rest i (digits_end rest i)) start ∙ digits_behind (c ∷ []) (d ∷ ds) n.1,
      ap (λ h. h && eqb d 45) has ∙ no_minus,
    )
marked_parts c sign (d ∷ ds) mark plus n =
    let rest = c ∷ 43 ∷ d ∷ ds in
    let has : has_exponent rest 0 ≡ true = rw mark (is_digit d n.1.0) in (
      ap (λ h. cond h (slice_range rest 2 (digits_end rest 2)) []) has ∙ digits_behind (c ∷ 43 ∷ []) (d ∷ ds) n.1,
      ap (λ h. h && false) has,
    )
marked_parts c sign (d ∷ ds) mark negative n =
    let rest = c ∷ 45 ∷ d ∷ ds in
    let has : has_exponent rest 0 ≡ true = rw mark (is_digit d n.1.0) in (
      ap (λ h. cond h (slice_range rest 2 (digits_end rest 2)) []) has ∙ digits_behind (c ∷ 45 ∷ []) (d ∷ ds) n.1,
      ap (λ h. h && true) has,
    )

exp_parts : (rest : List ℕ) (x : Exp rest) → (exponent_at rest 0 ≡ exp_digits x) × (negative_at rest 0 ≡ is_negative_exp x)
exp_parts rest no_exp = (refl, refl)
exp_parts rest (lower sign digits s n) = marked_parts 101 sign digits refl s n
exp_parts rest (upper sign digits s n) = marked_parts 69 sign digits refl s n

-- the parts of a scan that are the grammar's
record AreRead (p : Parts) (int : List ℕ) {ending : List ℕ} (f : Frac ending) {rest : List ℕ} (x : Exp rest) : Type 0 where
  whole : p.whole ≡ int
  fraction : p.fraction ≡ frac_digits f
  exponent : p.exponent ≡ exp_digits x
  exponent_negative : p.exponent_negative ≡ is_negative_exp x

-- the scan of digits without a point
scan_whole : (u : List ℕ) → (scan_numeral u).whole ≡ slice_range u 0 (digits_end u 0)
unfolding scan_numeral
scan_whole u = refl

plain_fraction : (u : List ℕ) → eqb (get_or u (digits_end u 0) 0) 46 ≡ false → (scan_numeral u).fraction ≡ []
unfolding scan_numeral
plain_fraction u p = rw p refl

plain_exponent : (u : List ℕ) → eqb (get_or u (digits_end u 0) 0) 46 ≡ false → (scan_numeral u).exponent ≡ exponent_at u (digits_end u 0)
unfolding scan_numeral
plain_exponent u p = rw p refl

plain_negative : (u : List ℕ) → eqb (get_or u (digits_end u 0) 0) 46 ≡ false → (scan_numeral u).exponent_negative ≡ negative_at u (digits_end u 0)
unfolding scan_numeral
plain_negative u p = rw p refl

-- the scan of digits, a point and digits
point_fraction : (u : List ℕ) → eqb (get_or u (digits_end u 0) 0) 46 ≡ true → (scan_numeral u).fraction ≡ slice_range u (digits_end u 0 + 1) (digits_end u (digits_end u 0 + 1))
unfolding scan_numeral
point_fraction u p = rw p refl

point_exponent : (u : List ℕ) → eqb (get_or u (digits_end u 0) 0) 46 ≡ true → (scan_numeral u).exponent ≡ exponent_at u (digits_end u (digits_end u 0 + 1))
unfolding scan_numeral
point_exponent u p = rw p refl

point_negative : (u : List ℕ) → eqb (get_or u (digits_end u 0) 0) 46 ≡ true → (scan_numeral u).exponent_negative ≡ negative_at u (digits_end u (digits_end u 0 + 1))
unfolding scan_numeral
point_negative u p = rw p refl

plain_parts : (int rest : List ℕ) → IsInt int → (x : Exp rest) → AreRead (scan_numeral (int ++ rest)) int no_frac x
plain_parts int rest i x =
    let u = int ++ rest in
    let ends : digits_end u 0 ≡ length int = omega (arith, digits_len-append int rest i.digits.1 (exp_stops rest x).0) in
    let no_point : eqb (get_or u (digits_end u 0) 0) 46 ≡ false = ap (λ n. eqb (get_or u n 0) 46) ends ∙ ap (λ c. eqb c 46) (first_behind int rest) ∙ (exp_stops rest x).1 in
    let last : drop (digits_end u 0) u ≡ rest = ap (λ n. drop n u) ends ∙ behind int rest in
    let read = exp_parts rest x in
    record {
      whole = scan_whole u ∙ ap (slice_range u 0) ends ∙ whole_front int rest;
      fraction = plain_fraction u no_point;
      exponent = plain_exponent u no_point ∙ exponent_at-drop u (digits_end u 0) ∙ ap (λ r. exponent_at r 0) last ∙ read.0;
      exponent_negative = plain_negative u no_point ∙ negative_at-drop u (digits_end u 0) ∙ ap (λ r. negative_at r 0) last ∙ read.1;
    }

point_parts : (int digits rest : List ℕ) → IsInt int → (d : IsNumeral 10 digits) → (x : Exp rest) → AreRead (scan_numeral (int ++ 46 ∷ (digits ++ rest))) int (frac digits d) x
point_parts int digits rest i d x =
    let u = int ++ 46 ∷ (digits ++ rest) in
    let n = length int in
    let ends : digits_end u 0 ≡ n = omega (arith, digits_len-append int (46 ∷ (digits ++ rest)) i.digits.1 refl) in
    let is_point : eqb (get_or u (digits_end u 0) 0) 46 ≡ true = ap (λ n. eqb (get_or u n 0) 46) ends ∙ ap (λ c. eqb c 46) (first_behind int (46 ∷ (digits ++ rest))) in
    let after : drop (n + 1) u ≡ digits ++ rest = sym (drop-drop 1 n u) ∙ ap (λ r. drop 1 r) (behind int (46 ∷ (digits ++ rest))) in
    let count : digits_len (drop (n + 1) u) ≡ length digits = ap digits_len after ∙ digits_len-append digits rest d.1 (exp_stops rest x).0 in
    let next : digits_end u (digits_end u 0 + 1) ≡ n + 1 + length digits = ap (λ k. digits_end u (k + 1)) ends ∙ omega (arith, count) in
    let front : (n + 1 + length digits) - (n + 1) ≡ length digits = omega arith in
    let last : drop (digits_end u (digits_end u 0 + 1)) u ≡ rest = ap (λ k. drop k u) next ∙ sym (drop-drop (length digits) (n + 1) u) ∙ ap (λ r. drop (length digits) r) after ∙ behind digits rest in
    let read = exp_parts rest x in
    record {
      whole = scan_whole u ∙ ap (slice_range u 0) ends ∙ whole_front int (46 ∷ (digits ++ rest));
      fraction = point_fraction u is_point ∙ (λ j. slice_range u (ends j + 1) (next j)) ∙ ap (λ k. take k (drop (n + 1) u)) front
          ∙ ap (take (length digits)) after ∙ take_at digits rest (length digits) refl;
      exponent = point_exponent u is_point ∙ exponent_at-drop u (digits_end u (digits_end u 0 + 1)) ∙ ap (λ r. exponent_at r 0) last ∙ read.0;
      exponent_negative = point_negative u is_point ∙ negative_at-drop u (digits_end u (digits_end u 0 + 1)) ∙ ap (λ r. negative_at r 0) last ∙ read.1;
    }

unsigned_parts : (int ending rest : List ℕ) → IsInt int → (f : Frac ending) → (x : Exp rest) → AreRead (scan_numeral (int ++ (ending ++ rest))) int f x
unsigned_parts int ending rest i no_frac x = plain_parts int rest i x
unsigned_parts int ending rest i (frac digits d) x = point_parts int digits rest i d x

signed_parts : (sign int ending rest : List ℕ) → Minus sign → IsInt int → (f : Frac ending) → (x : Exp rest) → AreRead (parts (sign ++ (int ++ (ending ++ rest)))) int f x
signed_parts sign int ending rest no_minus i f x = rw (no_sign_first int (ending ++ rest) i) (unsigned_parts int ending rest i f x)
signed_parts sign int ending rest minus i f x = unsigned_parts int ending rest i f x

pub parts-AreWritten : (token : List ℕ) (written : IsNumber token) → AreWritten token written (parts token)
parts-AreWritten token written =
    let read = signed_parts written.minus_part written.int_part written.frac_part written.exp_part written.is_minus written.is_int written.is_frac written.is_exp in
    let same : parts token ≡ parts (written.minus_part ++ (written.int_part ++ (written.frac_part ++ written.exp_part))) = ap parts written.is_text in
    record {
      whole = ap (λ p. p.whole) same ∙ read.whole;
      fraction = ap (λ p. p.fraction) same ∙ read.fraction;
      exponent = ap (λ p. p.exponent) same ∙ read.exponent;
      exponent_negative = ap (λ p. p.exponent_negative) same ∙ read.exponent_negative;
    }
