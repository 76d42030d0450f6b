-- The number grammar of RFC 8259 and the test for it agree.
use Rattle.std.{proofs.Common.{◌≡◌, ◌<◌, ◌+◌, ℕ, suc, Bool, true, false, cond, eqb, List, [], ◌∷◌, ◌++◌, take, drop, length, get_or, Option, Some, None, option_and_then, refl, ap, sym, ◌∙◌, inl, inr, ◌⊎◌, ◌||◌, arith, append_assoc, append-nil}, specs.List.{prefix_len, list_all}, proofs.lemmas.Bool.{and_parts, and_from, or_cases, cond-true, cond-false, eqb-true, ne_eqb, eqb-false}, proofs.lemmas.Bool.Decides.nat_tests, proofs.lemmas.List.{take-append-drop, length-take}, proofs.Math.Seq.drop-append_seam, proofs.lemmas.List.Sums.{AllPass-from_list_all, list_all-from_AllPass, prefix_len-le-length}}
use Rattle.marked_json.specs.Number.{is_digit, IsDigits, IsSign, IsWhole, IsFraction, IsExponentMark, IsExponentSign, IsExponent, IsNumber, after_digits, after_sign, after_whole, after_fraction, after_exponent_sign, after_exponent, is_all, is_number}

-- ---- a token that passes the test has the four parts

-- the text is a part and the rest
abbrev Front : (List ℕ → Type 0) → List ℕ → List ℕ → Type 0
Front Is cs rest = (part : List ℕ) × Is part × (cs ≡ part ++ rest)

one_more-take : (n c : ℕ) (cs : List ℕ) → take (1 + n) (c ∷ cs) ≡ c ∷ take n cs
one_more-take n c cs = let e : 1 + n ≡ suc n = omega arith in rw e refl

list_all-take_prefix : (p : ℕ → Bool) (cs : List ℕ) → list_all p (take (prefix_len p cs) cs) ≡ true
list_all-take_prefix p [] = refl
list_all-take_prefix p (c ∷ cs) = by_test (p c) refl (list_all-take_prefix p cs) where
  by_test : (b : Bool) → p c ≡ b → list_all p (take (prefix_len p cs) cs) ≡ true → list_all p (take (cond b (1 + prefix_len p cs) 0) (c ∷ cs)) ≡ true
  by_test true h more = rw (one_more-take (prefix_len p cs) c cs) (and_from (p c) _ h more)
  by_test false h more = refl

after_digits-front : (cs rest : List ℕ) → after_digits cs ≡ Some rest → Front IsDigits cs rest
after_digits-front cs rest = by_test (eqb (prefix_len is_digit cs) 0) refl where
  by_test : (b : Bool) → eqb (prefix_len is_digit cs) 0 ≡ b → cond b None (Some (drop (prefix_len is_digit cs) cs)) ≡ Some rest → Front IsDigits cs rest
  by_test true none h = cc
  by_test false some h =
      let n = prefix_len is_digit cs in
      let bound = prefix_len-le-length is_digit cs in
      let above : 0 < n = grind (arith, nat_tests) in
      let left : drop n cs ≡ rest = cc in
      let digits : IsDigits (take n cs) = record {
        some_digit = omega (arith, length-take n cs);
        all_digits = AllPass-from_list_all is_digit (take n cs) (list_all-take_prefix is_digit cs);
      } in
      (take n cs, digits, sym (take-append-drop n cs) ∙ ap (λ l. take n cs ++ l) left)

after_sign-front : (cs : List ℕ) → Front IsSign cs (after_sign cs)
after_sign-front [] = ([], inl refl, refl)
after_sign-front (c ∷ cs) = by_test (eqb c 45) refl where
  by_test : (b : Bool) → eqb c 45 ≡ b → Front IsSign (c ∷ cs) (cond b cs (c ∷ cs))
  by_test true h = (45 ∷ [], inr refl, ap (λ d. d ∷ cs) (eqb-true c 45 h))
  by_test false h = ([], inl refl, refl)

first_of_front : (c : ℕ) (cs part rest : List ℕ) → 0 < length part → c ∷ cs ≡ part ++ rest → get_or part 0 0 ≡ c
first_of_front c cs [] rest some e = absurd (omega arith)
first_of_front c cs (d ∷ ds) rest some e = cc

after_whole-front : (cs rest : List ℕ) → after_whole cs ≡ Some rest → Front IsWhole cs rest
after_whole-front [] rest h = cc
after_whole-front (c ∷ cs) rest h = by_test (eqb c 48) refl h where
  by_test : (b : Bool) → eqb c 48 ≡ b → cond b (Some cs) (after_digits (c ∷ cs)) ≡ Some rest → Front IsWhole (c ∷ cs) rest
  by_test true zero h = let e : cs ≡ rest = cc in (48 ∷ [], inl refl, ap (λ d. d ∷ cs) (eqb-true c 48 zero) ∙ ap (λ l. 48 ∷ l) e)
  by_test false other h =
      let front = after_digits-front (c ∷ cs) rest h in
      let first = first_of_front c cs front.0 rest front.1.some_digit front.2 in
      (front.0, inr (front.1, λ zero. eqb-false c 48 other (sym first ∙ zero)), front.2)

after_fraction-front : (cs rest : List ℕ) → after_fraction cs ≡ Some rest → Front IsFraction cs rest
after_fraction-front [] rest h = let e : [] ≡ rest = cc in ([], inl refl, e)
after_fraction-front (c ∷ cs) rest h = by_test (eqb c 46) refl h where
  by_test : (b : Bool) → eqb c 46 ≡ b → cond b (after_digits cs) (Some (c ∷ cs)) ≡ Some rest → Front IsFraction (c ∷ cs) rest
  by_test true point h =
      let front = after_digits-front cs rest h in
      (46 ∷ front.0, inr (front.0, front.1, refl), ap (λ d. d ∷ cs) (eqb-true c 46 point) ∙ ap (λ l. 46 ∷ l) front.2)
  by_test false other h = let e : c ∷ cs ≡ rest = cc in ([], inl refl, e)

exponent_mark : (c : ℕ) → eqb c 101 || eqb c 69 ≡ true → IsExponentMark c
exponent_mark c h = by_case (or_cases (eqb c 101) (eqb c 69) h) where
  by_case : (eqb c 101 ≡ true) ⊎ (eqb c 69 ≡ true) → IsExponentMark c
  by_case (inl small) = inl (eqb-true c 101 small)
  by_case (inr capital) = inr (eqb-true c 69 capital)

after_exponent_sign-front : (cs : List ℕ) → Front IsExponentSign cs (after_exponent_sign cs)
after_exponent_sign-front [] = ([], inl refl, refl)
after_exponent_sign-front (c ∷ cs) = by_test (eqb c 43 || eqb c 45) refl where
  by_case : (eqb c 43 ≡ true) ⊎ (eqb c 45 ≡ true) → (c ≡ 43) ⊎ (c ≡ 45)
  by_case (inl plus) = inl (eqb-true c 43 plus)
  by_case (inr minus) = inr (eqb-true c 45 minus)

  by_test : (b : Bool) → eqb c 43 || eqb c 45 ≡ b → Front IsExponentSign (c ∷ cs) (cond b cs (c ∷ cs))
  by_test true h = (c ∷ [], inr (c, by_case (or_cases (eqb c 43) (eqb c 45) h), refl), refl)
  by_test false h = ([], inl refl, refl)

after_exponent-front : (cs rest : List ℕ) → after_exponent cs ≡ Some rest → Front IsExponent cs rest
after_exponent-front [] rest h = let e : [] ≡ rest = cc in ([], inl refl, e)
after_exponent-front (c ∷ cs) rest h = by_test (eqb c 101 || eqb c 69) refl h where
  by_test : (b : Bool) → eqb c 101 || eqb c 69 ≡ b → cond b (after_digits (after_exponent_sign cs)) (Some (c ∷ cs)) ≡ Some rest → Front IsExponent (c ∷ cs) rest
  by_test true mark h =
      let sign = after_exponent_sign-front cs in
      let digits = after_digits-front (after_exponent_sign cs) rest h in (
        c ∷ (sign.0 ++ digits.0),
        inr (c, sign.0, digits.0, exponent_mark c mark, sign.1, digits.1, refl),
        ap (λ l. c ∷ l) (sign.2 ∙ ap (λ l. sign.0 ++ l) digits.2 ∙ sym (append_assoc sign.0 digits.0 rest)),
      )
  by_test false other h = let e : c ∷ cs ≡ rest = cc in ([], inl refl, e)

is_all-nil : (rest : List ℕ) → is_all (Some rest) ≡ true → rest ≡ []
is_all-nil [] h = refl
is_all-nil (c ∷ cs) h = absurd (omega (arith, eqb-true (length (c ∷ cs)) 0 h))

pub IsNumber-from_test : (token : List ℕ) → is_number token ≡ true → IsNumber token
IsNumber-from_test token = by_whole (after_whole (after_sign token)) refl where
  by_exponent : (whole fraction : List ℕ) (o : Option (List ℕ)) → after_whole (after_sign token) ≡ Some whole
      → after_fraction whole ≡ Some fraction → after_exponent fraction ≡ o → is_all o ≡ true → IsNumber token
  by_exponent whole fraction None w f e h = cc
  by_exponent whole fraction (Some rest) w f e h =
      let s = after_sign-front token in
      let wp = after_whole-front (after_sign token) whole w in
      let fp = after_fraction-front whole fraction f in
      let ep = after_exponent-front fraction rest e in
      let last : fraction ≡ ep.0 = ep.2 ∙ ap (λ l. ep.0 ++ l) (is_all-nil rest h) ∙ append-nil ep.0 in
      record {
        sign = s.0;
        whole = wp.0;
        fraction = fp.0;
        exponent = ep.0;
        is_sign = s.1;
        is_whole = wp.1;
        is_fraction = fp.1;
        is_exponent = ep.1;
        in_order = s.2 ∙ ap (λ l. s.0 ++ l) (wp.2 ∙ ap (λ l. wp.0 ++ l) (fp.2 ∙ ap (λ l. fp.0 ++ l) last));
      }

  by_fraction : (whole : List ℕ) (o : Option (List ℕ)) → after_whole (after_sign token) ≡ Some whole → after_fraction whole ≡ o → is_all (option_and_then after_exponent o) ≡ true → IsNumber token
  by_fraction whole None w f h = cc
  by_fraction whole (Some fraction) w f h = by_exponent whole fraction (after_exponent fraction) w f refl h

  by_whole : (o : Option (List ℕ)) → after_whole (after_sign token) ≡ o → is_all (option_and_then after_exponent (option_and_then after_fraction o)) ≡ true → IsNumber token
  by_whole None w h = cc
  by_whole (Some whole) w h = by_fraction whole (after_fraction whole) w refl h

-- ---- a token with the four parts passes the test

-- the first byte is there and passes
abbrev pub begins : (ℕ → Bool) → List ℕ → Bool
begins p [] = false
begins p (c ∷ cs) = p c

prefix_len-none : (p : ℕ → Bool) (rest : List ℕ) → begins p rest ≡ false → prefix_len p rest ≡ 0
prefix_len-none p [] h = refl
prefix_len-none p (c ∷ cs) h = cond-false (p c) _ _ h

pub prefix_len-all : (p : ℕ → Bool) (cs rest : List ℕ) → list_all p cs ≡ true → begins p rest ≡ false → prefix_len p (cs ++ rest) ≡ length cs
prefix_len-all p [] rest all stop = prefix_len-none p rest stop
prefix_len-all p (c ∷ cs) rest all stop =
    let both = and_parts (p c) (list_all p cs) all in
    let more = prefix_len-all p cs rest both.1 stop in
    let first = cond-true (p c) (1 + prefix_len p (cs ++ rest)) 0 both.0 in
    let count : 1 + prefix_len p (cs ++ rest) ≡ length (c ∷ cs) = omega arith in
    first ∙ count

after_digits-of : (digits rest : List ℕ) → IsDigits digits → begins is_digit rest ≡ false → after_digits (digits ++ rest) ≡ Some rest
after_digits-of digits rest is stop =
    let n = prefix_len-all is_digit digits rest (list_all-from_AllPass is_digit digits is.all_digits) stop in
    let above : eqb (prefix_len is_digit (digits ++ rest)) 0 ≡ false = ne_eqb _ 0 (λ e. let some = is.some_digit in absurd (omega arith)) in
    cond-false _ None (Some (drop (prefix_len is_digit (digits ++ rest)) (digits ++ rest))) above
    ∙ ap (λ k. Some (drop k (digits ++ rest))) n ∙ ap Some (drop-append_seam digits rest)

digit_is_no_minus : (c : ℕ) → is_digit c ≡ true → eqb c 45 ≡ false
digit_is_no_minus c h = grind (arith, nat_tests)

digit_is_no_sign : (c : ℕ) → is_digit c ≡ true → eqb c 43 || eqb c 45 ≡ false
digit_is_no_sign c h = grind (arith, nat_tests)

after_sign-of : (sign rest : List ℕ) → IsSign sign → begins (λ c. eqb c 45) rest ≡ false → after_sign (sign ++ rest) ≡ rest
after_sign-of sign [] (inl e) stop = rw e refl
after_sign-of sign (c ∷ cs) (inl e) stop = rw e (cond-false (eqb c 45) cs (c ∷ cs) stop)
after_sign-of sign rest (inr e) stop = rw e refl

after_whole-of : (whole rest : List ℕ) → IsWhole whole → begins is_digit rest ≡ false → after_whole (whole ++ rest) ≡ Some rest
after_whole-of whole rest (inl e) stop = rw e refl
after_whole-of [] rest (inr (is, other)) stop = let some = is.some_digit in absurd (omega arith)
after_whole-of (c ∷ cs) rest (inr (is, other)) stop =
    cond-false (eqb c 48) (Some (cs ++ rest)) (after_digits (c ∷ (cs ++ rest))) (ne_eqb c 48 other) ∙ after_digits-of (c ∷ cs) rest is stop

after_fraction-of : (fraction rest : List ℕ) → IsFraction fraction → begins is_digit rest ≡ false → begins (λ c. eqb c 46) rest ≡ false → after_fraction (fraction ++ rest) ≡ Some rest
after_fraction-of fraction [] (inl e) stop no_point = rw e refl
after_fraction-of fraction (c ∷ cs) (inl e) stop no_point = rw e (cond-false (eqb c 46) (after_digits cs) (Some (c ∷ cs)) no_point)
after_fraction-of fraction rest (inr (digits, is, e)) stop no_point = rw e (after_digits-of digits rest is stop)

after_exponent_sign-of : (sign digits : List ℕ) → IsExponentSign sign → IsDigits digits → after_exponent_sign (sign ++ digits) ≡ digits
after_exponent_sign-of sign [] (inl e) is = rw e refl
after_exponent_sign-of sign (c ∷ cs) (inl e) is = rw e (cond-false _ cs (c ∷ cs) (digit_is_no_sign c (is.all_digits 0 0 is.some_digit)))
after_exponent_sign-of sign digits (inr (c, inl plus, e)) is = rw (e, plus) refl
after_exponent_sign-of sign digits (inr (c, inr minus, e)) is = rw (e, minus) refl

after_exponent-of : (exponent : List ℕ) → IsExponent exponent → after_exponent exponent ≡ Some []
after_exponent-of exponent (inl e) = rw e refl
after_exponent-of exponent (inr (c, sign, digits, mark, s, is, e)) =
    ap after_exponent e ∙ by_mark mark ∙ ap after_digits (after_exponent_sign-of sign digits s is) ∙ ap after_digits (sym (append-nil digits)) ∙ after_digits-of digits [] is refl where
      by_mark : IsExponentMark c → after_exponent (c ∷ (sign ++ digits)) ≡ after_digits (after_exponent_sign (sign ++ digits))
      by_mark (inl small) = rw small refl
      by_mark (inr capital) = rw capital refl

begins-exponent : (p : ℕ → Bool) (exponent : List ℕ) → p 101 ≡ false → p 69 ≡ false → IsExponent exponent → begins p exponent ≡ false
begins-exponent p exponent small capital (inl e) = ap (begins p) e
begins-exponent p exponent small capital (inr (c, sign, digits, inl mark, s, is, e)) = ap (begins p) e ∙ ap p mark ∙ small
begins-exponent p exponent small capital (inr (c, sign, digits, inr mark, s, is, e)) = ap (begins p) e ∙ ap p mark ∙ capital

begins-fraction : (fraction exponent : List ℕ) → IsFraction fraction → IsExponent exponent → begins is_digit (fraction ++ exponent) ≡ false
begins-fraction fraction exponent (inl e) is = rw e (begins-exponent is_digit exponent refl refl is)
begins-fraction fraction exponent (inr (digits, d, e)) is = rw e refl

begins-whole : (whole rest : List ℕ) → IsWhole whole → begins (λ c. eqb c 45) (whole ++ rest) ≡ false
begins-whole whole rest (inl e) = rw e refl
begins-whole [] rest (inr (is, other)) = let some = is.some_digit in absurd (omega arith)
begins-whole (c ∷ cs) rest (inr (is, other)) = digit_is_no_minus c (is.all_digits 0 0 is.some_digit)

pub test_from_IsNumber : (token : List ℕ) → IsNumber token → is_number token ≡ true
test_from_IsNumber token n =
    let no_digit = begins-fraction n.fraction n.exponent n.is_fraction n.is_exponent in
    let no_point = begins-exponent (λ c. eqb c 46) n.exponent refl refl n.is_exponent in
    let no_digit_behind = begins-exponent is_digit n.exponent refl refl n.is_exponent in
    let sign = ap after_sign n.in_order ∙ after_sign-of n.sign (n.whole ++ (n.fraction ++ n.exponent)) n.is_sign (begins-whole n.whole (n.fraction ++ n.exponent) n.is_whole) in
    let whole = ap after_whole sign ∙ after_whole-of n.whole (n.fraction ++ n.exponent) n.is_whole no_digit in
    let fraction = ap (option_and_then after_fraction) whole ∙ after_fraction-of n.fraction n.exponent n.is_fraction no_digit_behind no_point in
    ap (λ o. is_all (option_and_then after_exponent o)) fraction ∙ ap is_all (after_exponent-of n.exponent n.is_exponent)
