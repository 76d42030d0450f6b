-- Strings and numbers of the text in the marked text, and in the tree.
use Rattle.std.{proofs.Common.{◌≡◌, ◌<◌, ◌/◌, ◌%◌, ℕ, Bool, true, false, cond, eqb, not, List, [], ◌∷◌, ◌++◌, length, Ok, Some, refl, ap, sym, ◌∙◌, arith, append-nil, take, drop, get_or, inl, inr, option_and_then, ◌&&◌, ltb}, specs.List.{list_all, prefix_len}, proofs.Math.Seq.drop-length, proofs.lemmas.List.take_all, proofs.lemmas.List.Sums.list_all-from_AllPass, specs.Char.digit_char, proofs.lemmas.Bool.{and_parts, and_from, cond-false}, proofs.lemmas.Bool.Decides.nat_tests}
use Rattle.json.{specs.Token.Token, specs.Lex.tokens, specs.Print.{escape_byte, escape_letter, escape, quoted, ArePrintable}, proofs.Printed.Tokens.tokens-print}
use Rattle.json.specs.Json as json
use Rattle.serde_json.{specs.Data.string, specs.Read.{read, max_depth, of_json}, specs.Written.compact_text, proofs.Texts.print-outline}
use Rattle.marked_json.{specs.Marking.{outside, in_string, after_backslash, with_front, marked, begins_number, goes_on_number}, specs.Number.{is_digit, IsDigits, IsSign, IsWhole, IsFraction, IsExponentSign, IsExponent, IsNumber}, specs.Reading.{marked_reading, tree_of, tree_or_fault}, specs.Strings.{is_content_after, is_content}, proofs.Grammar.{prefix_len-all, test_from_IsNumber}, proofs.Marks.{with_front-with_front, with_front-nil, place_of, completed-token, marked_token-good}}

content_step : (c : ℕ) (cs rest : List ℕ) (q s : Bool) → not q && is_content_after s cs ≡ true
    → (is_content_after s cs ≡ true → marked (place_of s) (cs ++ 34 ∷ rest) ≡ with_front (cs ++ 34 ∷ []) (marked outside rest))
    → with_front (c ∷ []) (cond q (marked outside (cs ++ 34 ∷ rest)) (cond s (marked after_backslash (cs ++ 34 ∷ rest)) (marked in_string (cs ++ 34 ∷ rest))))
    ≡ with_front (c ∷ (cs ++ 34 ∷ [])) (marked outside rest)
content_step c cs rest true s h more = cc
content_step c cs rest false true h more = ap (with_front (c ∷ [])) (more h) ∙ with_front-with_front (c ∷ []) (cs ++ 34 ∷ []) (marked outside rest)
content_step c cs rest false false h more = ap (with_front (c ∷ [])) (more h) ∙ with_front-with_front (c ∷ []) (cs ++ 34 ∷ []) (marked outside rest)

-- the content of a string is copied
pub marked-content : (escaped : Bool) (content rest : List ℕ) → is_content_after escaped content ≡ true
    → marked (place_of escaped) (content ++ 34 ∷ rest) ≡ with_front (content ++ 34 ∷ []) (marked outside rest)
unfolding marked
marked-content true [] rest h = cc
marked-content false [] rest h = refl
marked-content true (c ∷ cs) rest h = ap (with_front (c ∷ [])) (marked-content false cs rest h) ∙ with_front-with_front (c ∷ []) (cs ++ 34 ∷ []) (marked outside rest)
marked-content false (c ∷ cs) rest h = content_step c cs rest (eqb c 34) (eqb c 92) h (marked-content (eqb c 92) cs rest)

pub marked-quoted : (content rest : List ℕ) → is_content content ≡ true → marked outside (34 ∷ (content ++ 34 ∷ rest)) ≡ with_front (34 ∷ 36 ∷ (content ++ 34 ∷ [])) (marked outside rest)
unfolding marked
marked-quoted content rest h = ap (with_front (34 ∷ 36 ∷ [])) (marked-content false content rest h) ∙ with_front-with_front (34 ∷ 36 ∷ []) (content ++ 34 ∷ []) (marked outside rest)

-- a string that is written is read back
read-quoted : (s : List ℕ) → read (quoted s) ≡ Some (string s)
unfolding ArePrintable json.value
read-quoted s =
    let same : tokens (quoted s) ≡ Token.string s ∷ [] = ap tokens (sym (print-outline (string s))) ∙ tokens-print (Token.string s ∷ []) (tt, tt) in
    ap (λ ts. option_and_then of_json (option_and_then (λ p. json.if_last p.0 p.1) (json.value max_depth ts))) same

digit_is_content : (d : ℕ) → (eqb (digit_char d) 34 ≡ false) × (eqb (digit_char d) 92 ≡ false)
digit_is_content d = (grind (arith, nat_tests), grind (arith, nat_tests))

plain_step : (c : ℕ) (rest : List ℕ) → (eqb c 34 ≡ false) × (eqb c 92 ≡ false) → is_content_after false (c ∷ rest) ≡ is_content_after false rest
plain_step c rest h = ap (λ q. not q && is_content_after (eqb c 92) rest) h.0 ∙ ap (λ s. is_content_after s rest) h.1

no_letter : (x : ℕ) → ltb 0 (escape_letter x) ≡ false → (eqb x 34 ≡ false) × (eqb x 92 ≡ false)
no_letter x h = (grind (arith, nat_tests), grind (arith, nat_tests))

escape_byte-content : (x : ℕ) (rest : List ℕ) → is_content_after false (escape_byte x ++ rest) ≡ is_content_after false rest
unfolding escape_byte
escape_byte-content x rest = by_letter (ltb 0 (escape_letter x)) (ltb x 32) refl where
  control : List ℕ
  control = 92 ∷ 117 ∷ 48 ∷ 48 ∷ digit_char (x / 16) ∷ digit_char (x % 16) ∷ []

  by_letter : (b small : Bool) → ltb 0 (escape_letter x) ≡ b → is_content_after false (cond b (92 ∷ escape_letter x ∷ []) (cond small control (x ∷ [])) ++ rest) ≡ is_content_after false rest
  by_letter true small h = refl
  by_letter false true h =
      plain_step (digit_char (x / 16)) (digit_char (x % 16) ∷ rest) (digit_is_content (x / 16)) ∙ plain_step (digit_char (x % 16)) rest (digit_is_content (x % 16))
  by_letter false false h = plain_step x rest (no_letter x h)

-- an escaped string is the content of a string
is_content-escape : (s : List ℕ) → is_content (escape s) ≡ true
is_content-escape [] = refl
is_content-escape (x ∷ s) = escape_byte-content x (escape s) ∙ is_content-escape s

escape-mark : (c : ℕ) (s : List ℕ) → escape_byte c ≡ c ∷ [] → 34 ∷ c ∷ (escape s ++ 34 ∷ []) ≡ quoted (c ∷ s)
escape-mark c s plain = ap (λ l. 34 ∷ ((l ++ escape s) ++ 34 ∷ [])) (sym plain)

pub reading-string : (s : List ℕ) → marked_reading (compact_text (string s)) ≡ Ok (string (36 ∷ s))
unfolding escape_byte marked
reading-string s =
    let marks : marked outside (quoted s) ≡ Ok (quoted (36 ∷ s)) =
    marked-quoted (escape s) [] (is_content-escape s) ∙ ap Ok (append-nil (34 ∷ 36 ∷ (escape s ++ 34 ∷ [])) ∙ escape-mark 36 s refl) in
    ap tree_of marks ∙ ap tree_or_fault (read-quoted (36 ∷ s))

-- ---- numbers

not_escaped : (c : ℕ) → goes_on_number c ≡ true → escape_byte c ≡ c ∷ []
unfolding escape_byte
not_escaped c h =
    let no_letter : ltb 0 (escape_letter c) ≡ false = grind (arith, nat_tests) in
    let no_control : ltb c 32 ≡ false = grind (arith, nat_tests) in
    cond-false (ltb 0 (escape_letter c)) _ _ no_letter ∙ cond-false (ltb c 32) _ _ no_control

escape-token : (token : List ℕ) → list_all goes_on_number token ≡ true → escape token ≡ token
escape-token [] h = refl
escape-token (c ∷ cs) h =
    let both = and_parts (goes_on_number c) (list_all goes_on_number cs) h in
    ap (λ l. l ++ escape cs) (not_escaped c both.0) ∙ ap (λ l. c ∷ l) (escape-token cs both.1)

digit_goes_on : (c : ℕ) → is_digit c ≡ true → goes_on_number c ≡ true
digit_goes_on c h = grind (arith, nat_tests)

list_all-digits : (cs : List ℕ) → list_all is_digit cs ≡ true → list_all goes_on_number cs ≡ true
list_all-digits [] h = refl
list_all-digits (c ∷ cs) h =
    let both = and_parts (is_digit c) (list_all is_digit cs) h in
    and_from (goes_on_number c) (list_all goes_on_number cs) (digit_goes_on c both.0) (list_all-digits cs both.1)

list_all-append : (p : ℕ → Bool) (xs ys : List ℕ) → list_all p xs ≡ true → list_all p ys ≡ true → list_all p (xs ++ ys) ≡ true
list_all-append p [] ys h k = k
list_all-append p (x ∷ xs) ys h k =
    let both = and_parts (p x) (list_all p xs) h in and_from (p x) (list_all p (xs ++ ys)) both.0 (list_all-append p xs ys both.1 k)

digits_go_on : (digits : List ℕ) → IsDigits digits → list_all goes_on_number digits ≡ true
digits_go_on digits is = list_all-digits digits (list_all-from_AllPass is_digit digits is.all_digits)

sign_goes_on : (sign : List ℕ) → IsSign sign → list_all goes_on_number sign ≡ true
sign_goes_on sign (inl e) = rw e refl
sign_goes_on sign (inr e) = rw e refl

whole_goes_on : (whole : List ℕ) → IsWhole whole → list_all goes_on_number whole ≡ true
whole_goes_on whole (inl e) = rw e refl
whole_goes_on whole (inr (is, other)) = digits_go_on whole is

fraction_goes_on : (fraction : List ℕ) → IsFraction fraction → list_all goes_on_number fraction ≡ true
fraction_goes_on fraction (inl e) = rw e refl
fraction_goes_on fraction (inr (digits, is, e)) = rw e (digits_go_on digits is)

exponent_sign_goes_on : (sign : List ℕ) → IsExponentSign sign → list_all goes_on_number sign ≡ true
exponent_sign_goes_on sign (inl e) = rw e refl
exponent_sign_goes_on sign (inr (c, inl plus, e)) = rw (e, plus) refl
exponent_sign_goes_on sign (inr (c, inr minus, e)) = rw (e, minus) refl

exponent_goes_on : (exponent : List ℕ) → IsExponent exponent → list_all goes_on_number exponent ≡ true
exponent_goes_on exponent (inl e) = rw e refl
exponent_goes_on exponent (inr (c, sign, digits, inl small, s, is, e)) = rw (e, small) (list_all-append goes_on_number sign digits (exponent_sign_goes_on sign s) (digits_go_on digits is))
exponent_goes_on exponent (inr (c, sign, digits, inr capital, s, is, e)) = rw (e, capital) (list_all-append goes_on_number sign digits (exponent_sign_goes_on sign s) (digits_go_on digits is))

-- a number is one token
token_goes_on : (token : List ℕ) → IsNumber token → list_all goes_on_number token ≡ true
token_goes_on token n =
    ap (list_all goes_on_number) n.in_order
    ∙ list_all-append goes_on_number n.sign (n.whole ++ (n.fraction ++ n.exponent)) (sign_goes_on n.sign n.is_sign)
    (list_all-append goes_on_number n.whole (n.fraction ++ n.exponent) (whole_goes_on n.whole n.is_whole)
    (list_all-append goes_on_number n.fraction n.exponent (fraction_goes_on n.fraction n.is_fraction) (exponent_goes_on n.exponent n.is_exponent)))

-- the first byte begins a number
begins_token : (sign whole rest token : List ℕ) → IsSign sign → IsWhole whole → token ≡ sign ++ (whole ++ rest) → (0 < length token) × (begins_number (get_or token 0 0) ≡ true)
begins_token sign whole rest token (inr minus) w e = rw (e, minus) (omega arith, refl)
begins_token sign whole rest token (inl none) (inl zero) e = rw (e, none, zero) (omega arith, refl)
begins_token sign [] rest token (inl none) (inr (is, other)) e = let some = is.some_digit in absurd (omega arith)
begins_token sign (c ∷ cs) rest token (inl none) (inr (is, other)) e =
    let digit : is_digit c ≡ true = is.all_digits 0 0 is.some_digit in
    let begins : begins_number c ≡ true = grind (arith, nat_tests) in
    rw (e, none) (omega arith, begins)

pub reading-number : (token : List ℕ) → IsNumber token → marked_reading token ≡ Ok (string (35 ∷ token))
unfolding escape_byte marked
reading-number token n =
    let goes = token_goes_on token n in
    let first = begins_token n.sign n.whole (n.fraction ++ n.exponent) token n.is_sign n.is_whole n.in_order in
    let count : prefix_len goes_on_number token ≡ length token = ap (prefix_len goes_on_number) (sym (append-nil token)) ∙ prefix_len-all goes_on_number token [] goes refl in
    let front : token ≡ take (prefix_len goes_on_number token) token = sym (ap (λ k. take k token) count ∙ take_all (length token) token (omega arith)) in
    let back : [] ≡ drop (prefix_len goes_on_number token) token = sym (ap (λ k. drop k token) count ∙ drop-length token) in
    let good = test_from_IsNumber token n in
    let marks : marked outside token ≡ Ok (34 ∷ 35 ∷ (token ++ 34 ∷ [])) =
    sym (with_front-nil (marked outside token))
    ∙ completed-token [] token token [] (prefix_len goes_on_number token) first.0 first.1 refl front back
    ∙ sym (marked_token-good [] (34 ∷ 35 ∷ (token ++ 34 ∷ [])) token [] (Ok []) good refl refl)
    ∙ ap Ok (append-nil (34 ∷ 35 ∷ (token ++ 34 ∷ []))) in
    let written : 34 ∷ 35 ∷ (token ++ 34 ∷ []) ≡ quoted (35 ∷ token) = ap (λ l. 34 ∷ 35 ∷ (l ++ 34 ∷ [])) (sym (escape-token token goes)) ∙ escape-mark 35 token refl in
    ap tree_of (marks ∙ ap Ok written) ∙ ap tree_or_fault (read-quoted (35 ∷ token))
