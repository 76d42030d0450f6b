-- A text whose last byte ends nothing in JSON has no tree.
use Rattle.std.{proofs.Common.{◌≡◌, ℕ, suc, ◌+◌, Bool, true, false, not, ◌&&◌, ◌||◌, ◌==◌, nat_lt, cond, List, [], ◌∷◌, ◌++◌, length, take, drop, Option, Some, None, option_and_then, inl, inr, ◌⊎◌, refl, sym, ap, ◌∙◌, arith, append_assoc, eq-eqb}, specs.Prelude.⊤, proofs.lemmas.Bool.{true≢false, false≢true, eqb-true, and_parts, or_cases}, proofs.lemmas.List.take-append-drop, proofs.lemmas.Slice.Eq.bytes_eq-Decides, specs.List.prefix_len, specs.Char.{is_ascii_digit, is_digit, encode_utf8}}
use Rattle.json.{specs.Align.is_good, specs.Json.{Json, Items, Members, value, if_last}, specs.Lex.{Lexeme, token, comma, colon, Class, quote, backslash, operator, space, other, class, operator_lexeme, string_token, Mode, between, in_word, in_string, in_escape, lex_byte, lex, Place, fresh, after_value, after_comma, after_key, begins_colon, may_begin, may_close, if_allowed, place_token, punctuate, tokens}, specs.Text.{code_unit, short_escape, is_high_surrogate, is_low_surrogate, surrogate_pair, Within, plain, after_backslash, after_u, after_high, prepend, content}, specs.Token.Token, specs.Tree.{json_tokens, items_tokens, members_tokens}, specs.Word.{is_operator, is_space, head, ends_word, after_digits, after_minus, after_sign, after_whole, after_fraction, after_exponent, after_number, number_before, literal, word}, proofs.Unique.Spelling.value-json_tokens_back}
use Rattle.json.specs.Json as json
use Rattle.serde_json.specs.Read.{read, max_depth, of_json}

-- an operator or a space
abbrev is_stop : ℕ → Bool
is_stop x = is_operator x || is_space x

-- no word ends with this byte, and none stops before it; nor does a number go on with it
pub record IsStray (c : ℕ) : Type 0 where
  pub plain_byte : class c ≡ other
  pub no_stop : is_stop c ≡ false
  pub no_digit : is_ascii_digit c ≡ false
  pub no_minus : (45 == c) ≡ false
  pub no_plus : (43 == c) ≡ false
  pub no_dot : (46 == c) ≡ false
  pub no_zero : (48 == c) ≡ false
  pub no_small_e : (101 == c) ≡ false
  pub no_capital_e : (69 == c) ≡ false
  pub no_l : (108 == c) ≡ false

-- ---- words

-- an operator or a space is in the text, or the byte c is not its last; `last` says that c was just before
abbrev fits : ℕ → Bool → List ℕ → Bool
fits c last [] = not last
fits c last (x ∷ xs) = is_stop x || fits c (x == c) xs

or_right : (a b : Bool) → b ≡ true → (a || b) ≡ true
or_right true b h = refl
or_right false b h = h

module _ (c : ℕ) (stray : IsStray c) where
  fits_end : (t : List ℕ) → ends_word t ≡ true → fits c false t ≡ true
  fits_end [] h = refl
  fits_end (x ∷ xs) h = ap (λ b. b || fits c (x == c) xs) h

  fits_one : (k : ℕ) (t : List ℕ) → (k == c) ≡ false → (head t == k) ≡ true → fits c false (drop 1 t) ≡ true → fits c false t ≡ true
  fits_one k [] ne e h = refl
  fits_one k (x ∷ xs) ne e h = or_right (is_stop x) (fits c (x == c) xs) (ap (λ b. fits c b xs) (ap (λ y. y == c) (eqb-true x k e) ∙ ne) ∙ h)

  digit_is_other : (x : ℕ) → is_ascii_digit x ≡ true → (b : Bool) → (x == c) ≡ b → b ≡ false
  digit_is_other x h true e = absurd (false≢true (sym stray.no_digit ∙ ap is_ascii_digit (sym (eqb-true x c e)) ∙ h))
  digit_is_other x h false e = refl

  fits_digits_at : (d : Bool) (x : ℕ) (xs : List ℕ) (n : ℕ) → (d ≡ true → (x == c) ≡ false) → (fits c false (drop n xs) ≡ true → fits c false xs ≡ true)
      → fits c false (drop (cond d (1 + n) 0) (x ∷ xs)) ≡ true → fits c false (x ∷ xs) ≡ true
  fits_digits_at false x xs n ne ih h = h
  fits_digits_at true x xs n ne ih h =
      let e : 1 + n ≡ suc n = omega arith in
      or_right (is_stop x) (fits c (x == c) xs) (ap (λ b. fits c b xs) (ne refl) ∙ ih (ap (λ k. fits c false (drop k (x ∷ xs))) (sym e) ∙ h))

  fits_digits : (t : List ℕ) → fits c false (drop (prefix_len is_ascii_digit t) t) ≡ true → fits c false t ≡ true
  fits_digits [] h = refl
  fits_digits (x ∷ xs) h = fits_digits_at (is_ascii_digit x) x xs (prefix_len is_ascii_digit xs) (λ d. digit_is_other x d (x == c) refl) (fits_digits xs) h

  -- what follows a part fits, where there is such a part
  abbrev Then : Option (List ℕ) → Type 0
  Then None = ⊥
  Then (Some rest) = fits c false rest ≡ true

  by_test : (b : Bool) (x y : Option (List ℕ)) (P : Type 0) → (b ≡ true → Then x → P) → (Then y → P) → Then (cond b x y) → P
  by_test true x y P f g h = f refl h
  by_test false x y P f g h = g h

  fits-after_digits : (t : List ℕ) → Then (after_digits t) → fits c false t ≡ true
  fits-after_digits t = by_test (prefix_len is_ascii_digit t == 0) None _ _ (λ e h. absurd h) (fits_digits t)

  either : (a b : ℕ) (t : List ℕ) → (a == c) ≡ false → (b == c) ≡ false → ((head t == a) ≡ true) ⊎ ((head t == b) ≡ true) → fits c false (drop 1 t) ≡ true → fits c false t ≡ true
  either a b t p q (inl e) = fits_one a t p e
  either a b t p q (inr e) = fits_one b t q e

  skipped : (b : Bool) (t : List ℕ) → (b ≡ true → fits c false (drop 1 t) ≡ true → fits c false t ≡ true) → fits c false (cond b (drop 1 t) t) ≡ true → fits c false t ≡ true
  skipped true t f h = f refl h
  skipped false t f h = h

  fits-after_exponent : (t : List ℕ) → Then (after_exponent t) → fits c false t ≡ true
  fits-after_exponent t =
      let u = drop 1 t in
      by_test ((head t == 101) || (head t == 69)) _ (Some t) _
      (λ e h. either 101 69 t stray.no_small_e stray.no_capital_e (or_cases _ _ e)
      (skipped _ u (λ s. either 45 43 u stray.no_minus stray.no_plus (or_cases _ _ s)) (fits-after_digits (after_sign u) h))) (λ h. h)

  fits-after_fraction : (t : List ℕ) → Then (after_fraction t) → fits c false t ≡ true
  fits-after_fraction t = by_test (head t == 46) _ (Some t) _ (λ e h. fits_one 46 t stray.no_dot e (fits-after_digits (drop 1 t) h)) (λ h. h)

  fits-after_whole : (t : List ℕ) → Then (after_whole t) → fits c false t ≡ true
  fits-after_whole t = by_test (head t == 48) (Some (drop 1 t)) _ _ (λ e h. fits_one 48 t stray.no_zero e h) (fits-after_digits t)

  back : (f : List ℕ → Option (List ℕ)) → ((t : List ℕ) → Then (f t) → fits c false t ≡ true) → (o : Option (List ℕ)) → Then (option_and_then f o) → Then o
  back f p None h = h
  back f p (Some t) h = p t h

  fits-after_number : (t : List ℕ) → Then (after_number t) → fits c false t ≡ true
  unfolding after_number
  fits-after_number t h =
      skipped (head t == 45) t (fits_one 45 t stray.no_minus)
      (fits-after_whole (after_minus t) (back after_fraction fits-after_fraction _ (back after_exponent fits-after_exponent _ h)))

  passed : (b : Bool) (k : Token) → is_good (cond b k Token.bad) ≡ true → b ≡ true
  passed true k h = refl
  passed false k h = h

  number_ends : (t : List ℕ) (o : Option (List ℕ)) → is_good (number_before t o) ≡ true → Then o
  number_ends t None h = false≢true h
  number_ends t (Some rest) h = fits_end rest (passed (ends_word rest) _ h)

  fits-literal : (name : List ℕ) (k : Token) (t : List ℕ) → ((rest : List ℕ) → fits c false (name ++ rest) ≡ fits c false rest) → is_good (literal name k t) ≡ true → fits c false t ≡ true
  fits-literal name k t passes h =
      let both = and_parts _ _ (passed _ k h) in
      let front : name ≡ take (length name) t = (bytes_eq-Decides name (take (length name) t)).0 both.0 in
      ap (fits c false) (sym (take-append-drop (length name) t) ∙ ap (λ l. l ++ drop (length name) t) (sym front)) ∙ passes (drop (length name) t) ∙ fits_end (drop (length name) t) both.1

  choose : (b : Bool) (x y : Token) (P : Type 0) → (is_good x ≡ true → P) → (is_good y ≡ true → P) → is_good (cond b x y) ≡ true → P
  choose true x y P f g = f
  choose false x y P f g = g

  -- a good word does not run to the end of a text whose last byte is c
  fits-word : (t : List ℕ) → is_good (word t) ≡ true → fits c false t ≡ true
  unfolding word
  fits-word t =
      choose (head t == 116) _ _ _ (fits-literal (116 ∷ 114 ∷ 117 ∷ 101 ∷ []) (Token.boolean true) t (λ r. ap (λ b. fits c b r) stray.no_small_e))
      (choose (head t == 102) _ _ _ (fits-literal (102 ∷ 97 ∷ 108 ∷ 115 ∷ 101 ∷ []) (Token.boolean false) t (λ r. ap (λ b. fits c b r) stray.no_small_e))
      (choose (head t == 110) _ _ _ (fits-literal (110 ∷ 117 ∷ 108 ∷ 108 ∷ []) Token.null t (λ r. ap (λ b. fits c b r) stray.no_l)) (λ h. fits-after_number t (number_ends t (after_number t) h))))

  bad_word : (t : List ℕ) (b : Bool) → is_good (word t) ≡ b → fits c false t ≡ false → b ≡ false
  bad_word t true e h = absurd (true≢false (sym (fits-word t e) ∙ h))
  bad_word t false e h = refl

-- ---- strings

abbrev closes_byte : Mode → Class → (Mode → Bool) → Bool
closes_byte between k more = true
closes_byte in_word k more = true
closes_byte in_string quote more = true
closes_byte in_string backslash more = more in_escape
closes_byte in_string operator more = more in_string
closes_byte in_string space more = more in_string
closes_byte in_string other more = more in_string
closes_byte in_escape k more = more in_string

-- the string that the lexer is in is closed
unfoldable closes : Mode → List ℕ → Bool
closes m [] = false
closes m (x ∷ xs) = closes_byte m (class x) (λ next. closes next xs)

abbrev IfFound : Bool → Option (List ℕ) → Type 0
IfFound b None = ⊤
IfFound b (Some s) = b ≡ true

abbrev mode : Within → Mode
mode plain = in_string
mode after_backslash = in_escape
mode after_u = in_string
mode (after_high h) = in_string

abbrev is_found : Option ℕ → Bool
is_found None = false
is_found (Some u) = true

all_hex : (b : Bool) (u : ℕ) → is_found (cond b (Some u) None) ≡ true → b ≡ true
all_hex true u h = refl
all_hex false u h = h

both : (t b : Bool) (x y : Option (List ℕ)) → (b ≡ true → IfFound t x) → (b ≡ false → IfFound t y) → IfFound t (cond b x y)
both t true x y f g = f refl
both t false x y f g = g refl

then : (t : Bool) (f : ℕ → Option (List ℕ)) (o : Option ℕ) → (is_found o ≡ true → (u : ℕ) → IfFound t (f u)) → IfFound t (option_and_then f o)
then t f None h = tt
then t f (Some u) h = h refl u

same : (t s : Bool) (r : Option (List ℕ)) → IfFound s r → t ≡ s → IfFound t r
same t s None h e = tt
same t s (Some r) h e = e ∙ h

longer : (t s : Bool) (a : List ℕ) (r : Option (List ℕ)) → IfFound s r → t ≡ s → IfFound t (prepend a r)
longer t s a None h e = tt
longer t s a (Some r) h e = e ∙ h

passes : (o s : Bool) (k : Mode → Bool) → closes_byte in_string (cond o operator (cond s space other)) k ≡ k in_string
passes true s k = refl
passes false true k = refl
passes false false k = refl

closes_quote : (x : ℕ) (xs : List ℕ) → (x == 34) ≡ true → closes in_string (x ∷ xs) ≡ true
unfolding closes
closes_quote x xs q = ap (λ y. closes in_string (y ∷ xs)) (eqb-true x 34 q)

closes_plain : (x : ℕ) (xs : List ℕ) → (x == 34) ≡ false → (x == 92) ≡ false → closes in_string (x ∷ xs) ≡ closes in_string xs
unfolding closes
closes_plain x xs q b =
    (λ i. closes_byte in_string (cond (q i) quote (cond (b i) backslash (cond (is_operator x) operator (cond (is_space x) space other)))) (λ n. closes n xs))
    ∙ passes (is_operator x) (is_space x) (λ n. closes n xs)

closes_backslash : (x : ℕ) (xs : List ℕ) → (x == 92) ≡ true → closes in_string (x ∷ xs) ≡ closes in_escape xs
unfolding closes
closes_backslash x xs b = ap (λ y. closes in_string (y ∷ xs)) (eqb-true x 92 b)

closes_escape : (x : ℕ) (xs : List ℕ) → closes in_escape (x ∷ xs) ≡ closes in_string xs
unfolding closes
closes_escape x xs = refl

not_this : (c x : ℕ) (t : Bool) → (t ≡ true → x ≡ c) → is_digit c 16 ≡ false → is_digit x 16 ≡ true → t ≡ false
not_this c x false e never h = refl
not_this c x true e never h = absurd (false≢true (sym never ∙ ap (λ y. is_digit y 16) (sym (e refl)) ∙ h))

closes_hex : (x : ℕ) (xs : List ℕ) → is_digit x 16 ≡ true → closes in_string (x ∷ xs) ≡ closes in_string xs
closes_hex x xs h = closes_plain x xs (not_this 34 x (x == 34) (eqb-true x 34) refl h) (not_this 92 x (x == 92) (eqb-true x 92) refl h)

closes_unit : (a b c d : ℕ) (xs : List ℕ) → is_found (code_unit a b c d) ≡ true → closes in_string (a ∷ b ∷ c ∷ d ∷ xs) ≡ closes in_string xs
unfolding code_unit
closes_unit a b c d xs h =
    let p = and_parts (is_digit a 16 && is_digit b 16 && is_digit c 16) (is_digit d 16) (all_hex _ _ h) in
    let q = and_parts (is_digit a 16 && is_digit b 16) (is_digit c 16) p.0 in
    let r = and_parts (is_digit a 16) (is_digit b 16) q.0 in
    closes_hex a (b ∷ c ∷ d ∷ xs) r.0 ∙ closes_hex b (c ∷ d ∷ xs) r.1 ∙ closes_hex c (d ∷ xs) q.1 ∙ closes_hex d xs p.1

-- a string that has a content is closed
content_closes : (w : Within) (xs : List ℕ) → IfFound (closes (mode w) xs) (content w xs)
unfolding content
content_closes plain [] = tt
content_closes plain (x ∷ xs) =
    let t = closes in_string (x ∷ xs) in
    both t (x == 34) _ _ (λ q. closes_quote x xs q)
    (λ q. both t (x == 92) _ _ (λ b. same t (closes in_escape xs) _ (content_closes after_backslash xs) (closes_backslash x xs b))
    (λ b. both t (nat_lt x 32) _ _ (λ l. tt) (λ l. longer t (closes in_string xs) (x ∷ []) _ (content_closes plain xs) (closes_plain x xs q b))))
content_closes after_backslash [] = tt
content_closes after_backslash (x ∷ xs) =
    let t = closes in_escape (x ∷ xs) in
    both t (x == 117) _ _ (λ u. same t (closes in_string xs) _ (content_closes after_u xs) (closes_escape x xs))
    (λ u. then t _ (short_escape x) (λ f c. longer t (closes in_string xs) (c ∷ []) _ (content_closes plain xs) (closes_escape x xs)))
content_closes after_u [] = tt
content_closes after_u (a ∷ []) = tt
content_closes after_u (a ∷ b ∷ []) = tt
content_closes after_u (a ∷ b ∷ c ∷ []) = tt
content_closes after_u (a ∷ b ∷ c ∷ d ∷ xs) =
    let t = closes in_string (a ∷ b ∷ c ∷ d ∷ xs) in
    then t _ (code_unit a b c d) (λ f u. both t (is_high_surrogate u) _ _ (λ h. same t (closes in_string xs) _ (content_closes (after_high u) xs) (closes_unit a b c d xs f))
    (λ h. both t (is_low_surrogate u) _ _ (λ l. tt) (λ l. longer t (closes in_string xs) (encode_utf8 u) _ (content_closes plain xs) (closes_unit a b c d xs f))))
content_closes (after_high h) [] = tt
content_closes (after_high h) (s ∷ []) = tt
content_closes (after_high h) (s ∷ u ∷ []) = tt
content_closes (after_high h) (s ∷ u ∷ a ∷ []) = tt
content_closes (after_high h) (s ∷ u ∷ a ∷ b ∷ []) = tt
content_closes (after_high h) (s ∷ u ∷ a ∷ b ∷ c ∷ []) = tt
content_closes (after_high h) (s ∷ u ∷ a ∷ b ∷ c ∷ d ∷ xs) =
    let t = closes in_string (s ∷ u ∷ a ∷ b ∷ c ∷ d ∷ xs) in
    both t ((s == 92) && (u == 117)) _ _ (λ e. then t _ (code_unit a b c d) (λ f l. both t (is_low_surrogate l) _ _
    (λ y. longer t (closes in_string xs) (encode_utf8 (surrogate_pair h l)) _ (content_closes plain xs)
    (closes_backslash s (u ∷ a ∷ b ∷ c ∷ d ∷ xs) (and_parts _ _ e).0 ∙ closes_escape u (a ∷ b ∷ c ∷ d ∷ xs) ∙ closes_unit a b c d xs f)) (λ y. tt))) (λ e. tt)

no_content : (t : Bool) (o : Option (List ℕ)) → IfFound t o → t ≡ false → is_good (string_token o) ≡ false
no_content t None h e = refl
no_content t (Some s) h e = absurd (true≢false (sym h ∙ e))

-- ---- lexemes

-- one of the lexemes is bad
abbrev has_bad : List Lexeme → Bool
has_bad [] = false
has_bad (token t ∷ ls) = not (is_good t) || has_bad ls
has_bad (comma ∷ ls) = has_bad ls
has_bad (colon ∷ ls) = has_bad ls

bad_behind : (l : Lexeme) (ls : List Lexeme) → has_bad ls ≡ true → has_bad (l ∷ ls) ≡ true
bad_behind (token t) ls h = or_right (not (is_good t)) (has_bad ls) h
bad_behind comma ls h = h
bad_behind colon ls h = h

bad_here : (t : Token) (ls : List Lexeme) → is_good t ≡ false → has_bad (token t ∷ ls) ≡ true
bad_here t ls h = ap (λ b. not b || has_bad ls) h

abbrev stop_of : Class → Bool
stop_of quote = false
stop_of backslash = false
stop_of operator = true
stop_of space = true
stop_of other = false

stops_so : (q b o s : Bool) → (q ≡ true → (o || s) ≡ false) → (b ≡ true → (o || s) ≡ false) → (o || s) ≡ stop_of (cond q quote (cond b backslash (cond o operator (cond s space other))))
stops_so true b o s hq hb = hq refl
stops_so false true o s hq hb = hb refl
stops_so false false true s hq hb = refl
stops_so false false false true hq hb = refl
stops_so false false false false hq hb = refl

stop_is : (x : ℕ) → is_stop x ≡ stop_of (class x)
stop_is x = stops_so (x == 34) (x == 92) (is_operator x) (is_space x) (λ e. ap is_stop (eqb-true x 34 e)) (λ e. ap is_stop (eqb-true x 92 e))

module _ (c : ℕ) (stray : IsStray c) where
  -- what a text that ends with c is where no lexeme of it is bad
  abbrev Pending : Mode → List ℕ → Type 0
  Pending between t = ⊥
  Pending in_word t = fits c false t ≡ false
  Pending in_string t = closes in_string t ≡ false
  Pending in_escape t = closes in_escape t ≡ false

  abbrev Refused : Mode → List ℕ → Type 0
  Refused m t = (has_bad (lex m t) ≡ true) ⊎ Pending m t

  any_before : (b : Bool) (front : List ℕ) → fits c b (front ++ c ∷ []) ≡ fits c false (front ++ c ∷ [])
  any_before b [] = refl
  any_before b (x ∷ front) = refl

  alone : fits c false (c ∷ []) ≡ false
  alone = ap (λ b. b || not (c == c)) stray.no_stop ∙ ap not (eq-eqb c c refl)

  word_goes_on : (x : ℕ) (front : List ℕ) (k : Class) → class x ≡ k → stop_of k ≡ false → fits c false (front ++ c ∷ []) ≡ false → fits c false (x ∷ (front ++ c ∷ [])) ≡ false
  word_goes_on x front k e s h = ap (λ b. b || fits c (x == c) (front ++ c ∷ [])) (stop_is x ∙ ap stop_of e ∙ s) ∙ any_before (x == c) front ∙ h

  string_goes_on : (m : Mode) (x : ℕ) (xs : List ℕ) (k : Class) → class x ≡ k → closes_byte m k (λ n. closes n xs) ≡ false → closes m (x ∷ xs) ≡ false
  unfolding closes
  string_goes_on m x xs k e h = ap (λ j. closes_byte m j (λ n. closes n xs)) e ∙ h

  first_between : (k : Class) (x : ℕ) (front : List ℕ) → class x ≡ k → ((m : Mode) → Refused m (front ++ c ∷ []))
      → has_bad (lex_byte between k x (front ++ c ∷ []) (λ n. lex n (front ++ c ∷ []))) ≡ true
  first_between quote x front e ih = elim (ih in_string) [
    | inl h ↦ bad_behind (token (string_token (content plain (front ++ c ∷ [])))) (lex in_string (front ++ c ∷ [])) h
    | inr h ↦ bad_here (string_token (content plain (front ++ c ∷ []))) (lex in_string (front ++ c ∷ []))
        (no_content (closes in_string (front ++ c ∷ [])) (content plain (front ++ c ∷ [])) (content_closes plain (front ++ c ∷ [])) h)
  ]
  first_between backslash x front e ih = refl
  first_between operator x front e ih = elim (ih between) [ inl h ↦ bad_behind (operator_lexeme x) (lex between (front ++ c ∷ [])) h | inr h ↦ absurd h ]
  first_between space x front e ih = elim (ih between) [ inl h ↦ h | inr h ↦ absurd h ]
  first_between other x front e ih = elim (ih in_word) [
    | inl h ↦ bad_behind (token (word (x ∷ (front ++ c ∷ [])))) (lex in_word (front ++ c ∷ [])) h
    | inr h ↦ bad_here (word (x ∷ (front ++ c ∷ []))) (lex in_word (front ++ c ∷ []))
        (bad_word c stray (x ∷ (front ++ c ∷ [])) (is_good (word (x ∷ (front ++ c ∷ [])))) refl (word_goes_on x front other e refl h))
  ]

  first_in_word : (k : Class) (x : ℕ) (front : List ℕ) → class x ≡ k → ((m : Mode) → Refused m (front ++ c ∷ []))
      → (has_bad (lex_byte in_word k x (front ++ c ∷ []) (λ n. lex n (front ++ c ∷ []))) ≡ true) ⊎ (fits c false (x ∷ (front ++ c ∷ [])) ≡ false)
  first_in_word quote x front e ih = elim (ih in_word) [ inl h ↦ inl h | inr h ↦ inr (word_goes_on x front quote e refl h) ]
  first_in_word backslash x front e ih = elim (ih in_word) [ inl h ↦ inl h | inr h ↦ inr (word_goes_on x front backslash e refl h) ]
  first_in_word operator x front e ih = elim (ih between) [ inl h ↦ inl (bad_behind (operator_lexeme x) (lex between (front ++ c ∷ [])) h) | inr h ↦ absurd h ]
  first_in_word space x front e ih = elim (ih between) [ inl h ↦ inl h | inr h ↦ absurd h ]
  first_in_word other x front e ih = elim (ih in_word) [ inl h ↦ inl h | inr h ↦ inr (word_goes_on x front other e refl h) ]

  first_in_string : (k : Class) (x : ℕ) (front : List ℕ) → class x ≡ k → ((m : Mode) → Refused m (front ++ c ∷ []))
      → (has_bad (lex_byte in_string k x (front ++ c ∷ []) (λ n. lex n (front ++ c ∷ []))) ≡ true) ⊎ (closes in_string (x ∷ (front ++ c ∷ [])) ≡ false)
  first_in_string quote x front e ih = elim (ih between) [ inl h ↦ inl h | inr h ↦ absurd h ]
  first_in_string backslash x front e ih = elim (ih in_escape) [ inl h ↦ inl h | inr h ↦ inr (string_goes_on in_string x (front ++ c ∷ []) backslash e h) ]
  first_in_string operator x front e ih = elim (ih in_string) [ inl h ↦ inl h | inr h ↦ inr (string_goes_on in_string x (front ++ c ∷ []) operator e h) ]
  first_in_string space x front e ih = elim (ih in_string) [ inl h ↦ inl h | inr h ↦ inr (string_goes_on in_string x (front ++ c ∷ []) space e h) ]
  first_in_string other x front e ih = elim (ih in_string) [ inl h ↦ inl h | inr h ↦ inr (string_goes_on in_string x (front ++ c ∷ []) other e h) ]

  first_in_escape : (x : ℕ) (front : List ℕ) → ((m : Mode) → Refused m (front ++ c ∷ []))
      → (has_bad (lex_byte in_escape (class x) x (front ++ c ∷ []) (λ n. lex n (front ++ c ∷ []))) ≡ true) ⊎ (closes in_escape (x ∷ (front ++ c ∷ [])) ≡ false)
  first_in_escape x front ih = elim (ih in_string) [ inl h ↦ inl h | inr h ↦ inr (string_goes_on in_escape x (front ++ c ∷ []) (class x) refl h) ]

  only : (m : Mode) → Refused m (c ∷ [])
  unfolding lex closes
  only between =
      let bad = bad_here (word (c ∷ [])) [] (bad_word c stray (c ∷ []) (is_good (word (c ∷ []))) refl alone) in
      inl (ap (λ k. has_bad (lex_byte between k c [] (λ n. []))) stray.plain_byte ∙ bad)
  only in_word = inr alone
  only in_string = inr (string_goes_on in_string c [] other stray.plain_byte refl)
  only in_escape = inr (string_goes_on in_escape c [] other stray.plain_byte refl)

  refused : (front : List ℕ) (m : Mode) → Refused m (front ++ c ∷ [])
  unfolding lex
  refused [] m = only m
  refused (x ∷ front) between = inl (first_between (class x) x front refl (refused front))
  refused (x ∷ front) in_word = first_in_word (class x) x front refl (refused front)
  refused (x ∷ front) in_string = first_in_string (class x) x front refl (refused front)
  refused (x ∷ front) in_escape = first_in_escape x front (refused front)

  bad_lexeme : (front : List ℕ) → has_bad (lex between (front ++ c ∷ [])) ≡ true
  bad_lexeme front = elim (refused front between) [ inl h ↦ h | inr h ↦ absurd h ]

-- ---- tokens

abbrev all_good : List Token → Bool
all_good [] = true
all_good (t ∷ ts) = is_good t && all_good ts

and_false : (a b : Bool) → b ≡ false → (a && b) ≡ false
and_false true b h = h
and_false false b h = refl

bad_placed : (b : Bool) (t : Token) (k : Place → List Token) (next : Place) → ((n : Place) → all_good (k n) ≡ false) → all_good (if_allowed b t k next) ≡ false
bad_placed true t k next h = and_false (is_good t) (all_good (k next)) (h next)
bad_placed false t k next h = refl

bad_token : (p : Place) (t : Token) (b : Bool) (more : Bool) (k : Place → List Token) → (not (is_good t) || more) ≡ true
    → (more ≡ true → (n : Place) → all_good (k n) ≡ false) → all_good (place_token p t b k) ≡ false
bad_token p Token.begin_object b more k h later = bad_placed (may_begin p) Token.begin_object k fresh (later h)
bad_token p Token.end_object b more k h later = bad_placed (may_close p) Token.end_object k after_value (later h)
bad_token p Token.begin_array b more k h later = bad_placed (may_begin p) Token.begin_array k fresh (later h)
bad_token p Token.end_array b more k h later = bad_placed (may_close p) Token.end_array k after_value (later h)
bad_token p (Token.key s) b more k h later = refl
bad_token p (Token.string s) true more k h later = bad_placed (may_begin p) (Token.key s) k after_key (later h)
bad_token p (Token.string s) false more k h later = bad_placed (may_begin p) (Token.string s) k after_value (later h)
bad_token p (Token.number s) b more k h later = bad_placed (may_begin p) (Token.number s) k after_value (later h)
bad_token p (Token.boolean v) b more k h later = bad_placed (may_begin p) (Token.boolean v) k after_value (later h)
bad_token p Token.null b more k h later = bad_placed (may_begin p) Token.null k after_value (later h)
bad_token p Token.bad b more k h later = refl

bad_tokens : (ls : List Lexeme) (p : Place) → has_bad ls ≡ true → all_good (punctuate p ls) ≡ false
unfolding punctuate
bad_tokens [] p h = absurd (false≢true h)
bad_tokens (token t ∷ ls) p h = bad_token p t (begins_colon ls) (has_bad ls) (λ next. punctuate next ls) h (λ more n. bad_tokens ls n more)
bad_tokens (comma ∷ ls) fresh h = refl
bad_tokens (comma ∷ ls) after_value h = bad_tokens ls after_comma h
bad_tokens (comma ∷ ls) after_comma h = refl
bad_tokens (comma ∷ ls) after_key h = refl
bad_tokens (colon ∷ ls) fresh h = refl
bad_tokens (colon ∷ ls) after_value h = refl
bad_tokens (colon ∷ ls) after_comma h = refl
bad_tokens (colon ∷ ls) after_key h = bad_tokens ls fresh h

mutual
  good_json : (j : Json) (rest : List Token) → all_good (json_tokens j ++ rest) ≡ all_good rest
  good_json json.null rest = refl
  good_json (json.boolean b) rest = refl
  good_json (json.number s) rest = refl
  good_json (json.string s) rest = refl
  good_json (json.array js) rest = good_items js rest
  good_json (json.object ms) rest = good_members ms rest

  good_items : (js : Items) (rest : List Token) → all_good (items_tokens js ++ rest) ≡ all_good rest
  good_items json.no_items rest = refl
  good_items (json.item j js) rest = ap all_good (append_assoc (json_tokens j) (items_tokens js) rest) ∙ good_json j (items_tokens js ++ rest) ∙ good_items js rest

  good_members : (ms : Members) (rest : List Token) → all_good (members_tokens ms ++ rest) ≡ all_good rest
  good_members json.no_members rest = refl
  good_members (json.member k j ms) rest = ap all_good (append_assoc (json_tokens j) (members_tokens ms) rest) ∙ good_json j (members_tokens ms ++ rest) ∙ good_members ms rest

no_value : (ts : List Token) → all_good ts ≡ false → (o : Option (Json × List Token)) → value max_depth ts ≡ o → option_and_then of_json (option_and_then (λ p. if_last p.0 p.1) o) ≡ None
no_value ts bad None e = refl
no_value ts bad (Some (j, [])) e = absurd (true≢false (sym (ap all_good (value-json_tokens_back max_depth ts [] j e) ∙ good_json j []) ∙ bad))
no_value ts bad (Some (j, t ∷ r)) e = refl

-- a text whose last byte ends nothing has no tree
pub no_tree : (c : ℕ) → IsStray c → (front : List ℕ) → read (front ++ c ∷ []) ≡ None
no_tree c stray front =
    let ts = tokens (front ++ c ∷ []) in
    no_value ts (bad_tokens (lex between (front ++ c ∷ [])) fresh (bad_lexeme c stray front)) (value max_depth ts) refl

pub stray_hash : IsStray 35
stray_hash = record { plain_byte = refl; no_stop = refl; no_digit = refl; no_minus = refl; no_plus = refl; no_dot = refl; no_zero = refl; no_small_e = refl; no_capital_e = refl; no_l = refl }

pub stray_s : IsStray 115
stray_s = record { plain_byte = refl; no_stop = refl; no_digit = refl; no_minus = refl; no_plus = refl; no_dot = refl; no_zero = refl; no_small_e = refl; no_capital_e = refl; no_l = refl }
