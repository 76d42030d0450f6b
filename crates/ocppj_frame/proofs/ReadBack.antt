-- A reader of JSON gives back what was written as a JSON string: it takes each escape for its character, and goes
-- over it in one string.
use Rattle.std.{proofs.Common.{◌≡◌, ◌≢◌, ℕ, ◌+◌, ◌/◌, ◌%◌, ◌<◌, ◌≤◌, Bool, true, false, cond, List, [], ◌∷◌, ◌++◌, Option, Some, None, ◌⊎◌, inl, inr, refl, sym, ap, ◌∙◌, subst, arith, append_assoc}, specs.Prelude.{nat_lt, option_and_then}, specs.List.flat_map, specs.Char.digit_char, specs.Str.{IsUtf8, chars, encode_utf8_all}, proofs.lemmas.Bool.{cases_eq, cases_lt, ne_eqb, le-ltb, lt-ltb, lt-leb, ltb-false}, proofs.lemmas.List.append-nil, proofs.lemmas.Str.{encodes-chars, digit_value-digit_char}}
use lib.Utf8.{encode}
use Rattle.json.{specs.Text.{content, plain, prepend, code_unit, short_escape}, specs.Token.Token, specs.Word.{is_operator, is_space}, specs.Lex.{Lexeme, Mode, lex, lex_byte, in_string, operator, space, other, tokens, punctuate}, specs.Json.{value, if_last}}
use Rattle.serde_json.{specs.Data.{Data, string}, specs.Read.{read, of_json, max_depth}}
use Rattle.ocppj_frame.specs.Reply.{escaped, json_string}

-- what is in a string is read as this text, whatever follows it
record Passes (written text : List ℕ) : Type 0 where
  told : (r : List ℕ) → content plain (written ++ r) ≡ prepend text (content plain r)
  lexed : (r : List ℕ) → lex in_string (written ++ r) ≡ lex in_string r

prepend-nil : (rest : Option (List ℕ)) → rest ≡ prepend [] rest
prepend-nil None = refl
prepend-nil (Some text) = refl

prepend-append : (s t : List ℕ) (rest : Option (List ℕ)) → prepend s (prepend t rest) ≡ prepend (s ++ t) rest
prepend-append s t None = refl
prepend-append s t (Some text) = ap Some (sym (append_assoc s t text))

none_passes : Passes [] []
none_passes = record { told = λ r. prepend-nil (content plain r); lexed = λ r. refl }

both_pass : (a b s t : List ℕ) → Passes a s → Passes b t → Passes (a ++ b) (s ++ t)
both_pass a b s t first second = record {
  told = λ r. ap (content plain) (append_assoc a b r) ∙ first.told (b ++ r) ∙ ap (prepend s) (second.told r) ∙ prepend-append s t (content plain r);
  lexed = λ r. ap (lex in_string) (append_assoc a b r) ∙ first.lexed (b ++ r) ∙ second.lexed r;
}

stays_inside : (o s : Bool) (x : ℕ) (r : List ℕ) (k : Mode → List Lexeme) → lex_byte in_string (cond o operator (cond s space other)) x r k ≡ k in_string
stays_inside true s x r k = refl
stays_inside false true x r k = refl
stays_inside false false x r k = refl

-- a byte that is no control character, quote or backslash
byte_passes : (x : ℕ) → x ≢ 34 → x ≢ 92 → 32 ≤ x → Passes (x ∷ []) (x ∷ [])
unfolding content lex
byte_passes x no_quote no_backslash no_control = record {
  told = λ r. rw (ne_eqb x 34 no_quote, ne_eqb x 92 no_backslash, le-ltb x 32 no_control);
  lexed = λ r. rw (ne_eqb x 34 no_quote, ne_eqb x 92 no_backslash) (stays_inside (is_operator x) (is_space x) x r (λ mode. lex mode r));
}

high_passes : (x : ℕ) → 128 ≤ x → Passes (x ∷ []) (x ∷ [])
high_passes x high = byte_passes x (λ e. omega arith) (λ e. omega arith) (omega arith)

if_passes : (b : Bool) (xs ys : List ℕ) → Passes xs xs → Passes ys ys → Passes (cond b xs ys) (cond b xs ys)
if_passes true xs ys first second = first
if_passes false xs ys first second = second

-- a character that is no control character, quote or backslash
plain_passes : (c : ℕ) → c ≢ 34 → c ≢ 92 → 32 ≤ c → Passes (encode c) (encode c)
unfolding encode
plain_passes c no_quote no_backslash no_control =
    let next : (n : ℕ) → Passes ((128 + n % 64) ∷ []) ((128 + n % 64) ∷ []) = λ n. high_passes (128 + n % 64) (omega arith) in
    let two : Passes ((192 + c / 64) ∷ (128 + c % 64) ∷ []) ((192 + c / 64) ∷ (128 + c % 64) ∷ []) =
    both_pass _ _ _ _ (high_passes (192 + c / 64) (omega arith)) (next c) in
    let last_two : Passes ((128 + c / 64 % 64) ∷ (128 + c % 64) ∷ []) ((128 + c / 64 % 64) ∷ (128 + c % 64) ∷ []) =
    both_pass _ _ _ _ (next (c / 64)) (next c) in
    let three = both_pass _ _ _ _ (high_passes (224 + c / 4096) (omega arith)) last_two in
    let four = both_pass _ _ _ _ (high_passes (240 + c / 262144) (omega arith)) (both_pass _ _ _ _ (next (c / 4096)) last_two) in
    if_passes (nat_lt c 128) _ _ (byte_passes c no_quote no_backslash no_control)
    (if_passes (nat_lt c 2048) _ _ two (if_passes (nat_lt c 65536) _ _ three four))

-- a quote and a backslash
quote_passes : Passes (92 ∷ 34 ∷ []) (encode 34)
unfolding content lex short_escape encode
quote_passes = record { told = λ r. refl; lexed = λ r. refl }

backslash_passes : Passes (92 ∷ 92 ∷ []) (encode 92)
unfolding content lex short_escape encode
backslash_passes = record { told = λ r. refl; lexed = λ r. refl }

-- a hexadecimal digit
digit_or_letter : (is_digit : Bool) (d : ℕ) → nat_lt d 10 ≡ is_digit → d < 16 → Passes (cond is_digit (48 + d) (87 + d) ∷ []) (cond is_digit (48 + d) (87 + d) ∷ [])
digit_or_letter true d e small = byte_passes (48 + d) (λ same. omega arith) (λ same. omega arith) (omega arith)
digit_or_letter false d e small =
    let letter : 10 ≤ d = ltb-false d 10 e in
    byte_passes (87 + d) (λ same. omega arith) (λ same. omega arith) (omega arith)

digit_passes : (d : ℕ) → d < 16 → Passes (digit_char d ∷ []) (digit_char d ∷ [])
digit_passes d small = digit_or_letter (nat_lt d 10) d refl small

-- the four digits of a control character are its code
code_of : (c : ℕ) → c < 32 → code_unit 48 48 (digit_char (c / 16)) (digit_char (c % 16)) ≡ Some c
unfolding code_unit
code_of c small =
    let high : c / 16 < 16 = omega arith in
    let low : c % 16 < 16 = omega arith in
    rw (
      digit_value-digit_char (c / 16) (omega arith),
      digit_value-digit_char (c % 16) (omega arith),
      lt-ltb (c / 16) 16 high,
      lt-ltb (c % 16) 16 low,
    ) (ap Some (omega arith))

-- a control character
control_passes : (c : ℕ) → c < 32 → Passes (92 ∷ 117 ∷ 48 ∷ 48 ∷ digit_char (c / 16) ∷ digit_char (c % 16) ∷ []) (encode c)
unfolding content lex
control_passes c small =
    let digits = both_pass _ _ _ _ (digit_passes (c / 16) (omega arith)) (digit_passes (c % 16) (omega arith)) in
    record {
      told = λ r. rw (code_of c small, lt-leb 0xd800 c (omega arith), lt-leb 0xdc00 c (omega arith));
      lexed = λ r. digits.lexed r;
    }

-- any character
escaped_passes : (c : ℕ) → Passes (escaped c) (encode c)
escaped_passes c = go (cases_eq c 34) (cases_eq c 92) (cases_lt c 32)
  where
    go : (c ≡ 34) ⊎ (c ≡ 34 → ⊥) → (c ≡ 92) ⊎ (c ≡ 92 → ⊥) → (c < 32) ⊎ (32 ≤ c) → Passes (escaped c) (encode c)
    go (inl e) b d = subst (λ x. Passes (escaped x) (encode x)) (sym e) quote_passes
    go (inr q) (inl e) d = subst (λ x. Passes (escaped x) (encode x)) (sym e) backslash_passes
    go (inr q) (inr b) (inl small) = rw (ne_eqb c 34 q, ne_eqb c 92 b, lt-ltb c 32 small) (control_passes c small)
    go (inr q) (inr b) (inr large) = rw (ne_eqb c 34 q, ne_eqb c 92 b, le-ltb c 32 large) (plain_passes c q b large)

all_pass : (cs : List ℕ) → Passes (flat_map escaped cs) (encode_utf8_all cs)
all_pass [] = none_passes
all_pass (c ∷ cs) = both_pass (escaped c) (flat_map escaped cs) (encode c) (encode_utf8_all cs) (escaped_passes c) (all_pass cs)

content_of : (cs : List ℕ) → content plain (flat_map escaped cs ++ 34 ∷ []) ≡ Some (encode_utf8_all cs)
unfolding content
content_of cs = (all_pass cs).told (34 ∷ []) ∙ ap Some (append-nil (encode_utf8_all cs))

lexemes_of : (cs : List ℕ) → lex in_string (flat_map escaped cs ++ 34 ∷ []) ≡ []
unfolding lex
lexemes_of cs = (all_pass cs).lexed (34 ∷ [])

tokens_of : (cs : List ℕ) → tokens (34 ∷ (flat_map escaped cs ++ 34 ∷ [])) ≡ Token.string (encode_utf8_all cs) ∷ []
unfolding lex punctuate
tokens_of cs = rw (content_of cs, lexemes_of cs)

-- the tree of a text's tokens
tree_of_tokens : List Token → Option Data
tree_of_tokens ts = option_and_then of_json (option_and_then (λ p. if_last p.0 p.1) (value max_depth ts))

tree_of_string : (text : List ℕ) → tree_of_tokens (Token.string text ∷ []) ≡ Some (string text)
unfolding tree_of_tokens value
tree_of_string text = refl

-- a JSON string is read as the text that it was written for
pub read-json_string : (text : List ℕ) → IsUtf8 text → read (json_string text) ≡ Some (string text)
unfolding tree_of_tokens
read-json_string text utf8 =
    ap tree_of_tokens (tokens_of (chars text)) ∙ tree_of_string (encode_utf8_all (chars text)) ∙ ap (λ t. Some (string t)) (encodes-chars text utf8)
