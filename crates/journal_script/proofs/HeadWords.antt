-- Lines of words, and what they say.
use Rattle.std.{proofs.Common.{◌≡◌, ℕ, zero, suc, ◌+◌, ◌-◌, ◌*◌, ◌^◌, ◌<◌, ◌≤◌, Bool, true, false, not, cond, ◌&&◌, ◌||◌, eqb, leb, ltb, List, [], ◌∷◌, ◌++◌, All, None, Some, decimal, flat_map, length, get_or, take, drop, refl, sym, ap, ◌∙◌, inl, inr, arith, rules, append_assoc, append-nil, length-append}, specs.Char.is_ascii_digit, specs.Io.BufRead.{ends_with_byte, strip_last}, specs.List.{list_all, position_or_len}, specs.Option.option_map_or, specs.Str.IsUtf8, specs.Str.Parse.digits_value, proofs.lemmas.Bool.{and_from, and_parts, and_right, cases_lt, false≢true, leb-true, le-leb, lt-ltb, ne_eqb, not_from_false, or_left}, proofs.lemmas.Bool.Decides.nat_tests, proofs.lemmas.Fmt.{decimal_nonempty, digits_decimal, digits_value-decimal, first_decimal, length-decimal-le}, proofs.lemmas.List.{get_or_append_left, get_or_past}, proofs.lemmas.List.Elements.{All-head, All-tail}, proofs.lemmas.List.Folds.list_all-append, proofs.lemmas.List.Sums.{AllPass-from_list_all, position_or_len_is}, proofs.lemmas.Str.{IsUtf8-from_ascii, is_utf8-from_IsUtf8}, proofs.lemmas.Str.Parse.{IsNumeralModel, numerals_by_value}, proofs.Math.Seq.{drop-append_seam, get_or-append_seam, take-append_seam}}
use Rattle.ledger_model.specs.Name.{is_name}
use Rattle.kept_desk.proofs.Written.{short_name}
use Rattle.script_lines.{proofs.MessageLines.{is_word_byte, name_word}, specs.declared.script_line.LineFault.TheVariants.BadLine, specs.LineMeaning.{LineMeaning, ◌>>=◌, by_bytes, by_first_word, by_text, by_words, fails, is_number, is_space, line_meaning, number, parted, words}, specs.Lines.HasNoFeed, specs.Ranges.longest_line}

-- ---- as in script_lines

not_a_space : (c : ℕ) → is_word_byte c ≡ true → is_space c ≡ false
not_a_space c h = grind (arith, nat_tests)

-- a word without a space is parted from what is behind a space
parted_word : (word rest : List ℕ) → list_all is_word_byte word ≡ true → parted (word ++ 32 ∷ rest) ≡ Some (word, rest)
parted_word word rest h =
    let text = word ++ 32 ∷ rest in
    let none = λ (k : ℕ) (less : k < length word). ap is_space (get_or_append_left word (32 ∷ rest) 0 k less) ∙ not_a_space (get_or word k 0) (AllPass-from_list_all is_word_byte word h k 0 less) in
    let at : position_or_len is_space text ≡ length word =
    position_or_len_is is_space text (length word) 0 (omega (arith, length-append word (32 ∷ rest))) none (λ less. ap is_space (get_or-append_seam word 32 rest 0)) in
    let within : ltb (length word) (length text) ≡ true = grind (arith, nat_tests, length-append word (32 ∷ rest)) in
    let longer : length word + 1 ≡ length (word ++ 32 ∷ []) = omega (arith, length-append word (32 ∷ [])) in
    let back : drop (length word + 1) text ≡ rest =
    ap (λ k. drop k text) longer ∙ ap (drop (length (word ++ 32 ∷ []))) (sym (append_assoc word (32 ∷ []) rest)) ∙ drop-append_seam (word ++ 32 ∷ []) rest in
    ap (λ k. cond (ltb k (length text)) (Some (take k text, drop (k + 1) text)) None) at
    ∙ ap (λ b. cond b (Some (take (length word) text, drop (length word + 1) text)) None) within
    ∙ (λ i. Some (take-append_seam word (32 ∷ rest) i, back i))

-- the test finds just the texts of digits
own_digits : IsNumeralModel (λ ds. list_all is_ascii_digit ds ≡ true) (digits_value 10)
own_digits = numerals_by_value _ (search rules)

-- ---- lines of words

-- a byte of a line of words: a visible one of ASCII, or a space
abbrev is_line_byte : ℕ → Bool
is_line_byte c = leb 32 c && ltb c 128

-- a word of such a line
pub record IsWord (word : List ℕ) : Type 0 where
  pub plain : list_all is_word_byte word ≡ true
  pub short : leb (length word) 64 ≡ true

-- words, each behind a space
abbrev pub behind : List (List ℕ) → List ℕ
behind ws = flat_map (λ w. 32 ∷ w) ws

-- the bytes are a line as they are, and it says this
pub record IsLine (line : List ℕ) (says : LineMeaning) : Type 0 where
  pub feedless : HasNoFeed line
  pub bare : strip_last 13 line ≡ line
  pub short : length line ≤ longest_line
  pub means : line_meaning (Some line) ≡ says

is_line-word : (c : ℕ) → is_word_byte c ≡ true → is_line_byte c ≡ true
is_line-word c h = grind (arith, nat_tests)

plain_word : (word : List ℕ) → list_all is_word_byte word ≡ true → list_all is_line_byte word ≡ true
plain_word [] h = refl
plain_word (c ∷ word) h =
    let both = and_parts (is_word_byte c) (list_all is_word_byte word) h in
    and_from (is_line_byte c) (list_all is_line_byte word) (is_line-word c both.0) (plain_word word both.1)

plain_both : (xs ys : List ℕ) → list_all is_line_byte xs ≡ true → list_all is_line_byte ys ≡ true → list_all is_line_byte (xs ++ ys) ≡ true
plain_both xs ys h g = list_all-append is_line_byte xs ys ∙ and_from (list_all is_line_byte xs) (list_all is_line_byte ys) h g

plain_behind : (ws : List (List ℕ)) → All IsWord ws → list_all is_line_byte (behind ws) ≡ true
plain_behind [] all = refl
plain_behind (w ∷ ws) all = plain_both w (behind ws) (plain_word w (All-head IsWord w ws all).plain) (plain_behind ws (All-tail IsWord w ws all))

short_behind : (ws : List (List ℕ)) → All IsWord ws → length (behind ws) ≤ 65 * length ws
short_behind [] all = omega arith
short_behind (w ∷ ws) all =
    let short : length w ≤ 64 = leb-true (length w) 64 (All-head IsWord w ws all).short in
    let rest = short_behind ws (All-tail IsWord w ws all) in
    omega (arith, short, rest, length-append w (behind ws))

byte_of : (line : List ℕ) (k d : ℕ) → list_all is_line_byte line ≡ true → k < length line → is_line_byte (get_or line k d) ≡ true
byte_of line k d h within = AllPass-from_list_all is_line_byte line h k d within

feedless : (line : List ℕ) → list_all is_line_byte line ≡ true → HasNoFeed line
feedless line h = λ k d within e. false≢true (ap is_line_byte (sym e) ∙ byte_of line k d h within)

no_return : (line : List ℕ) → list_all is_line_byte line ≡ true → ends_with_byte 13 line ≡ false
no_return [] h = refl
no_return (c ∷ line) h =
    let end = length (c ∷ line) - 1 in
    let within : end < length (c ∷ line) = omega arith in
    and_right (ltb 0 (length (c ∷ line))) (eqb (get_or (c ∷ line) end 0) 13)
    (ne_eqb (get_or (c ∷ line) end 0) 13 (λ e. false≢true (ap is_line_byte (sym e) ∙ byte_of (c ∷ line) end 0 h within)))

line_utf8 : (line : List ℕ) → list_all is_line_byte line ≡ true → IsUtf8 line
line_utf8 line h = IsUtf8-from_ascii line (λ i. elim (cases_lt i (length line)) [
  | inl within ↦ let low : ltb (get_or line i 0) 128 ≡ true = (and_parts (leb 32 (get_or line i 0)) (ltb (get_or line i 0) 128) (byte_of line i 0 h within)).1 in grind (arith, nat_tests)
  | inr past ↦ let none : get_or line i 0 ≡ 0 = get_or_past line i 0 past in omega arith
])

-- a line of such bytes is in a script as it is
pub plain_line : (line : List ℕ) (says : LineMeaning) → list_all is_line_byte line ≡ true → length line ≤ longest_line → line_meaning (Some line) ≡ says → IsLine line says
plain_line line says h short is = record {
  feedless = feedless line h;
  bare = ap (λ b. cond b (take (length line - 1) line) line) (no_return line h);
  short = short;
  means = is;
}

-- so many words are read
pub words_are : (n : ℕ) (w : List ℕ) (ws : List (List ℕ)) → length ws ≡ n → All IsWord (w ∷ ws) → words (suc n) (w ++ behind ws) ≡ w ∷ ws
words_are zero w [] count all = ap (λ l. l ∷ []) (append-nil w)
words_are zero w (v ∷ ws) count all = absurd (omega (arith, count))
words_are (suc n) w [] count all = absurd (omega (arith, count))
words_are (suc n) w (v ∷ ws) count all =
    ap (λ o. option_map_or (λ (ends : List ℕ × List ℕ). ends.0 ∷ words (suc n) ends.1) o ((w ++ behind (v ∷ ws)) ∷ [])) (parted_word w (v ++ behind ws) (All-head IsWord w (v ∷ ws) all).plain)
    ∙ ap (λ l. w ∷ l) (words_are n v ws (omega (arith, count)) (All-tail IsWord w (v ∷ ws) all))

-- a line of words says what its first word makes of the others
pub words_say : (first w : List ℕ) (ws : List (List ℕ)) (says : LineMeaning) → list_all is_word_byte first ≡ true → All IsWord (w ∷ ws)
    → leb (length first + 65 * length (w ∷ ws)) longest_line ≡ true → by_bytes (first ++ behind (w ∷ ws)) ≡ by_words (first ++ behind (w ∷ ws))
    → by_first_word (first, w ++ behind ws) ≡ says → IsLine (first ++ behind (w ∷ ws)) says
words_say first w ws says h all short begins is =
    let line = first ++ behind (w ∷ ws) in
    let plain : list_all is_line_byte line ≡ true = plain_both first (behind (w ∷ ws)) (plain_word first h) (plain_behind (w ∷ ws) all) in
    let few : length line ≤ longest_line =
    omega (arith, leb-true (length first + 65 * length (w ∷ ws)) longest_line short, short_behind (w ∷ ws) all, length-append first (behind (w ∷ ws))) in
    plain_line line says plain few
    (begins ∙ ap (λ b. cond b (by_text line) (fails BadLine)) (is_utf8-from_IsUtf8 line (line_utf8 line plain))
    ∙ ap (λ o. o >>= by_first_word) (parted_word first (w ++ behind ws) h) ∙ is)

-- ---- names and numbers

pub is_word-name : (name : List ℕ) → is_name name ≡ true → IsWord name
is_word-name name h =
    record { plain = name_word name h; short = le-leb (length name) 64 (omega (arith, short_name name h)) }

is_word-digit : (c : ℕ) → is_ascii_digit c ≡ true → is_word_byte c ≡ true
is_word-digit c h = grind (arith, nat_tests)

digits_plain : (ds : List ℕ) → list_all is_ascii_digit ds ≡ true → list_all is_word_byte ds ≡ true
digits_plain [] h = refl
digits_plain (c ∷ ds) h =
    let both = and_parts (is_ascii_digit c) (list_all is_ascii_digit ds) h in
    and_from (is_word_byte c) (list_all is_word_byte ds) (is_word-digit c both.0) (digits_plain ds both.1)

pub is_word-decimal : (n : ℕ) → n < 2 ^ 64 → IsWord (decimal n)
is_word-decimal n h =
    let short : length (decimal n) ≤ 20 = length-decimal-le 20 n (omega arith) (omega (arith, h)) h in
    record { plain = digits_plain (decimal n) (digits_decimal own_digits n h); short = le-leb (length (decimal n)) 64 (omega (arith, short)) }

-- a positive number is read from its digits
pub number_read : (n : ℕ) → 0 < n → n < 2 ^ 64 → number (decimal n) ≡ Some n
number_read n some h =
    let text = decimal n in
    let first = first_decimal n some h in
    let plain : is_number text ≡ true =
    and_from (ltb 0 (length text)) (list_all is_ascii_digit text && (not (eqb (get_or text 0 0) 48) || eqb (length text) 1)) (lt-ltb 0 (length text) (decimal_nonempty n h))
    (and_from (list_all is_ascii_digit text) (not (eqb (get_or text 0 0) 48) || eqb (length text) 1) (digits_decimal own_digits n h)
    (or_left (not (eqb (get_or text 0 0) 48)) (eqb (length text) 1) (not_from_false (eqb (get_or text 0 0) 48) (ne_eqb (get_or text 0 0) 48 (λ e. omega (arith, e, first)))))) in
    ap (λ b. cond (b && ltb (digits_value 10 text) (2 ^ 64)) (Some (digits_value 10 text)) None) plain
    ∙ ap (λ v. cond (ltb v (2 ^ 64)) (Some v) None) (digits_value-decimal own_digits n h)
    ∙ ap (λ b. cond b (Some n) None) (lt-ltb n (2 ^ 64) h)
