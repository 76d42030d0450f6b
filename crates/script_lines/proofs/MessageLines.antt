-- What the line of a message says.
use Rattle.std.{proofs.Common.{◌≡◌, ℕ, ◌+◌, ◌<◌, Bool, true, false, cond, ◌&&◌, ltb, List, [], ◌∷◌, ◌++◌, None, Some, length, get_or, take, drop, refl, sym, ap, ◌∙◌, inl, inr, arith, append_assoc, length-append}, specs.Prelude.codes, specs.List.{list_all, position_or_len}, specs.Option.option_map_or, specs.Str.IsUtf8, proofs.lemmas.Bool.{and_from, and_parts, cases_lt}, proofs.lemmas.Bool.Decides.nat_tests, proofs.lemmas.List.{get_or_append_left, get_or_past}, proofs.lemmas.List.Sums.{AllPass-from_list_all, position_or_len_is}, proofs.lemmas.Str.{IsUtf8-append, IsUtf8-from_ascii, is_utf8-from_IsUtf8}, proofs.Math.Seq.{drop-append_seam, get_or-append_seam, take-append_seam}}
use Rattle.ledger_model.specs.Name.{is_name, is_name_character}
use Rattle.script_lines.{specs.declared.script_line.LineFault.TheVariants.BadLine, specs.LineMeaning.{◌>>=◌, by_first_word, by_text, fails, is_space, line_meaning, msg_line, parted, sends}}

-- a visible byte of ASCII
abbrev pub is_word_byte : ℕ → Bool
is_word_byte c = ltb 32 c && ltb c 128

not_a_space : (c : ℕ) → is_word_byte c ≡ true → is_space c ≡ false
not_a_space c h = grind (arith, nat_tests)

-- a word without a space is parted from what is behind a space
parted_word : (word rest : List ℕ) → list_all is_word_byte word ≡ true → parted (word ++ 32 ∷ rest) ≡ Some (word, rest)
parted_word word rest h =
    let text = word ++ 32 ∷ rest in
    let none = λ (k : ℕ) (less : k < length word). ap is_space (get_or_append_left word (32 ∷ rest) 0 k less) ∙ not_a_space (get_or word k 0) (AllPass-from_list_all is_word_byte word h k 0 less) in
    let at : position_or_len is_space text ≡ length word =
    position_or_len_is is_space text (length word) 0 (omega (arith, length-append word (32 ∷ rest))) none (λ less. ap is_space (get_or-append_seam word 32 rest 0)) in
    let within : ltb (length word) (length text) ≡ true = grind (arith, nat_tests, length-append word (32 ∷ rest)) in
    let longer : length word + 1 ≡ length (word ++ 32 ∷ []) = omega (arith, length-append word (32 ∷ [])) in
    let back : drop (length word + 1) text ≡ rest =
    ap (λ k. drop k text) longer ∙ ap (drop (length (word ++ 32 ∷ []))) (sym (append_assoc word (32 ∷ []) rest)) ∙ drop-append_seam (word ++ 32 ∷ []) rest in
    ap (λ k. cond (ltb k (length text)) (Some (take k text, drop (k + 1) text)) None) at
    ∙ ap (λ b. cond b (Some (take (length word) text, drop (length word + 1) text)) None) within
    ∙ (λ i. Some (take-append_seam word (32 ∷ rest) i, back i))

is_plain-name : (c : ℕ) → is_name_character c ≡ true → is_word_byte c ≡ true
is_plain-name c h = grind (arith, nat_tests)

are_plain-name : (name : List ℕ) → list_all is_name_character name ≡ true → list_all is_word_byte name ≡ true
are_plain-name [] h = refl
are_plain-name (c ∷ name) h =
    let both = and_parts (is_name_character c) (list_all is_name_character name) h in
    and_from (is_word_byte c) (list_all is_word_byte name) (is_plain-name c both.0) (are_plain-name name both.1)

-- a name is one word
pub name_word : (name : List ℕ) → is_name name ≡ true → list_all is_word_byte name ≡ true
name_word name h = are_plain-name name (and_parts _ _ h).1

ascii_utf8 : (bytes : List ℕ) → list_all (λ c. ltb c 128) bytes ≡ true → IsUtf8 bytes
ascii_utf8 bytes h = IsUtf8-from_ascii bytes (λ i. elim (cases_lt i (length bytes)) [
  | inl within ↦ let low : ltb (get_or bytes i 0) 128 ≡ true = AllPass-from_list_all (λ c. ltb c 128) bytes h i 0 within in grind (arith, nat_tests)
  | inr past ↦ let none : get_or bytes i 0 ≡ 0 = get_or_past bytes i 0 past in omega arith
])

word_ascii : (word : List ℕ) → list_all is_word_byte word ≡ true → list_all (λ c. ltb c 128) word ≡ true
word_ascii [] h = refl
word_ascii (c ∷ word) h =
    let both = and_parts (is_word_byte c) (list_all is_word_byte word) h in
    and_from (ltb c 128) (list_all (λ x. ltb x 128) word) (and_parts (ltb 32 c) (ltb c 128) both.0).1 (word_ascii word both.1)

-- the line of a message sends its text
pub msg_says : (station text : List ℕ) → IsUtf8 text → is_name station ≡ true → line_meaning (Some (codes "msg " ++ (station ++ 32 ∷ text))) ≡ sends station text
msg_says station text utf8 named =
    let rest = station ++ 32 ∷ text in
    let behind : IsUtf8 (32 ∷ text) = IsUtf8-append (32 ∷ []) text (ascii_utf8 (32 ∷ []) refl) utf8 in
    let whole : IsUtf8 (codes "msg " ++ rest) =
    IsUtf8-append (codes "msg ") rest (ascii_utf8 (codes "msg ") refl) (IsUtf8-append station (32 ∷ text) (ascii_utf8 station (word_ascii station (name_word station named))) behind) in
    ap (λ b. cond b (by_text (codes "msg " ++ rest)) (fails BadLine)) (is_utf8-from_IsUtf8 (codes "msg " ++ rest) whole)
    ∙ ap (λ o. o >>= by_first_word) (parted_word (codes "msg") rest refl)
    ∙ ap (λ o. msg_line (option_map_or (λ ends. ends.0 ∷ ends.1 ∷ []) o (rest ∷ []))) (parted_word station text (name_word station named))
    ∙ ap (λ b. cond b (Some station) None >>= (λ read. sends read text)) named
