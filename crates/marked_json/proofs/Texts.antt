-- The marked text of a text of UTF-8 is one.
use Rattle.std.{proofs.Common.{◌≡◌, ◌<◌, ◌≤◌, ◌+◌, ◌⊎◌, inl, inr, ℕ, zero, suc, Bool, true, false, cond, eqb, not, List, [], ◌∷◌, ◌++◌, take, drop, get_or, length, Ok, Err, refl, ap, sym, subst, ◌∙◌, arith, append_assoc, append-nil}, specs.List.prefix_len, specs.Str.{IsUtf8, IsAscii, IsCharBoundary}, proofs.lemmas.Bool.cases_lt, proofs.lemmas.Bool.Decides.nat_tests, proofs.lemmas.List.{length-drop, get_or-drop, at_drop_more, take_more, take_all}, proofs.lemmas.Str.{IsUtf8-append, IsUtf8-take, IsUtf8-drop, IsUtf8-from_ascii, IsCharBoundary-after_ascii, IsCharBoundary-before_ascii}}
use Rattle.marked_json.{specs.Number.is_number, specs.Marking.{Marks, with_front, marked, outside, marked_token, is_before_colon, begins_number, goes_on_number}, specs.Steps.string_len, specs.declared.fault.JsonFault.TheVariants.{BadNumber, NumberAsKey}, proofs.Cuts.{IsCharBoundary-token, number_ascii}, proofs.Marks.{marked-plain, marked-at_quote, marked-string, marked-at_number, completed-end, token_is_some}}

-- what follows a front that was marked
ok_behind : (front : List ℕ) (m : Marks) (out : List ℕ) → with_front front m ≡ Ok out → (rest : List ℕ) × (m ≡ Ok rest) × (out ≡ front ++ rest)
ok_behind front (Ok rest) out h = (rest, refl, cc h)
ok_behind front (Err fault) out h = absurd (cc h)

-- a token that is put is put as it is
ok_token : (token left : List ℕ) (more : Marks) (out : List ℕ) → marked_token token left more ≡ Ok out → with_front (34 ∷ 35 ∷ (token ++ 34 ∷ [])) more ≡ Ok out
ok_token token left more out h = by (is_number token) (is_before_colon left) h where
  by : (b k : Bool) → cond (not b) (Err BadNumber) (cond k (Err NumberAsKey) (with_front (34 ∷ 35 ∷ (token ++ 34 ∷ [])) more)) ≡ Ok out → with_front (34 ∷ 35 ∷ (token ++ 34 ∷ [])) more ≡ Ok out
  by true false h = h
  by true true h = absurd (cc h)
  by false k h = absurd (cc h)

pub string_len-within : (escaped : Bool) (cs : List ℕ) → string_len escaped cs ≤ length cs
unfolding string_len
string_len-within escaped [] = omega arith
string_len-within true (c ∷ cs) = omega (arith, string_len-within false cs)
string_len-within false (c ∷ cs) = by (eqb c 34) (string_len-within (eqb c 92) cs) where
  by : (b : Bool) → string_len (eqb c 92) cs ≤ length cs → cond b 1 (suc (string_len (eqb c 92) cs)) ≤ suc (length cs)
  by true more = omega arith
  by false more = omega arith

only_ascii : (c : ℕ) → c < 128 → IsAscii (c ∷ [])
only_ascii c low zero = low
only_ascii c low (suc i) = omega arith

ascii_alone : (c : ℕ) → c < 128 → IsUtf8 (c ∷ [])
ascii_alone c low = IsUtf8-from_ascii (c ∷ []) (only_ascii c low)

-- a front that was copied, and behind it what was marked of at most n bytes
abbrev pub MarksBehind : ℕ → Type 0
MarksBehind n = (rest : List ℕ) (seen : ℕ) (more : List ℕ) → seen ≤ length rest → length rest < n + seen → IsUtf8 rest → marked outside (drop seen rest) ≡ Ok more → IsUtf8 (take seen rest ++ more)

behind_step : (n : ℕ) → MarksBehind n → MarksBehind (suc n)
behind_step n marked_behind rest seen more within few u h = by_end (cases_lt seen (length rest)) where
  c : ℕ
  c = get_or rest seen 0

  left : List ℕ
  left = drop (seen + 1) rest

  by_quote : seen < length rest → eqb c 34 ≡ true → IsUtf8 (take seen rest ++ more)
  by_quote some quote =
      let is : c ≡ 34 = grind (quote, arith, nat_tests) in
      let cut : IsCharBoundary rest (seen + 1) = IsCharBoundary-after_ascii rest seen u some (omega (arith, is)) in
      let k = string_len false left in
      let first : marked outside (drop seen rest) ≡ with_front (34 ∷ 36 ∷ []) (with_front (take k left) (marked outside (drop k left))) =
      at_drop_more (marked outside) rest seen 0 some ∙ ap (λ x. marked outside (x ∷ left)) is ∙ marked-at_quote left ∙ ap (with_front (34 ∷ 36 ∷ [])) (marked-string false left) in
      let behind = ok_behind (34 ∷ 36 ∷ []) (with_front (take k left) (marked outside (drop k left))) more (sym first ∙ h) in
      let string = ok_behind (take k left) (marked outside (drop k left)) behind.0 behind.1 in
      let later : IsUtf8 (take k left ++ string.0) =
      marked_behind left k string.0 (string_len-within false left) (omega (arith, length-drop (seen + 1) rest)) (IsUtf8-drop rest (seen + 1) u cut) string.1 in
      let inside : IsUtf8 (36 ∷ behind.0) = IsUtf8-append (36 ∷ []) behind.0 (ascii_alone 36 (omega arith)) (subst IsUtf8 (sym string.2) later) in
      let all : IsUtf8 (take (seen + 1) rest ++ 36 ∷ behind.0) = IsUtf8-append (take (seen + 1) rest) (36 ∷ behind.0) (IsUtf8-take rest (seen + 1) u cut) inside in
      let front : take (seen + 1) rest ≡ take seen rest ++ 34 ∷ [] = take_more rest seen 0 some ∙ ap (λ x. take seen rest ++ x ∷ []) is in
      let same : take (seen + 1) rest ++ 36 ∷ behind.0 ≡ take seen rest ++ more =
      ap (λ xs. xs ++ 36 ∷ behind.0) front ∙ append_assoc (take seen rest) (34 ∷ []) (36 ∷ behind.0) ∙ ap (λ xs. take seen rest ++ xs) (sym behind.2) in
      subst IsUtf8 same all

  by_number : seen < length rest → begins_number c ≡ true → IsUtf8 (take seen rest ++ more)
  by_number some begins =
      let numeral = drop seen rest in
      let cut : IsCharBoundary rest seen = IsCharBoundary-before_ascii rest seen some (number_ascii c begins) in
      let text : IsUtf8 numeral = IsUtf8-drop rest seen u cut in
      let k = prefix_len goes_on_number numeral in
      let end : IsCharBoundary numeral k = IsCharBoundary-token numeral k text refl in
      let here : begins_number (get_or numeral 0 0) ≡ true = ap begins_number (get_or-drop seen rest 0 0 ∙ ap (λ i. get_or rest i 0) (let e : seen + 0 ≡ seen = omega arith in e)) ∙ begins in
      let token : marked outside numeral ≡ marked_token (take k numeral) (drop k numeral) (marked outside (drop k numeral)) = marked-at_number numeral (omega (arith, length-drop seen rest)) here in
      let put = ok_token (take k numeral) (drop k numeral) (marked outside (drop k numeral)) more (sym token ∙ h) in
      let behind = ok_behind (34 ∷ 35 ∷ (take k numeral ++ 34 ∷ [])) (marked outside (drop k numeral)) more put in
      let some_digit : 0 < k = token_is_some rest seen k some begins refl in
      let later : IsUtf8 behind.0 = marked_behind (drop k numeral) 0 behind.0 (omega arith) (omega (arith, length-drop k numeral, length-drop seen rest)) (IsUtf8-drop numeral k text end) behind.1 in
      let quoted : IsUtf8 (take k numeral ++ 34 ∷ []) = IsUtf8-append (take k numeral) (34 ∷ []) (IsUtf8-take numeral k text end) (ascii_alone 34 (omega arith)) in
      let marks : IsUtf8 (34 ∷ 35 ∷ []) = IsUtf8-append (34 ∷ []) (35 ∷ []) (ascii_alone 34 (omega arith)) (ascii_alone 35 (omega arith)) in
      let tail : IsUtf8 ((34 ∷ 35 ∷ []) ++ ((take k numeral ++ 34 ∷ []) ++ behind.0)) =
      IsUtf8-append (34 ∷ 35 ∷ []) ((take k numeral ++ 34 ∷ []) ++ behind.0) marks (IsUtf8-append (take k numeral ++ 34 ∷ []) behind.0 quoted later) in
      IsUtf8-append (take seen rest) more (IsUtf8-take rest seen u cut) (subst IsUtf8 (sym behind.2) tail)

  by_plain : seen < length rest → eqb c 34 ≡ false → begins_number c ≡ false → IsUtf8 (take seen rest ++ more)
  by_plain some no_quote no_number =
      let first : marked outside (drop seen rest) ≡ with_front (c ∷ []) (marked outside left) = at_drop_more (marked outside) rest seen 0 some ∙ marked-plain c left no_quote no_number in
      let behind = ok_behind (c ∷ []) (marked outside left) more (sym first ∙ h) in
      let later : IsUtf8 (take (seen + 1) rest ++ behind.0) = marked_behind rest (seen + 1) behind.0 (omega arith) (omega arith) u behind.1 in
      let same : take (seen + 1) rest ++ behind.0 ≡ take seen rest ++ more =
      ap (λ xs. xs ++ behind.0) (take_more rest seen 0 some) ∙ append_assoc (take seen rest) (c ∷ []) behind.0 ∙ ap (λ xs. take seen rest ++ xs) (sym behind.2) in
      subst IsUtf8 same later

  by_tests : seen < length rest → (q b : Bool) → eqb c 34 ≡ q → begins_number c ≡ b → IsUtf8 (take seen rest ++ more)
  by_tests some true b q_is b_is = by_quote some q_is
  by_tests some false true q_is b_is = by_number some b_is
  by_tests some false false q_is b_is = by_plain some q_is b_is

  by_end : (seen < length rest) ⊎ (length rest ≤ seen) → IsUtf8 (take seen rest ++ more)
  by_end (inl some) = by_tests some (eqb c 34) (begins_number c) refl refl
  by_end (inr all) =
      let none : with_front [] (marked outside (drop seen rest)) ≡ Ok [] = completed-end [] rest seen all in
      let empty : more ≡ [] = cc (sym (ap (with_front []) h) ∙ none) in
      let whole : take seen rest ++ more ≡ rest = ap (λ xs. take seen rest ++ xs) empty ∙ append-nil (take seen rest) ∙ take_all seen rest all in
      subst IsUtf8 (sym whole) u

marks_behind : (n : ℕ) → MarksBehind n
marks_behind zero = λ rest seen more within few u h. absurd (omega arith)
marks_behind (suc n) = behind_step n (marks_behind n)

-- the marked text of a text of UTF-8 is one
pub IsUtf8-marked : (text marks : List ℕ) → IsUtf8 text → marked outside text ≡ Ok marks → IsUtf8 marks
IsUtf8-marked text marks u h = marks_behind (suc (length text)) text 0 marks (omega arith) (omega arith) u h
