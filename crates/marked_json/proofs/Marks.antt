-- What each step of the marking adds is what the definition says.
use Rattle.std.{proofs.Common.{◌≤◌, ◌||◌, ◌≡◌, ◌<◌, ◌+◌, ℕ, zero, suc, Bool, true, false, cond, eqb, not, List, [], ◌∷◌, ◌++◌, take, drop, get_or, length, Ok, Err, refl, ap, sym, ◌∙◌, append_assoc, append-nil, arith, ◌-◌, zero-le, subst, min, ◌⊎◌, inl, inr}, specs.List.{prefix_len, take_while}, proofs.lemmas.Bool.Decides.nat_tests, proofs.lemmas.List.{at_drop_more, at_drop_all, take_all, length-drop, get_or-drop, drop-drop, length-take-le, take-take}, proofs.Math.Seq.{drop-length, take-append-add}, proofs.lemmas.List.Sums.prefix_len_stops, proofs.lemmas.Bool.{false_from_ne_true, cases_lt}, proofs.lemmas.Grind.common_steps}
use Rattle.marked_json.{specs.Marking.{BytePlace, outside, in_number, in_string, after_backslash, Marks, with_front, marked, marked_token, marked_outside, is_before_colon, begins_number, goes_on_number}, specs.Number.is_number, specs.declared.fault.JsonFault.TheVariants.{BadNumber, NumberAsKey}, specs.Steps.{string_len, completed}}
use Rattle.memchr.specs.Find.{Nowhere, NoneBefore, Passes, is_byte2}

-- one front before another
pub with_front-with_front : (xs ys : List ℕ) (m : Marks) → with_front xs (with_front ys m) ≡ with_front (xs ++ ys) m
with_front-with_front xs ys (Ok zs) = ap Ok (sym (append_assoc xs ys zs))
with_front-with_front xs ys (Err e) = refl

pub with_front-nil : (m : Marks) → with_front [] m ≡ m
with_front-nil (Ok zs) = refl
with_front-nil (Err e) = refl

-- where a string is, by whether a backslash was just before
abbrev pub place_of : Bool → BytePlace
place_of true = after_backslash
place_of false = in_string

string_step : (c : ℕ) (cs : List ℕ) (q s : Bool) →
    (marked in_string cs ≡ with_front (take (string_len false cs) cs) (marked outside (drop (string_len false cs) cs))) →
    (marked after_backslash cs ≡ with_front (take (string_len true cs) cs) (marked outside (drop (string_len true cs) cs))) →
    with_front (c ∷ []) (cond q (marked outside cs) (cond s (marked after_backslash cs) (marked in_string cs)))
    ≡ with_front (take (cond q 1 (suc (string_len s cs))) (c ∷ cs)) (marked outside (drop (cond q 1 (suc (string_len s cs))) (c ∷ cs)))
string_step c cs true s plain escaped = refl
string_step c cs false true plain escaped = ap (with_front (c ∷ [])) escaped ∙ with_front-with_front (c ∷ []) _ _
string_step c cs false false plain escaped = ap (with_front (c ∷ [])) plain ∙ with_front-with_front (c ∷ []) _ _

-- inside a string all is copied up to its closing quote
pub marked-string : (escaped : Bool) (cs : List ℕ) → marked (place_of escaped) cs ≡ with_front (take (string_len escaped cs) cs) (marked outside (drop (string_len escaped cs) cs))
unfolding marked string_len
marked-string true [] = refl
marked-string false [] = refl
marked-string true (c ∷ cs) = ap (with_front (c ∷ [])) (marked-string false cs) ∙ with_front-with_front (c ∷ []) _ _
marked-string false (c ∷ cs) = string_step c cs (eqb c 34) (eqb c 92) (marked-string false cs) (marked-string true cs)

one_more-take : (n c : ℕ) (cs : List ℕ) → take (1 + n) (c ∷ cs) ≡ c ∷ take n cs
one_more-take n c cs = let e : 1 + n ≡ suc n = omega arith in rw e refl

one_more-drop : (n c : ℕ) (cs : List ℕ) → drop (1 + n) (c ∷ cs) ≡ drop n cs
one_more-drop n c cs = let e : 1 + n ≡ suc n = omega arith in rw e refl

-- the bytes of a number were written with its first
pub marked-number : (cs : List ℕ) → marked in_number cs ≡ marked outside (drop (prefix_len goes_on_number cs) cs)
unfolding marked
marked-number [] = refl
marked-number (c ∷ cs) = by_test (goes_on_number c) (marked-number cs) where
  by_test : (b : Bool) → marked in_number cs ≡ marked outside (drop (prefix_len goes_on_number cs) cs)
      → cond b (marked in_number cs) (marked_outside c cs (λ next. marked next cs)) ≡ marked outside (drop (cond b (1 + prefix_len goes_on_number cs) 0) (c ∷ cs))
  by_test true more = more ∙ sym (ap (marked outside) (one_more-drop (prefix_len goes_on_number cs) c cs))
  by_test false more = refl

no_branch : (q b : Bool) (string token plain : Marks) → q ≡ false → b ≡ false → cond q string (cond b token plain) ≡ plain
no_branch true b string token plain e h = cc
no_branch false true string token plain e h = cc
no_branch false false string token plain e h = refl

pub marked-plain : (c : ℕ) (cs : List ℕ) → eqb c 34 ≡ false → begins_number c ≡ false → marked outside (c ∷ cs) ≡ with_front (c ∷ []) (marked outside cs)
unfolding marked
marked-plain c cs no_quote no_number = no_branch (eqb c 34) (begins_number c) _ _ _ no_quote no_number

pub marked-at_quote : (cs : List ℕ) → marked outside (34 ∷ cs) ≡ with_front (34 ∷ 36 ∷ []) (marked in_string cs)
unfolding marked
marked-at_quote cs = refl

number_branch : (q b : Bool) (string token plain : Marks) → q ≡ false → b ≡ true → cond q string (cond b token plain) ≡ token
number_branch true b string token plain e h = cc
number_branch false true string token plain e h = refl
number_branch false false string token plain e h = cc

past_first : (b : Bool) (n c : ℕ) (cs : List ℕ) → b ≡ true → drop n cs ≡ drop (cond b (1 + n) 0) (c ∷ cs)
past_first true n c cs h = sym (one_more-drop n c cs)
past_first false n c cs h = cc

-- a number is marked as a whole
pub marked-at_number : (rest : List ℕ) → 0 < length rest → begins_number (get_or rest 0 0) ≡ true
    → marked outside rest ≡ marked_token (take_while goes_on_number rest) (drop (prefix_len goes_on_number rest) rest) (marked outside (drop (prefix_len goes_on_number rest) rest))
unfolding marked
marked-at_number [] some first = absurd (omega arith)
marked-at_number (c ∷ cs) some first =
    let no_quote : eqb c 34 ≡ false = grind (arith, nat_tests) in
    let goes : goes_on_number c ≡ true = grind (arith, nat_tests) in
    let token = marked_token (take_while goes_on_number (c ∷ cs)) (drop (prefix_len goes_on_number (c ∷ cs)) (c ∷ cs)) in
    let more : marked in_number cs ≡ marked outside (drop (prefix_len goes_on_number (c ∷ cs)) (c ∷ cs)) =
    marked-number cs ∙ ap (marked outside) (past_first (goes_on_number c) (prefix_len goes_on_number cs) c cs goes) in
    number_branch (eqb c 34) (begins_number c) (with_front (34 ∷ 36 ∷ []) (marked in_string cs)) (token (marked in_number cs)) (with_front (c ∷ []) (marked outside cs)) no_quote first
    ∙ ap token more

-- the steps, on what was written and what is left

-- a byte that means itself needs no mark
pub completed-plain : (old new rest : List ℕ) (at : ℕ) → at < length rest → eqb (get_or rest at 0) 34 ≡ false
    → begins_number (get_or rest at 0) ≡ false → new ≡ old ++ get_or rest at 0 ∷ []
    → completed new (drop (at + 1) rest) ≡ completed old (drop at rest)
completed-plain old new rest at within no_quote no_number added =
    let c = get_or rest at 0 in
    let left = drop (at + 1) rest in
    ap (λ xs. with_front xs (marked outside left)) added
    ∙ sym (with_front-with_front old (c ∷ []) (marked outside left))
    ∙ ap (with_front old) (sym (marked-plain c left no_quote no_number) ∙ sym (at_drop_more (marked outside) rest at 0 within))

-- `$` behind an opening quote, and the string needs no more marks
pub completed-string : (old new rest inside : List ℕ) (at n : ℕ) → at < length rest → get_or rest at 0 ≡ 34
    → inside ≡ drop (at + 1) rest → n ≡ string_len false inside → new ≡ (old ++ 34 ∷ 36 ∷ []) ++ take n inside
    → completed new (drop ((at + 1) + n) rest) ≡ completed old (drop at rest)
completed-string old new rest inside at n within quote left len added =
    let count = string_len false inside in
    let front = old ++ 34 ∷ 36 ∷ [] in
    let first : marked outside (drop at rest) ≡ marked outside (34 ∷ inside) =
    at_drop_more (marked outside) rest at 0 within ∙ ap (λ c. marked outside (c ∷ drop (at + 1) rest)) quote ∙ ap (λ cs. marked outside (34 ∷ cs)) (sym left) in
    let end : drop ((at + 1) + n) rest ≡ drop n inside = sym (ap (drop n) left ∙ drop-drop n (at + 1) rest) in
    ap (completed new) end
    ∙ ap (λ xs. completed xs (drop n inside)) added
    ∙ ap (λ k. completed (front ++ take k inside) (drop k inside)) len
    ∙ sym (with_front-with_front front (take count inside) (marked outside (drop count inside)))
    ∙ ap (with_front front) (sym (marked-string false inside))
    ∙ sym (with_front-with_front old (34 ∷ 36 ∷ []) (marked in_string inside))
    ∙ ap (with_front old) (sym (marked-at_quote inside) ∙ sym first)

-- what a token at the front of the rest does
pub completed-token : (old rest token left : List ℕ) (n : ℕ) → 0 < length rest → begins_number (get_or rest 0 0) ≡ true
    → n ≡ prefix_len goes_on_number rest → token ≡ take n rest → left ≡ drop n rest
    → completed old rest ≡ with_front old (marked_token token left (marked outside left))
completed-token old rest token left n some begins len front back =
    rw (front, back, len) (ap (with_front old) (marked-at_number rest some begins))

-- the same for a token at a place of the text
pub completed-token_at : (old text token left : List ℕ) (at n : ℕ) → at < length text → begins_number (get_or text at 0) ≡ true
    → n ≡ prefix_len goes_on_number (drop at text) → token ≡ take n (drop at text) → left ≡ drop n (drop at text)
    → completed old (drop at text) ≡ with_front old (marked_token token left (marked outside left))
completed-token_at old text token left at n some begins len front back =
    let first : begins_number (get_or (drop at text) 0 0) ≡ true = ap begins_number (get_or-drop at text 0 0 ∙ ap (λ i. get_or text i 0) (let e : at + 0 ≡ at = omega arith in e)) ∙ begins in
    completed-token old (drop at text) token left n (omega (arith, length-drop at text)) first len front back

-- a token has a byte at least
pub token_is_some : (text : List ℕ) (at n : ℕ) → at < length text → begins_number (get_or text at 0) ≡ true → n ≡ prefix_len goes_on_number (drop at text) → 0 < n
token_is_some text at n some begins is =
    let goes : goes_on_number (get_or text at 0) ≡ true = grind (arith, nat_tests) in
    by (goes_on_number (get_or text at 0)) (prefix_len goes_on_number (drop (at + 1) text)) goes (is ∙ at_drop_more (prefix_len goes_on_number) text at 0 some) where
      by : (b : Bool) (k : ℕ) → b ≡ true → n ≡ cond b (1 + k) 0 → 0 < n
      by true k h e = omega arith
      by false k h e = cc

-- no number is behind a token
pub token_is_whole : (text : List ℕ) (at n : ℕ) → n ≡ prefix_len goes_on_number (drop at text) → at + n < length text → begins_number (get_or text (at + n) 0) ≡ true → ⊥
token_is_whole text at n is more begins =
    let stops : goes_on_number (get_or (drop at text) (prefix_len goes_on_number (drop at text)) 0) ≡ false =
    prefix_len_stops goes_on_number (drop at text) 0 (omega (arith, is, length-drop at text)) in
    let there : goes_on_number (get_or text (at + n) 0) ≡ false = ap goes_on_number (sym (get_or-drop at text n 0)) ∙ ap (λ i. goes_on_number (get_or (drop at text) i 0)) is ∙ stops in
    let goes : goes_on_number (get_or text (at + n) 0) ≡ true = grind (begins, arith, nat_tests) in
    cc

bad_branch : (b : Bool) (bad other : Marks) → b ≡ false → cond (not b) bad other ≡ bad
bad_branch true bad other h = cc
bad_branch false bad other h = refl

pub marked_token-bad : (old token left : List ℕ) (more : Marks) → is_number token ≡ false → with_front old (marked_token token left more) ≡ Err BadNumber
marked_token-bad old token left more bad = ap (with_front old) (bad_branch (is_number token) (Err BadNumber) _ bad)

key_branch : (b k : Bool) (bad key other : Marks) → b ≡ true → k ≡ true → cond (not b) bad (cond k key other) ≡ key
key_branch true true bad key other h e = refl
key_branch true false bad key other h e = cc
key_branch false k bad key other h e = cc

pub marked_token-key : (old token left : List ℕ) (more : Marks) → is_number token ≡ true → is_before_colon left ≡ true → with_front old (marked_token token left more) ≡ Err NumberAsKey
marked_token-key old token left more good key = ap (with_front old) (key_branch (is_number token) (is_before_colon left) (Err BadNumber) (Err NumberAsKey) _ good key)

good_branch : (b k : Bool) (bad key other : Marks) → b ≡ true → k ≡ false → cond (not b) bad (cond k key other) ≡ other
good_branch true true bad key other h e = cc
good_branch true false bad key other h e = refl
good_branch false k bad key other h e = cc

pub marked_token-good : (old new token left : List ℕ) (more : Marks) → is_number token ≡ true → is_before_colon left ≡ false
    → new ≡ ((old ++ 34 ∷ 35 ∷ []) ++ token) ++ 34 ∷ [] → with_front new more ≡ with_front old (marked_token token left more)
marked_token-good old new token left more good no_key added =
    let same : new ≡ old ++ 34 ∷ 35 ∷ (token ++ 34 ∷ []) = added ∙ simp append_assoc in
    rw same
    (sym (with_front-with_front old (34 ∷ 35 ∷ (token ++ 34 ∷ [])) more)
    ∙ ap (with_front old) (sym (good_branch (is_number token) (is_before_colon left) (Err BadNumber) (Err NumberAsKey) (with_front (34 ∷ 35 ∷ (token ++ 34 ∷ [])) more) good no_key)))

-- bytes that are neither quotes nor backslashes go on a string
pub string_len-skip : (cs : List ℕ) (k : ℕ) → k ≤ length cs → ((j : ℕ) → j < k → (eqb (get_or cs j 0) 34 || eqb (get_or cs j 0) 92) ≡ false) → string_len false cs ≡ k + string_len false (drop k cs)
unfolding string_len
string_len-skip cs zero within none = let e : 0 + string_len false cs ≡ string_len false cs = omega arith in sym e
string_len-skip [] (suc k) within none = absurd (omega arith)
string_len-skip (c ∷ cs) (suc k) within none =
    let here : (eqb c 34 || eqb c 92) ≡ false = none 0 (omega arith) in
    let no_quote : eqb c 34 ≡ false = grind (arith, nat_tests) in
    let no_backslash : eqb c 92 ≡ false = grind (arith, nat_tests) in
    let more = string_len-skip cs k (omega arith) (λ j low. none (suc j) (omega arith)) in
    let step : cond (eqb c 34) 1 (suc (string_len (eqb c 92) cs)) ≡ suc (string_len false cs) =
    ap (λ q. cond q 1 (suc (string_len (eqb c 92) cs))) no_quote ∙ ap (λ s. suc (string_len s cs)) no_backslash in
    step ∙ omega (arith, more)

pub string_len-nil : (cs : List ℕ) → length cs ≡ 0 → string_len false cs ≡ 0
unfolding string_len
string_len-nil [] none = refl
string_len-nil (c ∷ cs) none = absurd (omega arith)

-- a quote ends a string
pub string_len-quote : (cs : List ℕ) (k : ℕ) → k < length cs → get_or cs k 0 ≡ 34 → string_len false (drop k cs) ≡ 1
unfolding string_len
string_len-quote cs k within quote = at_drop_more (string_len false) cs k 0 within ∙ ap (λ c. cond (eqb c 34) 1 (suc (string_len (eqb c 92) (drop (k + 1) cs)))) quote

-- the byte behind a backslash goes on a string
pub string_len-backslash : (cs : List ℕ) (k : ℕ) → k + 1 < length cs → get_or cs k 0 ≡ 92 → string_len false (drop k cs) ≡ 2 + string_len false (drop (k + 2) cs)
unfolding string_len
string_len-backslash cs k within backslash =
    let second : string_len true (drop (k + 1) cs) ≡ suc (string_len false (drop ((k + 1) + 1) cs)) = at_drop_more (string_len true) cs (k + 1) 0 within in
    let place : (k + 1) + 1 ≡ k + 2 = omega arith in
    let past : string_len false (drop ((k + 1) + 1) cs) ≡ string_len false (drop (k + 2) cs) = ap (λ i. string_len false (drop i cs)) place in
    let first : string_len false (drop k cs) ≡ suc (string_len true (drop (k + 1) cs)) =
    at_drop_more (string_len false) cs k 0 (omega arith) ∙ ap (λ c. cond (eqb c 34) 1 (suc (string_len (eqb c 92) (drop (k + 1) cs)))) backslash in
    first ∙ omega (arith, second, past)

-- a backslash with nothing behind it ends a string
pub string_len-last_backslash : (cs : List ℕ) (k : ℕ) → k + 1 ≡ length cs → get_or cs k 0 ≡ 92 → string_len false (drop k cs) ≡ 1
unfolding string_len
string_len-last_backslash cs k last backslash =
    let second : string_len true (drop (k + 1) cs) ≡ 0 = at_drop_all (string_len true) cs (k + 1) (omega arith) in
    let first : string_len false (drop k cs) ≡ suc (string_len true (drop (k + 1) cs)) =
    at_drop_more (string_len false) cs k 0 (omega arith) ∙ ap (λ c. cond (eqb c 34) 1 (suc (string_len (eqb c 92) (drop (k + 1) cs)))) backslash in
    first ∙ omega (arith, second)

-- at the end nothing is left to mark
pub completed-end : (written rest : List ℕ) (at : ℕ) → length rest ≤ at → completed written (drop at rest) ≡ Ok written
unfolding marked
completed-end written rest at all =
    let end : marked outside (drop at rest) ≡ Ok [] = at_drop_all (marked outside) rest at all in
    ap (with_front written) end ∙ ap Ok (append-nil written)

pub string_len-some_byte : (cs : List ℕ) (n : ℕ) → 0 < length cs → n ≡ string_len false cs → 0 < n
unfolding string_len
string_len-some_byte [] n some is = absurd (omega arith)
string_len-some_byte (c ∷ cs) n some is = by (eqb c 34) is where
  by : (b : Bool) → n ≡ cond b 1 (suc (string_len (eqb c 92) cs)) → 0 < n
  by true e = omega arith
  by false e = omega arith

-- the first of what was put
pub take_front : (len n k : ℕ) (new old ys : List ℕ) → k ≤ n → len ≤ length old → take (len + n) new ≡ take len old ++ ys → take (len + k) new ≡ take len old ++ take k ys
take_front len n k new old ys short within put =
    let long : length (take len old) ≡ len = length-take-le len old within in
    sym (take-take (len + k) (len + n) new (omega arith))
    ∙ ap (take (len + k)) put
    ∙ ap (λ i. take (i + k) (take len old ++ ys)) (sym long)
    ∙ take-append-add (take len old) ys k

-- what a search for a quote or a backslash says about a string

neither : (cs : List ℕ) (j : ℕ) → (is_byte2 34 92 (get_or cs j 0) ≡ true → ⊥) → (eqb (get_or cs j 0) 34 || eqb (get_or cs j 0) 92) ≡ false
neither cs j none = false_from_ne_true _ none

-- a search that found none
string_len-none : (cs : List ℕ) → Nowhere (Passes (is_byte2 34 92) cs) 0 (length cs) → string_len false cs ≡ length cs
string_len-none cs nowhere =
    let skip = string_len-skip cs (length cs) (omega arith) (λ j low. neither cs j (nowhere j zero-le low)) in
    let end : string_len false (drop (length cs) cs) ≡ 0 = ap (string_len false) (drop-length cs) ∙ string_len-nil [] refl in
    omega (arith, skip, end)

-- a search that found one
string_len-some : (cs : List ℕ) (k : ℕ) → NoneBefore (Passes (is_byte2 34 92) cs) 0 (length cs) k → string_len false cs ≡ k + string_len false (drop k cs)
string_len-some cs k first =
    let high = first.high in
    string_len-skip cs k (omega arith) (λ j low. neither cs j (first.before j zero-le low))

-- a quote that is the first of both ends a string
pub string_len-first_quote : (cs : List ℕ) (k : ℕ) → NoneBefore (Passes (is_byte2 34 92) cs) 0 (length cs) k → get_or cs k 0 ≡ 34 → k + 1 ≡ string_len false cs
string_len-first_quote cs k first quote =
    let len = string_len-some cs k first in
    let quoted = string_len-quote cs k first.high quote in
    omega (arith, len, quoted)

window : (bs : List ℕ) (at : ℕ) → take (length bs - at) (drop at bs) ≡ drop at bs
window bs at = take_all (length bs - at) (drop at bs) (omega (arith, length-drop at bs))

pub string_len-none_ahead : (bs : List ℕ) (at : ℕ) → at ≤ length bs
    → Nowhere (Passes (is_byte2 34 92) (take (length bs - at) (drop at bs))) 0 (length (take (length bs - at) (drop at bs)))
    → at + string_len false (drop at bs) ≡ length bs
string_len-none_ahead bs at within nowhere =
    let none = string_len-none (drop at bs) (subst (λ cs. Nowhere (Passes (is_byte2 34 92) cs) 0 (length cs)) (window bs at) nowhere) in
    omega (arith, none, length-drop at bs)

pub record FoundAhead (bs : List ℕ) (at k : ℕ) : Type 0 where
  pub within : at + k < length bs
  pub len : at + string_len false (drop at bs) ≡ (at + k) + string_len false (drop (at + k) bs)
  pub byte : (eqb (get_or bs (at + k) 0) 34 || eqb (get_or bs (at + k) 0) 92) ≡ true

pub found_ahead : (bs : List ℕ) (at k : ℕ) → at ≤ length bs
    → NoneBefore (Passes (is_byte2 34 92) (take (length bs - at) (drop at bs))) 0 (length (take (length bs - at) (drop at bs))) k
    → Passes (is_byte2 34 92) (take (length bs - at) (drop at bs)) k → FoundAhead bs at k
found_ahead bs at k within first passes =
    let first : NoneBefore (Passes (is_byte2 34 92) (drop at bs)) 0 (length (drop at bs)) k = subst (λ cs. NoneBefore (Passes (is_byte2 34 92) cs) 0 (length cs) k) (window bs at) first in
    let high = first.high in
    let byte : is_byte2 34 92 (get_or (drop at bs) k 0) ≡ true = subst (λ cs. Passes (is_byte2 34 92) cs k) (window bs at) passes in
    let len = string_len-some (drop at bs) k first in
    let rest : string_len false (drop k (drop at bs)) ≡ string_len false (drop (at + k) bs) = ap (string_len false) (drop-drop k at bs) in
    record {
      within = omega (arith, length-drop at bs);
      len = omega (arith, len, rest);
      byte = ap (is_byte2 34 92) (sym (get_or-drop at bs k 0)) ∙ byte;
    }

-- what the string has behind a place where the search stopped
pub found_quote : (bs : List ℕ) (at k : ℕ) → FoundAhead bs at k → get_or bs (at + k) 0 ≡ 34 → at + string_len false (drop at bs) ≡ at + k + 1
found_quote bs at k found quote =
    let quoted = string_len-quote bs (at + k) found.within quote in
    let len = found.len in
    omega (arith, quoted, len)

pub found_backslash : (bs : List ℕ) (at k : ℕ) → FoundAhead bs at k → (get_or bs (at + k) 0 ≡ 34 → ⊥)
    → min (at + k + 2) (length bs) + string_len false (drop (min (at + k + 2) (length bs)) bs) ≡ at + string_len false (drop at bs)
found_backslash bs at k found no_quote = by_end (cases_lt (at + k + 1) (length bs)) where
  byte : (eqb (get_or bs (at + k) 0) 34 || eqb (get_or bs (at + k) 0) 92) ≡ true
  byte = found.byte

  backslash : get_or bs (at + k) 0 ≡ 92
  backslash = grind (arith, nat_tests)

  by_end : (at + k + 1 < length bs) ⊎ (length bs ≤ at + k + 1) → min (at + k + 2) (length bs) + string_len false (drop (min (at + k + 2) (length bs)) bs) ≡ at + string_len false (drop at bs)
  by_end (inl more) =
      let place : min (at + k + 2) (length bs) ≡ at + k + 2 = grind (arith, common_steps) in
      let len = found.len in
      let step = string_len-backslash bs (at + k) more backslash in
      ap (λ i. i + string_len false (drop i bs)) place ∙ omega (arith, len, step)
  by_end (inr past) =
      let within = found.within in
      let place : min (at + k + 2) (length bs) ≡ length bs = grind (arith, common_steps) in
      let len = found.len in
      let step = string_len-last_backslash bs (at + k) (omega arith) backslash in
      let end : string_len false (drop (length bs) bs) ≡ 0 = ap (string_len false) (drop-length bs) ∙ string_len-nil [] refl in
      ap (λ i. i + string_len false (drop i bs)) place ∙ omega (arith, len, step, end, within)
