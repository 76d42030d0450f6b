-- Entries in rising order, cut at a key.
use Rattle.std.{proofs.Common.{◌≡◌, ℕ, zero, suc, ◌-◌, ◌<◌, ◌≤◌, List, [], ◌∷◌, ◌++◌, length, take, drop, get_or, slice_get, refl, sym, ap, ◌∙◌, cond, nat_lt, Bool, true, false, Some, None, arith, length-append}, proofs.lemmas.Bool.{eq-eqb, ltb-true, ltb-false}, proofs.lemmas.List.{drop_at, take_at}, proofs.lemmas.Bool.Decides.nat_tests}
use Rattle.key_index.specs.Entries.{below, from, filed_at, first_of, last_of, AreAbove, AreRising, AreBelow}

module _ {X : Type 0} where
  -- An entry before the key is in front.
  pub below_on : (key : ℕ) (e : ℕ × X) (es : List (ℕ × X)) → e.0 < key → below key (e ∷ es) ≡ e ∷ below key es
  below_on key e es lt = grind (arith, nat_tests)

  -- No entry is in front of the key where the first does not.
  pub below_end : (key : ℕ) (e : ℕ × X) (es : List (ℕ × X)) → key ≤ e.0 → below key (e ∷ es) ≡ []
  below_end key e es le = grind (arith, nat_tests)

  -- An entry before the key is passed over.
  pub from_on : (key : ℕ) (e : ℕ × X) (es : List (ℕ × X)) → e.0 < key → from key (e ∷ es) ≡ from key es
  from_on key e es lt = grind (arith, nat_tests)

  -- Where the first entry is not before the key, all are left.
  pub from_end : (key : ℕ) (e : ℕ × X) (es : List (ℕ × X)) → key ≤ e.0 → from key (e ∷ es) ≡ e ∷ es
  from_end key e es le = grind (arith, nat_tests)

  -- What is so of what is in front of a key and of what is left, by whether the first entry is before the key.
  pub cut_cases : (P : List (ℕ × X) → List (ℕ × X) → Type 0) (key : ℕ) (e : ℕ × X) (es : List (ℕ × X)) → (e.0 < key → P (e ∷ below key es) (from key es)) → (key ≤ e.0 → P [] (e ∷ es))
      → P (below key (e ∷ es)) (from key (e ∷ es))
  cut_cases P key e es on end = by_case (nat_lt e.0 key) (λ is. on (ltb-true e.0 key is)) (λ is. end (ltb-false e.0 key is))
    where
      by_case : (b : Bool) → (b ≡ true → P (e ∷ below key es) (from key es)) → (b ≡ false → P [] (e ∷ es)) → P (cond b (e ∷ below key es) []) (cond b (from key es) (e ∷ es))
      by_case true small great = small refl
      by_case false small great = great refl

  -- What is in front and what is left are the whole.
  pub cut_whole : (key : ℕ) (es : List (ℕ × X)) → below key es ++ from key es ≡ es
  cut_whole key [] = refl
  cut_whole key (e ∷ es) = cut_cases (λ front back. front ++ back ≡ e ∷ es) key e es (λ lt. ap (λ rest. e ∷ rest) (cut_whole key es)) (λ le. refl)

  -- No more are in front than there are.
  pub below_within : (key : ℕ) (es : List (ℕ × X)) → length (below key es) ≤ length es
  below_within key es = omega (arith, length-append (below key es) (from key es), ap length (cut_whole key es))

  -- What is in front is the part up to the key's place.
  pub take_below : (key : ℕ) (es : List (ℕ × X)) → take (length (below key es)) es ≡ below key es
  take_below key es = ap (take (length (below key es))) (sym (cut_whole key es)) ∙ take_at (below key es) (from key es) (length (below key es)) refl

  -- What is left is the part from the key's place on.
  pub drop_below : (key : ℕ) (es : List (ℕ × X)) → drop (length (below key es)) es ≡ from key es
  drop_below key es = ap (drop (length (below key es))) (sym (cut_whole key es)) ∙ drop_at (below key es) (from key es) (length (below key es)) refl

  -- Keys above a number are above a smaller one.
  pub above_less : (m n : ℕ) (es : List (ℕ × X)) → m ≤ n → AreAbove n es → AreAbove m es
  above_less m n [] le above = tt
  above_less m n (e ∷ es) le above = (omega (arith, above.0), above_less m n es le above.1)

  -- Where all are above a key, none is in front of it, and all are left.
  pub cut_none : (key n : ℕ) (es : List (ℕ × X)) → AreAbove n es → key ≤ n → (below key es ≡ []) × (from key es ≡ es)
  cut_none key n [] above le = (refl, refl)
  cut_none key n (e ∷ es) above le = let end : key ≤ e.0 = omega (arith, above.0) in (below_end key e es end, from_end key e es end)

  -- The last entry is that of the rest, if there is one.
  pub last_cons : (e f : ℕ × X) (es : List (ℕ × X)) → last_of (e ∷ f ∷ es) ≡ last_of (f ∷ es)
  last_cons e f es =
      let a : suc (suc (length es)) - 1 ≡ suc (length es) = omega arith in let b : suc (length es) - 1 ≡ length es = omega arith in
      ap (slice_get (e ∷ f ∷ es)) a ∙ sym (ap (slice_get (f ∷ es)) b)

  -- A list above a number, in two parts.
  pub above_parts : (n : ℕ) (xs ys : List (ℕ × X)) → AreAbove n (xs ++ ys) → AreAbove n xs × AreAbove n ys
  above_parts n [] ys above = (tt, above)
  above_parts n (x ∷ xs) ys above = let rest = above_parts n xs ys above.1 in ((above.0, rest.0), rest.1)

  -- Two lists above a number, as one.
  pub above_both : (n : ℕ) (xs ys : List (ℕ × X)) → AreAbove n xs → AreAbove n ys → AreAbove n (xs ++ ys)
  above_both n [] ys a b = b
  above_both n (x ∷ xs) ys a b = (a.0, above_both n xs ys a.1 b)

  -- A rising list, in two parts.
  pub rising_parts : (xs ys : List (ℕ × X)) → AreRising (xs ++ ys) → AreRising xs × AreRising ys
  rising_parts [] ys rising = (tt, rising)
  rising_parts (x ∷ xs) ys rising = let rest = rising_parts xs ys rising.1 in (((above_parts x.0 xs ys rising.0).0, rest.0), rest.1)

  -- Two lists below a number, as one.
  pub below_both : (n : ℕ) (xs ys : List (ℕ × X)) → AreBelow n xs → AreBelow n ys → AreBelow n (xs ++ ys)
  below_both n [] ys a b = b
  below_both n (x ∷ xs) ys a b = (a.0, below_both n xs ys a.1 b)

  -- A list below a number is below a greater one.
  pub below_more : (m n : ℕ) (xs : List (ℕ × X)) → m ≤ n → AreBelow m xs → AreBelow n xs
  below_more m n [] le a = tt
  below_more m n (x ∷ xs) le a = (omega (arith, a.0), below_more m n xs le a.1)

  -- A key at a place is above the number.
  pub above_at : (n : ℕ) (es : List (ℕ × X)) (i : ℕ) (d : ℕ × X) → AreAbove n es → i < length es → n < (get_or es i d).0
  above_at n [] i d above lt = absurd (omega arith)
  above_at n (e ∷ es) zero d above lt = above.0
  above_at n (e ∷ es) (suc i) d above lt = above_at n es i d above.1 (omega arith)

  -- A place whose key is before the one sought is in front of its place.
  pub place_more : (key : ℕ) (es : List (ℕ × X)) (i : ℕ) (d : ℕ × X) → AreRising es → i < length es → (get_or es i d).0 < key → i < length (below key es)
  place_more key [] i d rising lt small = absurd (omega arith)
  place_more key (e ∷ es) zero d rising lt small = rw (below_on key e es small) (omega arith)
  place_more key (e ∷ es) (suc i) d rising lt small =
      let within : i < length es = omega arith in let first : e.0 < key = omega (arith, above_at e.0 es i d rising.0 within, small) in
      rw (below_on key e es first) (omega (arith, place_more key es i d rising.1 within small))

  -- A place whose key is not before it does not.
  pub place_less : (key : ℕ) (es : List (ℕ × X)) (i : ℕ) (d : ℕ × X) → i < length es → key ≤ (get_or es i d).0 → length (below key es) ≤ i
  place_less key [] i d lt great = absurd (omega arith)
  place_less key (e ∷ es) zero d lt great = rw (below_end key e es great) (omega arith)
  place_less key (e ∷ es) (suc i) d lt great =
      cut_cases (λ front back. length front ≤ suc i) key e es (λ small. omega (arith, place_less key es i d (omega arith) great)) (λ le. omega arith)

  -- The first entry from a key on has the key, where it is not behind it.
  pub first_filed : (key : ℕ) (es : List (ℕ × X)) (e : ℕ × X) → first_of (from key es) ≡ Some e → e.0 ≤ key → filed_at key (from key es) ≡ Some e.1
  first_filed key [] e is le = cc
  first_filed key (x ∷ xs) e is le = cut_cases (λ front back. first_of back ≡ Some e → filed_at key back ≡ Some e.1) key x xs
      (λ lt there. first_filed key xs e there le)
      (λ ge here. let same : x ≡ e = cc in let level : x.0 ≡ key = omega (arith, ap (λ (y : ℕ × X). y.0) same) in
      ap (λ b. cond b (Some x.1) None) (eq-eqb x.0 key level) ∙ ap (λ (y : ℕ × X). Some y.1) same) is
