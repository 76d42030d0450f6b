-- The nearest entry with a mark.
use Rattle.std.{proofs.Common.{◌≡◌, ℕ, zero, suc, ◌+◌, ◌<◌, true, cond, List, [], ◌∷◌, ◌++◌, Some, None, length, take, drop, get_or, refl, sym, ap, ◌∙◌, arith, append_assoc}, proofs.lemmas.List.{append-nil, nil_from_length}, proofs.lemmas.List.Elements.filter_more}
use Rattle.key_index.{specs.declared.filed.Mark.Mark, specs.Entries.{Entry, first_of, last_of}, specs.Marks.{has_mark, marked}, specs.Leaves.all_of, proofs.Belonging.{last_both, read_leaf}, proofs.Counting.{marked_both, count_cut}}

module _ {V : Type 0} where
  -- The last entry that was looked at, where it has the mark.
  pub last_found : (m : Mark) (es : List (Entry V)) (i j : ℕ) (e : Entry V) → i < length es → e ≡ get_or es i e → j ≡ i + 1 → has_mark m e.1.marks ≡ true → last_of (marked m (take j es)) ≡ Some e
  last_found m es i j e lt is up has =
      ap (λ n. last_of (marked m (take n es))) up ∙ ap last_of (filter_more (λ (x : Entry V). has_mark m x.1.marks) es i e lt)
      ∙ ap (λ (x : Entry V). last_of (marked m (take i es) ++ cond (has_mark m x.1.marks) (x ∷ []) [])) (sym is) ∙ ap (λ b. last_of (marked m (take i es) ++ cond b (e ∷ []) [])) has
      ∙ last_both (marked m (take i es)) (e ∷ []) (omega arith)

  -- Where none of a leaf has the mark, none in front of a place has.
  pub none_front : (m : Mark) (es : List (Entry V)) (i : ℕ) → length (marked m es) ≡ 0 → marked m (take i es) ≡ []
  none_front m es i none = nil_from_length (marked m (take i es)) (omega (arith, count_cut m i es, none))

  -- Nor from it on.
  pub none_back : (m : Mark) (es : List (Entry V)) (i : ℕ) → length (marked m es) ≡ 0 → marked m (drop i es) ≡ []
  none_back m es i none = nil_from_length (marked m (drop i es)) (omega (arith, count_cut m i es, none))

  -- A list that is not empty has a last entry.
  last_some : (y : Entry V) (ys : List (Entry V)) → (e : Entry V) × (last_of (y ∷ ys) ≡ Some e)
  last_some y [] = (y, refl)
  last_some y (z ∷ zs) = let rest = last_some z zs in (rest.0, last_both (y ∷ []) (z ∷ zs) (omega arith) ∙ rest.1)

  -- A list without a last entry is empty.
  last_none : (ys : List (Entry V)) → last_of ys ≡ None → ys ≡ []
  last_none [] none = refl
  last_none (y ∷ ys) none = let some = last_some y ys in let f : Some some.0 ≡ None = sym some.1 ∙ none in cc

  -- Of two lists the nearer one has the last entry.
  pub last_near : (xs ys : List (Entry V)) (e : Entry V) → last_of ys ≡ Some e → last_of (xs ++ ys) ≡ Some e
  last_near xs [] e is = cc
  last_near xs (y ∷ ys) e is = last_both xs (y ∷ ys) (omega arith) ∙ is

  -- Or it has none, and the farther one has it.
  pub last_far : (xs ys : List (Entry V)) → last_of ys ≡ None → last_of (xs ++ ys) ≡ last_of xs
  last_far xs ys none = ap last_of (ap (λ l. xs ++ l) (last_none ys none) ∙ append-nil xs)

  -- The nearer one has the first entry.
  pub first_near : (xs ys : List (Entry V)) (e : Entry V) → first_of xs ≡ Some e → first_of (xs ++ ys) ≡ Some e
  first_near [] ys e is = cc
  first_near (x ∷ xs) ys e is = is

  -- Or it has none, and the farther one has it.
  pub first_far : (xs ys : List (Entry V)) → first_of xs ≡ None → first_of (xs ++ ys) ≡ first_of ys
  first_far [] ys none = refl
  first_far (x ∷ xs) ys none = cc

  -- The entries of one leaf more.
  all_more : (ls : List (List (Entry V))) (i : ℕ) → i < length ls → all_of (take (suc i) ls) ≡ all_of (take i ls) ++ get_or ls i []
  all_more [] i lt = absurd (omega arith)
  all_more (l ∷ ls) zero lt = append-nil l
  all_more (l ∷ ls) (suc i) lt = ap (λ r. l ++ r) (all_more ls i (omega arith)) ∙ sym (append_assoc l (all_of (take i ls)) (get_or ls i []))

  -- The entries from a leaf on.
  all_less : (ls : List (List (Entry V))) (i : ℕ) → i < length ls → all_of (drop i ls) ≡ get_or ls i [] ++ all_of (drop (suc i) ls)
  all_less [] i lt = absurd (omega arith)
  all_less (l ∷ ls) zero lt = refl
  all_less (l ∷ ls) (suc i) lt = all_less ls i (omega arith)

  -- A leaf in front that has none is passed over.
  pub leaf_passed : (m : Mark) (ls : List (List (Entry V))) (i j : ℕ) (leaf : List (Entry V)) → i < length ls → j ≡ i + 1
      → leaf ≡ get_or ls i leaf → length (marked m leaf) ≡ 0 → marked m (all_of (take i ls)) ≡ marked m (all_of (take j ls))
  leaf_passed m ls i j leaf lt up read none =
      let here = read_leaf ls i leaf lt read in let next : j ≡ suc i = omega (arith, up) in
      sym (ap (λ n. marked m (all_of (take n ls))) next ∙ ap (marked m) (all_more ls i lt) ∙ marked_both m (all_of (take i ls)) (get_or ls i [])
      ∙ ap (λ l. marked m (all_of (take i ls)) ++ marked m l) (sym here)
      ∙ ap (λ l. marked m (all_of (take i ls)) ++ l) (nil_from_length (marked m leaf) (omega (arith, none)))
      ∙ append-nil (marked m (all_of (take i ls))))

  -- One that has some has the last.
  pub leaf_found : (m : Mark) (ls : List (List (Entry V))) (i j : ℕ) (leaf : List (Entry V)) → i < length ls → j ≡ i + 1
      → leaf ≡ get_or ls i leaf → 0 < length (marked m leaf) → last_of (marked m leaf) ≡ last_of (marked m (all_of (take j ls)))
  leaf_found m ls i j leaf lt up read some =
      let here = read_leaf ls i leaf lt read in let next : j ≡ suc i = omega (arith, up) in
      sym (ap (λ n. last_of (marked m (all_of (take n ls)))) next ∙ ap (λ l. last_of (marked m l)) (all_more ls i lt) ∙ ap last_of (marked_both m (all_of (take i ls)) (get_or ls i []))
      ∙ ap (λ l. last_of (marked m (all_of (take i ls)) ++ marked m l)) (sym here) ∙ last_both (marked m (all_of (take i ls))) (marked m leaf) some)

  -- One that has some has the first.
  pub back_found : (m : Mark) (ls : List (List (Entry V))) (i : ℕ) (leaf : List (Entry V)) → i < length ls → leaf ≡ get_or ls i leaf
      → 0 < length (marked m leaf) → first_of (marked m leaf) ≡ first_of (marked m (all_of (drop i ls)))
  back_found m ls i leaf lt read some =
      let here = read_leaf ls i leaf lt read in
      sym (ap (λ l. first_of (marked m l)) (all_less ls i lt) ∙ ap first_of (marked_both m (get_or ls i []) (all_of (drop (suc i) ls)))
      ∙ ap (λ l. first_of (marked m l ++ marked m (all_of (drop (suc i) ls)))) (sym here)
      ∙ first_of_some (marked m leaf) (marked m (all_of (drop (suc i) ls))) some) where
        first_of_some : (xs ys : List (Entry V)) → 0 < length xs → first_of (xs ++ ys) ≡ first_of xs
        first_of_some [] ys some = absurd (omega arith)
        first_of_some (x ∷ xs) ys some = refl
