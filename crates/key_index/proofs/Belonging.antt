-- Entries in leaves: where a key belongs, and what is in front of it and behind.
use Rattle.std.{proofs.Common.{nat_le, ◌≡◌, ℕ, zero, suc, ◌+◌, ◌-◌, ◌*◌, ◌<◌, ◌≤◌, List, [], ◌∷◌, ◌++◌, length, take, drop, get_or, set, Some, slice_get, refl, sym, ap, ◌∙◌, subst, arith, inl, inr, append_assoc, length-append}, proofs.Math.Seq.drop-nil, proofs.lemmas.Bool.{cases_lt, cond_both, leb-true, leb-false}, proofs.lemmas.Bool.Decides.nat_tests, proofs.lemmas.List.{append-nil, get_or_default, set-get_or}}
use Rattle.key_index.{specs.Entries.{Entry, below, from, last_of, AreAbove, AreRising, AreBelow}, specs.Leaves.{all_of, AreFilled, first_key, begun, Belongs, NoneFit}, proofs.Orders.{below_on, below_end, from_on, from_end, above_less, cut_none, above_parts, above_both, rising_parts, below_both, below_more}}

module _ {V : Type 0} where
  -- What is in front of an entry of a rising list is below it.
  pub rising_front : (xs : List (Entry V)) (y : Entry V) (ys : List (Entry V)) → AreRising (xs ++ y ∷ ys) → AreBelow y.0 xs
  rising_front [] y ys rising = tt
  rising_front (x ∷ xs) y ys rising = ((above_parts x.0 xs (y ∷ ys) rising.0).1.0, rising_front xs y ys rising.1)

  -- A key is cut behind what is below it.
  pub cut_front : (key : ℕ) (xs ys : List (Entry V)) → AreBelow key xs → (below key (xs ++ ys) ≡ xs ++ below key ys) × (from key (xs ++ ys) ≡ from key ys)
  cut_front key [] ys a = (refl, refl)
  cut_front key (x ∷ xs) ys a = let rest = cut_front key xs ys a.1 in
      (below_on key x (xs ++ ys) a.0 ∙ ap (λ l. x ∷ l) rest.0, from_on key x (xs ++ ys) a.0 ∙ rest.1)

  -- A key is cut in front of what is above it.
  pub cut_back : (key : ℕ) (xs ys : List (Entry V)) → AreAbove key ys → (below key (xs ++ ys) ≡ below key xs) × (from key (xs ++ ys) ≡ from key xs ++ ys)
  cut_back key [] ys a = cut_none key key ys a (omega arith)
  cut_back key (x ∷ xs) ys a = elim (cases_lt x.0 key) [
    | inl lt ↦ let rest = cut_back key xs ys a in
        rw (below_on key x (xs ++ ys) lt, below_on key x xs lt, from_on key x (xs ++ ys) lt, from_on key x xs lt) (ap (λ l. x ∷ l) rest.0, rest.1)
    | inr le ↦ rw (below_end key x (xs ++ ys) le, below_end key x xs le, from_end key x (xs ++ ys) le, from_end key x xs le) (refl, refl)
  ]

  -- A leaf written over another.
  pub all_set : (leaves : List (List (Entry V))) (at : ℕ) (leaf : List (Entry V)) → at < length leaves
      → all_of (set leaves at leaf) ≡ all_of (take at leaves) ++ (leaf ++ all_of (drop (suc at) leaves))
  all_set [] at leaf lt = absurd (omega arith)
  all_set (l ∷ leaves) zero leaf lt = refl
  all_set (l ∷ leaves) (suc at) leaf lt = ap (λ rest. l ++ rest) (all_set leaves at leaf (omega arith)) ∙ sym (append_assoc l (all_of (take at leaves)) (leaf ++ all_of (drop (suc at) leaves)))

  -- All entries are those in front of a leaf, its own, and those behind it.
  pub all_at : (leaves : List (List (Entry V))) (at : ℕ) → at < length leaves → all_of leaves ≡ all_of (take at leaves) ++ (get_or leaves at [] ++ all_of (drop (suc at) leaves))
  all_at leaves at lt = ap all_of (sym (set-get_or leaves at [])) ∙ all_set leaves at (get_or leaves at []) lt

  -- A leaf of rising entries rises.
  pub rising_leaf : (leaves : List (List (Entry V))) (at : ℕ) → at < length leaves → AreRising (all_of leaves) → AreRising (get_or leaves at [])
  rising_leaf leaves at lt rising = let leaf = get_or leaves at [] in let back = all_of (drop (suc at) leaves) in
      (rising_parts leaf back (rising_parts (all_of (take at leaves)) (leaf ++ back) (subst AreRising (all_at leaves at lt) rising)).1).0

  -- A leaf of filled ones is filled.
  pub filled_at : (leaves : List (List (Entry V))) (at : ℕ) → AreFilled leaves → at < length leaves → 0 < length (get_or leaves at [])
  filled_at [] at filled lt = absurd (omega arith)
  filled_at (leaf ∷ leaves) zero filled lt = filled.0
  filled_at (leaf ∷ leaves) (suc at) filled lt = filled_at leaves at filled.1 (omega arith)

  -- A leaf that begins at the key or before it counts.
  pub begun_on : (key : ℕ) (leaf : List (Entry V)) (leaves : List (List (Entry V))) → first_key leaf ≤ key → begun key (leaf ∷ leaves) ≡ suc (begun key leaves)
  begun_on key leaf leaves le = grind (arith, nat_tests)

  -- The first that does not ends the count.
  pub begun_end : (key : ℕ) (leaf : List (Entry V)) (leaves : List (List (Entry V))) → key < first_key leaf → begun key (leaf ∷ leaves) ≡ 0
  begun_end key leaf leaves lt = grind (arith, nat_tests)

  -- What is so of the count, by whether the first leaf begins there.
  begun_cases : (P : ℕ → Type 0) (key : ℕ) (leaf : List (Entry V)) (leaves : List (List (Entry V))) → (first_key leaf ≤ key → P (suc (begun key leaves))) → (key < first_key leaf → P 0)
      → P (begun key (leaf ∷ leaves))
  begun_cases P key leaf leaves on end = cond_both (nat_le (first_key leaf) key) _ _ P (λ is. on (leb-true (first_key leaf) key is)) (λ is. end (leb-false (first_key leaf) key is))

  -- No more leaves begin there than there are.
  pub begun_within : (key : ℕ) (leaves : List (List (Entry V))) → begun key leaves ≤ length leaves
  begun_within key [] = omega arith
  begun_within key (leaf ∷ leaves) = begun_cases (λ n. n ≤ suc (length leaves)) key leaf leaves (λ on. omega (arith, begun_within key leaves)) (λ end. omega arith)

  -- The first key of a leaf that is above a number is above it.
  above_first : (n : ℕ) (leaf : List (Entry V)) → 0 < length leaf → AreAbove n leaf → n < first_key leaf
  above_first n [] lt above = absurd (omega arith)
  above_first n (e ∷ leaf) lt above = above.0

  -- So is that of each leaf of such leaves.
  above_leaf : (n : ℕ) (leaves : List (List (Entry V))) (at : ℕ) → AreFilled leaves → at < length leaves → AreAbove n (all_of leaves) → n < first_key (get_or leaves at [])
  above_leaf n [] at filled lt above = absurd (omega arith)
  above_leaf n (leaf ∷ leaves) zero filled lt above = above_first n leaf filled.0 (above_parts n leaf (all_of leaves) above).0
  above_leaf n (leaf ∷ leaves) (suc at) filled lt above = above_leaf n leaves at filled.1 (omega arith) (above_parts n leaf (all_of leaves) above).1

  -- The entries of later leaves are above the first key of a leaf.
  first_below : (leaf : List (Entry V)) (leaves : List (List (Entry V))) → 0 < length leaf → AreRising (all_of (leaf ∷ leaves)) → AreAbove (first_key leaf) (all_of leaves)
  first_below [] leaves lt rising = absurd (omega arith)
  first_below (e ∷ leaf) leaves lt rising = (above_parts e.0 leaf (all_of leaves) rising.0).1

  -- A leaf that begins at the key or before it is one of those counted.
  pub begun_more : (key : ℕ) (leaves : List (List (Entry V))) (at : ℕ) → AreFilled leaves → AreRising (all_of leaves)
      → at < length leaves → first_key (get_or leaves at []) ≤ key → at < begun key leaves
  begun_more key [] at filled rising lt le = absurd (omega arith)
  begun_more key (leaf ∷ leaves) zero filled rising lt le = rw (begun_on key leaf leaves le) (omega arith)
  begun_more key (leaf ∷ leaves) (suc at) filled rising lt le =
      let later = above_leaf (first_key leaf) leaves at filled.1 (omega arith) (first_below leaf leaves filled.0 rising) in
      rw (begun_on key leaf leaves (omega (arith, later))) (omega (arith, begun_more key leaves at filled.1 (rising_parts leaf (all_of leaves) rising).1 (omega arith) le))

  -- A leaf that begins after it is not.
  pub begun_less : (key : ℕ) (leaves : List (List (Entry V))) (at : ℕ) → at < length leaves → key < first_key (get_or leaves at []) → begun key leaves ≤ at
  begun_less key [] at lt great = absurd (omega arith)
  begun_less key (leaf ∷ leaves) zero lt great = rw (begun_end key leaf leaves great) (omega arith)
  begun_less key (leaf ∷ leaves) (suc at) lt great =
      begun_cases (λ n. n ≤ suc at) key leaf leaves (λ on. omega (arith, begun_less key leaves at (omega arith) great)) (λ end. omega arith)

  -- The entries of a rising leaf that begins after the key are above it.
  pub leaf_above : (key : ℕ) (leaf : List (Entry V)) → AreRising leaf → key < first_key leaf → AreAbove key leaf
  leaf_above key [] rising great = tt
  leaf_above key (e ∷ leaf) rising great = (great, above_less key e.0 leaf (omega arith) rising.0)

  -- What comes behind the leaves counted is above the key.
  pub begun_back : (key : ℕ) (leaves : List (List (Entry V))) → AreFilled leaves → AreRising (all_of leaves) → AreAbove key (all_of (drop (begun key leaves) leaves))
  begun_back key [] filled rising = tt
  begun_back key (leaf ∷ leaves) filled rising = begun_cases (λ n. AreAbove key (all_of (drop n (leaf ∷ leaves)))) key leaf leaves
      (λ on. begun_back key leaves filled.1 (rising_parts leaf (all_of leaves) rising).1)
      (λ end. above_both key leaf (all_of leaves) (leaf_above key leaf (rising_parts leaf (all_of leaves) rising).0 end)
      (above_less key (first_key leaf) (all_of leaves) (omega arith) (first_below leaf leaves filled.0 rising)))

  -- A leaf in front of one that is counted is below the key.
  front_leaf : (key : ℕ) (leaf : List (Entry V)) (leaves : List (List (Entry V))) → AreFilled leaves → AreRising (leaf ++ all_of leaves) → 0 < begun key leaves → AreBelow key leaf
  front_leaf key leaf [] filled rising some = absurd (omega arith)
  front_leaf key leaf ([] ∷ leaves) filled rising some = absurd (omega (arith, filled.0))
  front_leaf key leaf ((y ∷ next) ∷ leaves) filled rising some = begun_cases (λ n. 0 < n → AreBelow key leaf) key (y ∷ next) leaves
      (λ on counted. below_more y.0 key leaf on (rising_front leaf y (next ++ all_of leaves) rising))
      (λ end none. absurd (omega arith)) some

  -- What is in front of the last leaf counted is below the key.
  front_counted : (key : ℕ) (leaves : List (List (Entry V))) (b : ℕ) → AreFilled leaves → AreRising (all_of leaves) → b ≤ begun key leaves - 1 → AreBelow key (all_of (take b leaves))
  front_counted key leaves zero filled rising le = tt
  front_counted key [] (suc b) filled rising le = tt
  front_counted key (leaf ∷ leaves) (suc b) filled rising le = begun_cases (λ n. suc b ≤ n - 1 → AreBelow key (leaf ++ all_of (take b leaves))) key leaf leaves
      (λ on few. below_both key leaf (all_of (take b leaves)) (front_leaf key leaf leaves filled.1 rising (omega arith))
      (front_counted key leaves b filled.1 (rising_parts leaf (all_of leaves) rising).1 (omega arith)))
      (λ end none. absurd (omega arith)) le

  -- What is above the key behind some leaves is so behind one more.
  behind_more : (key : ℕ) (leaves : List (List (Entry V))) (b at : ℕ) → b ≤ at → AreAbove key (all_of (drop b leaves)) → AreAbove key (all_of (drop at leaves))
  behind_more key [] zero at le above = subst (λ l. AreAbove key (all_of l)) (sym (drop-nil at)) tt
  behind_more key [] (suc b) at le above = subst (λ l. AreAbove key (all_of l)) (sym (drop-nil at)) tt
  behind_more key (leaf ∷ leaves) zero zero le above = above
  behind_more key (leaf ∷ leaves) zero (suc at) le above = behind_more key leaves zero at (omega arith) (above_parts key leaf (all_of leaves) above).1
  behind_more key (leaf ∷ leaves) (suc b) zero le above = absurd (omega arith)
  behind_more key (leaf ∷ leaves) (suc b) (suc at) le above = behind_more key leaves b at (omega arith) above

  -- The key belongs in the last leaf counted, or in the first leaf.
  pub belongs_counted : (key : ℕ) (leaves : List (List (Entry V))) (at : ℕ) → 0 < length leaves → AreFilled leaves → AreRising (all_of leaves) → at ≡ begun key leaves - 1 → Belongs key leaves at
  belongs_counted key leaves at some filled rising is = record {
    within = omega (arith, begun_within key leaves);
    front = front_counted key leaves at filled rising (omega (arith, is));
    back = behind_more key leaves (begun key leaves) (suc at) (omega (arith, is)) (begun_back key leaves filled rising);
  }

  -- The first entry of a leaf has its first key.
  pub first_is : (leaf : List (Entry V)) (e : Entry V) → slice_get leaf 0 ≡ Some e → first_key leaf ≡ e.0
  first_is [] e is = cc
  first_is (x ∷ leaf) e is = cc

  -- The first entry of leaves is that of the first leaf.
  pub first_behind : (leaves : List (List (Entry V))) (i : ℕ) (e : Entry V) (rest : List (Entry V)) → i < length leaves
      → slice_get (get_or leaves i []) 0 ≡ Some e → slice_get (all_of (drop i leaves)) 0 ≡ Some e
  first_behind [] i e rest lt is = absurd (omega arith)
  first_behind ([] ∷ leaves) zero e rest lt is = cc
  first_behind ((x ∷ leaf) ∷ leaves) zero e rest lt is = is
  first_behind (leaf ∷ leaves) (suc i) e rest lt is = first_behind leaves i e rest (omega arith) is

  -- The last entry of two lists is that of the second, where it has one.
  pub last_both : (xs ys : List (Entry V)) → 0 < length ys → last_of (xs ++ ys) ≡ last_of ys
  last_both [] ys some = refl
  last_both (x ∷ xs) ys some =
      let rest = xs ++ ys in let long : suc (length rest) - 1 ≡ suc (length rest - 1) = omega (arith, length-append xs ys) in
      ap (λ n. slice_get (x ∷ rest) n) long ∙ last_both xs ys some

  -- Leaves that are filled hold an entry.
  some_in : (leaves : List (List (Entry V))) (j : ℕ) → AreFilled leaves → j < length leaves → 0 < length (all_of (take (suc j) leaves))
  some_in [] j filled lt = absurd (omega arith)
  some_in (leaf ∷ leaves) j filled lt = omega (arith, filled.0, length-append leaf (all_of (take j leaves)))

  -- The last entry of leaves is that of the last leaf.
  pub last_front : (leaves : List (List (Entry V))) (j : ℕ) → AreFilled leaves → j < length leaves → last_of (all_of (take (suc j) leaves)) ≡ last_of (get_or leaves j [])
  last_front [] j filled lt = absurd (omega arith)
  last_front (leaf ∷ leaves) zero filled lt = ap last_of (append-nil leaf)
  last_front (leaf ∷ leaves) (suc j) filled lt = last_both leaf (all_of (take (suc j) leaves)) (some_in leaves j filled.1 (omega arith)) ∙ last_front leaves j filled.1 (omega arith)

  -- What was read at a place, with another default.
  pub read_leaf : (leaves : List (List (Entry V))) (at : ℕ) (leaf : List (Entry V)) → at < length leaves → leaf ≡ get_or leaves at leaf → leaf ≡ get_or leaves at []
  read_leaf leaves at leaf lt is = is ∙ get_or_default leaves at leaf [] lt

  -- Where no two side by side fit one, none fit.
  pub none_from : (leaves : List (List (Entry V))) → ((k : ℕ) → k + 1 < length leaves → 128 < length (get_or leaves k []) + length (get_or leaves (k + 1) [])) → NoneFit leaves
  none_from [] all = tt
  none_from (leaf ∷ []) all = tt
  none_from (leaf ∷ next ∷ leaves) all = (
    all 0 (omega arith),
    none_from (next ∷ leaves) (λ k lt. let up : k + 1 ≡ suc k = omega arith in
        let on : suc k + 1 ≡ suc (k + 1) = omega arith in
        subst (λ n. 128 < length (get_or (next ∷ leaves) k []) + length (get_or (leaf ∷ next ∷ leaves) n [])) on (all (suc k) (omega arith))),
  )

  -- Where none fit, the leaves are few for their entries.
  few_after : (leaf : List (Entry V)) (leaves : List (List (Entry V))) → NoneFit (leaf ∷ leaves) → 128 * length (leaf ∷ leaves) + length leaf ≤ 2 * length (all_of (leaf ∷ leaves)) + 128
  few_after leaf [] none = let long = length-append leaf [] in omega arith
  few_after leaf (next ∷ leaves) none = let rest = few_after next leaves none.1 in let long = length-append leaf (all_of (next ∷ leaves)) in omega (arith, rest, long, none.0)

  -- So the leaves of few entries have two that fit one.
  pub few_leaves : (leaves : List (List (Entry V))) → NoneFit leaves → 128 * length leaves ≤ 2 * length (all_of leaves) + 128
  few_leaves [] none = omega arith
  few_leaves (leaf ∷ leaves) none = omega (arith, few_after leaf leaves none)
