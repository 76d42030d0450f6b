-- The entries of an index, cut at the leaf where a key belongs; an entry put in, or taken out.
use Rattle.std.{proofs.Common.{◌≡◌, ℕ, zero, suc, ◌+◌, ◌<◌, ◌≤◌, true, List, [], ◌∷◌, ◌++◌, length, take, drop, get_or, set, Some, None, is_some, refl, sym, ap, ◌∙◌, arith, inl, inr, append_assoc, length-append, length-drop}, specs.List.{insert, remove}, proofs.lemmas.Bool.cases_lt, proofs.lemmas.Bool.Decides.nat_tests, proofs.lemmas.List.drop-drop}
use Rattle.key_index.{specs.declared.filed.Filed.Filed, specs.Entries.{Entry, below, from, filed_at, AreAbove, AreRising}, specs.Leaves.{all_of, Belongs}, proofs.Orders.{cut_cases, take_below, drop_below, cut_whole}, proofs.Belonging.{all_at, all_set, leaf_above, cut_front, cut_back}}

module _ {V : Type 0} where
  -- What is in front of a key, by leaves.
  pub below_at : (key : ℕ) (leaves : List (List (Entry V))) (at : ℕ) → Belongs key leaves at → below key (all_of leaves) ≡ all_of (take at leaves) ++ below key (get_or leaves at [])
  below_at key leaves at b = let front = all_of (take at leaves) in let leaf = get_or leaves at [] in let back = all_of (drop (suc at) leaves) in
      ap (below key) (all_at leaves at b.within) ∙ (cut_front key front (leaf ++ back) b.front).0 ∙ ap (λ l. front ++ l) (cut_back key leaf back b.back).0

  -- What is left from a key on, by leaves.
  pub from_at : (key : ℕ) (leaves : List (List (Entry V))) (at : ℕ) → Belongs key leaves at → from key (all_of leaves) ≡ from key (get_or leaves at []) ++ all_of (drop (suc at) leaves)
  from_at key leaves at b = let front = all_of (take at leaves) in let leaf = get_or leaves at [] in let back = all_of (drop (suc at) leaves) in
      ap (from key) (all_at leaves at b.within) ∙ (cut_front key front (leaf ++ back) b.front).1 ∙ (cut_back key leaf back b.back).1

  -- A leaf written over by what is below its key and something behind that.
  pub edited : (key : ℕ) (leaves : List (List (Entry V))) (at : ℕ) (new rest : List (Entry V)) → Belongs key leaves at → new ≡ below key (get_or leaves at []) ++ rest
      → all_of (set leaves at new) ≡ below key (all_of leaves) ++ (rest ++ all_of (drop (suc at) leaves))
  edited key leaves at new rest b is =
      let front = all_of (take at leaves) in let lower = below key (get_or leaves at []) in let back = all_of (drop (suc at) leaves) in
      all_set leaves at new b.within ∙ ap (λ l. front ++ (l ++ back)) is ∙ ap (λ l. front ++ l) (append_assoc lower rest back) ∙ sym (append_assoc front lower (rest ++ back))
      ∙ ap (λ l. l ++ (rest ++ back)) (sym (below_at key leaves at b))

  -- An entry put into the leaf of its key is between what is in front of the key and what is left.
  pub put_all : (key : ℕ) (filed : Filed V) (leaves : List (List (Entry V))) (at : ℕ) → Belongs key leaves at
      → all_of (set leaves at (insert (get_or leaves at []) (length (below key (get_or leaves at []))) (key, filed))) ≡ below key (all_of leaves) ++ (key, filed) ∷ from key (all_of leaves)
  put_all key filed leaves at b =
      let leaf = get_or leaves at [] in let e : Entry V = (key, filed) in
      edited key leaves at _ (e ∷ from key leaf) b (λ i. take_below key leaf i ++ e ∷ drop_below key leaf i) ∙ ap (λ l. below key (all_of leaves) ++ e ∷ l) (sym (from_at key leaves at b))

  -- The first of two lists loses its first.
  drop_first : (xs ys : List (Entry V)) → 0 < length xs → drop 1 (xs ++ ys) ≡ drop 1 xs ++ ys
  drop_first [] ys some = absurd (omega arith)
  drop_first (x ∷ xs) ys some = refl

  -- An entry taken out of the leaf of its key leaves the others.
  pub out_all : (key : ℕ) (leaves : List (List (Entry V))) (at : ℕ) → Belongs key leaves at → 0 < length (from key (get_or leaves at []))
      → all_of (set leaves at (remove (get_or leaves at []) (length (below key (get_or leaves at []))))) ≡ below key (all_of leaves) ++ drop 1 (from key (all_of leaves))
  out_all key leaves at b some =
      let leaf = get_or leaves at [] in let place = length (below key leaf) in let next : suc place ≡ place + 1 = omega arith in
      let rest : drop (suc place) leaf ≡ drop 1 (from key leaf) = ap (λ n. drop n leaf) next ∙ sym (drop-drop 1 place leaf) ∙ ap (drop 1) (drop_below key leaf) in
      edited key leaves at _ (drop 1 (from key leaf)) b (λ i. take_below key leaf i ++ rest i)
      ∙ ap (λ l. below key (all_of leaves) ++ l) (sym (drop_first (from key leaf) (all_of (drop (suc at) leaves)) some) ∙ ap (drop 1) (sym (from_at key leaves at b)))

  -- If all later entries are above a key, it is in the first part, if anywhere.
  pub present_in : (key : ℕ) (xs back : List (Entry V)) → AreAbove key back → is_some (filed_at key (xs ++ back)) ≡ true → 0 < length xs
  present_in key [] [] above present = cc
  present_in key [] (y ∷ back) above present = let no : filed_at key (y ∷ back) ≡ None = grind (arith, nat_tests, above.0) in absurd (cc)
  present_in key (x ∷ xs) back above present = omega arith

  -- A key that is there is in its leaf.
  pub some_left : (key : ℕ) (leaves : List (List (Entry V))) (at : ℕ) → Belongs key leaves at → is_some (filed_at key (from key (all_of leaves))) ≡ true → 0 < length (from key (get_or leaves at []))
  some_left key leaves at b there =
      present_in key (from key (get_or leaves at [])) (all_of (drop (suc at) leaves)) b.back (ap (λ l. is_some (filed_at key l)) (sym (from_at key leaves at b)) ∙ there)

  -- A key that is there is in front of the end of its leaf.
  pub place_within : (key : ℕ) (leaf : List (Entry V)) → 0 < length (from key leaf) → length (below key leaf) < length leaf
  place_within key leaf some = omega (arith, length-append (below key leaf) (from key leaf), ap length (cut_whole key leaf))

  -- A leaf written over leaves the others as they are.
  pub set_round : (leaves : List (List (Entry V))) (at : ℕ) (leaf : List (Entry V)) → (take at (set leaves at leaf) ≡ take at leaves) × (drop (suc at) (set leaves at leaf) ≡ drop (suc at) leaves)
  set_round [] at leaf = (refl, refl)
  set_round (l ∷ leaves) zero leaf = (refl, refl)
  set_round (l ∷ leaves) (suc at) leaf = let rest = set_round leaves at leaf in (ap (λ ls. l ∷ ls) rest.0, rest.1)

  -- Entries above a number stay so with a key above it put in.
  above_put : (n key : ℕ) (filed : Filed V) (es : List (Entry V)) → n < key → AreAbove n es → AreAbove n (below key es ++ (key, filed) ∷ from key es)
  above_put n key filed [] lt above = (lt, tt)
  above_put n key filed (e ∷ es) lt above =
      cut_cases (λ front back. AreAbove n (front ++ (key, filed) ∷ back)) key e es (λ on. (above.0, above_put n key filed es lt above.1)) (λ le. (lt, above))

  -- A first key that is not before the one sought, and is another, is after it.
  strictly : (key : ℕ) (e : Entry V) (es : List (Entry V)) → key ≤ e.0 → filed_at key (e ∷ es) ≡ None → key < e.0
  strictly key e es le absent = elim (cases_lt key e.0) [
    | inl lt ↦ lt
    | inr same ↦ let is : filed_at key (e ∷ es) ≡ Some e.1 = grind (arith, nat_tests, le, same) in absurd (cc)
  ]

  -- Rising entries rise with an absent key put in.
  pub rising_put : (key : ℕ) (filed : Filed V) (es : List (Entry V)) → AreRising es → filed_at key (from key es) ≡ None → AreRising (below key es ++ (key, filed) ∷ from key es)
  rising_put key filed [] rising absent = (tt, tt)
  rising_put key filed (e ∷ es) rising absent = cut_cases (λ front back. filed_at key back ≡ None → AreRising (front ++ (key, filed) ∷ back)) key e es
      (λ on none. (above_put e.0 key filed es on rising.0, rising_put key filed es rising.1 none))
      (λ le none. (leaf_above key (e ∷ es) rising (strictly key e es le none), rising)) absent

  -- Entries above a number stay so with one taken out.
  above_out : (n key : ℕ) (es : List (Entry V)) → AreAbove n es → AreAbove n (below key es ++ drop 1 (from key es))
  above_out n key [] above = tt
  above_out n key (e ∷ es) above = cut_cases (λ front back. AreAbove n (front ++ drop 1 back)) key e es (λ on. (above.0, above_out n key es above.1)) (λ le. above.1)

  -- Rising entries rise with one taken out.
  pub rising_out : (key : ℕ) (es : List (Entry V)) → AreRising es → AreRising (below key es ++ drop 1 (from key es))
  rising_out key [] rising = tt
  rising_out key (e ∷ es) rising = cut_cases (λ front back. AreRising (front ++ drop 1 back)) key e es (λ on. (above_out e.0 key es rising.0, rising_out key es rising.1)) (λ le. rising.1)

  -- A cut list with one entry more is one longer.
  pub length_put : (key : ℕ) (filed : Filed V) (es : List (Entry V)) → length (below key es ++ (key, filed) ∷ from key es) ≡ length es + 1
  length_put key filed es = omega (arith, length-append (below key es) ((key, filed) ∷ from key es), length-append (below key es) (from key es), ap length (cut_whole key es))

  -- Without its first entry from the key on it is one shorter.
  pub length_out : (key : ℕ) (es : List (Entry V)) → 0 < length (from key es) → length (below key es ++ drop 1 (from key es)) + 1 ≡ length es
  length_out key es some = omega (arith, length-append (below key es) (drop 1 (from key es)), length-drop 1 (from key es), length-append (below key es) (from key es), ap length (cut_whole key es))
