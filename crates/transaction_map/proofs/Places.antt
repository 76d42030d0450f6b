-- What is at a place that was searched for.
use Rattle.std.{proofs.lemmas.Grind.common_steps, proofs.Common.{◌≡◌, ℕ, zero, suc, ◌<◌, ◌≤◌, not, T, cond, List, [], ◌∷◌, length, get_or, set, Some, None, Result, Ok, Err, IfOk, IfErr, refl, sym, ap, subst, ◌∙◌, arith}, specs.declared.cmp.Ordering.TheVariants.{Less, Equal, Greater}, specs.Ordering.{is_eq, eq_by_cmp}, specs.List.{filter, insert, remove}, specs.List.Sorted.{IsBinarySearchResult, IsSearchInRange}, specs.FinMap.{find, put}, specs.FinMap.Entries.{by_order, below_all}, proofs.lemmas.List.length-set}
use Rattle.ledger_model.proofs.Callers.{first, second, less}
use Rattle.transaction_map.{specs.Map.{AreRising, id_cmp}, specs.Places.{IsAt, IsGap}, proofs.Rising.{exact_ids, find_below, turned, below_at, below_less}, proofs.Keys.searchable}

module _ {X : Type 0} where
  -- An id that was found is there.
  pub at_from_found : (key : List ℕ) (es : List (List ℕ × X)) (i : ℕ) (d : List ℕ × X) → AreRising es → i < length es → id_cmp (get_or es i d).0 key ≡ Equal → IsAt key es i
  at_from_found key [] i d h lt e = absurd (omega arith)
  at_from_found key (x ∷ es) zero d h lt e = turned x.0 key Equal e
  at_from_found key (x ∷ es) (suc i) d h lt e =
      let smaller = below_at x.0 es i d (first _ _ h) (omega arith) in
      let here : (get_or es i d).0 ≡ key = exact_ids _ key e in
      (turned x.0 key Less (subst (λ k. id_cmp x.0 k ≡ Less) here smaller), at_from_found key es i d (second _ _ h) (omega arith) e)

  -- An id between smaller and greater ones belongs there.
  gap_from_parts : (key : List ℕ) (es : List (List ℕ × X)) (i : ℕ) (d : List ℕ × X) → i ≤ length es
      → ((k : ℕ) → k < i → id_cmp (get_or es k d).0 key ≡ Less)
      → ((k : ℕ) → i ≤ k → k < length es → id_cmp (get_or es k d).0 key ≡ Greater) → IsGap key es i
  gap_from_parts key [] i d le small great = omega arith
  gap_from_parts key (x ∷ es) zero d le small great = turned x.0 key Greater (great 0 (omega arith) (omega arith))
  gap_from_parts key (x ∷ es) (suc i) d le small great = (
    turned x.0 key Less (small 0 (omega arith)),
    gap_from_parts key es i d (omega arith) (λ k lt. small (suc k) (omega arith)) (λ k low lt. great (suc k) (omega arith) (omega arith)),
  )

  -- A binary search ends at the id, or at the place where it belongs.
  pub searched : (es : List (List ℕ × X)) (key : List ℕ) (r : Result ℕ ℕ) → AreRising es → IsSearchInRange r (length es)
      → IsBinarySearchResult (λ (e : List ℕ × X). id_cmp e.0 key) es r
      → record { at : IfOk r (λ i. IsAt key es i); gap : IfErr r (λ i. IsGap key es i) }
  searched [] key (Ok i) rising within equal = absurd (omega (arith, within))
  searched [] key (Err i) rising within parted = record { at = tt; gap = omega (arith, within) }
  searched (e ∷ es) key (Ok i) rising within equal = record { at = at_from_found key (e ∷ es) i e rising within (equal e); gap = tt }
  searched (e ∷ es) key (Err i) rising within parted =
      let parts = parted (searchable (e ∷ es) key rising) in
      record {
        at = tt;
        gap = gap_from_parts key (e ∷ es) i e within (λ k lt. parts.0 k e (omega arith) lt) (λ k low lt. parts.1 k e low lt);
      }

  pub at_within : (key : List ℕ) (es : List (List ℕ × X)) (i : ℕ) → IsAt key es i → i < length es
  at_within key [] i h = absurd h
  at_within key (e ∷ es) zero h = omega arith
  at_within key (e ∷ es) (suc i) h = omega (arith, at_within key es i h.1)

  pub gap_within : (key : List ℕ) (es : List (List ℕ × X)) (i : ℕ) → IsGap key es i → i ≤ length es
  gap_within key [] i h = omega (arith, h)
  gap_within key (e ∷ es) zero h = omega arith
  gap_within key (e ∷ es) (suc i) h = omega (arith, gap_within key es i h.1)

  -- The id that is there is the one that was searched for.
  pub key_at : (key : List ℕ) (es : List (List ℕ × X)) (i : ℕ) (d : List ℕ × X) → IsAt key es i → (get_or es i d).0 ≡ key
  key_at key [] i d h = absurd h
  key_at key (e ∷ es) zero d h = sym (exact_ids key e.0 h)
  key_at key (e ∷ es) (suc i) d h = key_at key es i d h.1

  -- What the map has under an id that is there.
  pub find_at : (key : List ℕ) (es : List (List ℕ × X)) (i : ℕ) (d : List ℕ × X) → IsAt key es i → find id_cmp key es ≡ Some (get_or es i d).1
  find_at key [] i d h = absurd h
  find_at key (e ∷ es) zero d h = ap (λ r. cond (is_eq r) (Some e.1) (find id_cmp key es)) h
  find_at key (e ∷ es) (suc i) d h = ap (λ r. cond (is_eq r) (Some e.1) (find id_cmp key es)) h.0 ∙ find_at key es i d h.1

  -- An id that belongs between two others is not in the map.
  pub find_gap : (key : List ℕ) (es : List (List ℕ × X)) (i : ℕ) → AreRising es → IsGap key es i → find id_cmp key es ≡ None
  find_gap key [] i h g = refl
  find_gap key (e ∷ es) zero h g =
      ap (λ r. cond (is_eq r) (Some e.1) (find id_cmp key es)) g ∙ find_below key es (below_less key e.0 es g (first _ _ h))
  find_gap key (e ∷ es) (suc i) h g =
      ap (λ r. cond (is_eq r) (Some e.1) (find id_cmp key es)) g.0 ∙ find_gap key es i (second _ _ h) g.1

  -- To insert there is to put.
  pub put_gap : (key : List ℕ) (v : X) (es : List (List ℕ × X)) (i : ℕ) → IsGap key es i → put id_cmp key v es ≡ insert es i (key, v)
  put_gap key v [] i h = rw h refl
  put_gap key v (e ∷ es) zero h = ap (λ r. by_order r ((key, v) ∷ e ∷ es) ((e.0, v) ∷ es) (e ∷ put id_cmp key v es)) h
  put_gap key v (e ∷ es) (suc i) h =
      ap (λ r. by_order r ((key, v) ∷ e ∷ es) ((e.0, v) ∷ es) (e ∷ put id_cmp key v es)) h.0 ∙ ap (λ rest. e ∷ rest) (put_gap key v es i h.1)

  -- To write there is to put.
  put_at : (key : List ℕ) (v : X) (es : List (List ℕ × X)) (i : ℕ) → IsAt key es i → put id_cmp key v es ≡ set es i (key, v)
  put_at key v [] i h = absurd h
  put_at key v (e ∷ es) zero h =
      ap (λ r. by_order r ((key, v) ∷ e ∷ es) ((e.0, v) ∷ es) (e ∷ put id_cmp key v es)) h ∙ ap (λ k. (k, v) ∷ es) (sym (exact_ids key e.0 h))
  put_at key v (e ∷ es) (suc i) h =
      ap (λ r. by_order r ((key, v) ∷ e ∷ es) ((e.0, v) ∷ es) (e ∷ put id_cmp key v es)) h.0 ∙ ap (λ rest. e ∷ rest) (put_at key v es i h.1)

  -- It leaves as many rows.
  pub length_put : (key : List ℕ) (v : X) (es : List (List ℕ × X)) (i : ℕ) → IsAt key es i → length (put id_cmp key v es) ≡ length es
  length_put key v es i h = ap length (put_at key v es i h) ∙ length-set es i (key, v)

  -- The rows without those of an id.
  abbrev without : List ℕ → List (List ℕ × X) → List (List ℕ × X)
  without key es = filter (λ r. not (eq_by_cmp id_cmp key r.0)) es

  without_below : (key : List ℕ) (es : List (List ℕ × X)) → T (below_all id_cmp key es) → without key es ≡ es
  without_below key [] h = refl
  without_below key (e ∷ es) h =
      ap (λ r. cond (not (is_eq r)) (e ∷ without key es) (without key es)) (less (id_cmp key e.0) (first _ _ h)) ∙ ap (λ rest. e ∷ rest) (without_below key es (second _ _ h))

  -- To remove what is there leaves the rows without the id.
  pub without_at : (key : List ℕ) (es : List (List ℕ × X)) (i : ℕ) → AreRising es → IsAt key es i → filter (λ r. not (eq_by_cmp id_cmp key r.0)) es ≡ remove es i
  without_at key [] i h g = absurd g
  without_at key (e ∷ es) zero h g =
      let here : e.0 ≡ key = sym (exact_ids key e.0 g) in
      ap (λ r. cond (not (is_eq r)) (e ∷ without key es) (without key es)) g ∙ without_below key es (subst (λ k. T (below_all id_cmp k es)) here (first _ _ h))
  without_at key (e ∷ es) (suc i) h g =
      ap (λ r. cond (not (is_eq r)) (e ∷ without key es) (without key es)) g.0 ∙ ap (λ rest. e ∷ rest) (without_at key es i (second _ _ h) g.1)

  -- Rows without an id that belongs between two others are all rows.
  pub without_gap : (key : List ℕ) (es : List (List ℕ × X)) (i : ℕ) → AreRising es → IsGap key es i → filter (λ r. not (eq_by_cmp id_cmp key r.0)) es ≡ es
  without_gap key [] i h g = refl
  without_gap key (e ∷ es) zero h g =
      ap (λ r. cond (not (is_eq r)) (e ∷ without key es) (without key es)) g ∙ ap (λ rest. e ∷ rest) (without_below key es (below_less key e.0 es g (first _ _ h)))
  without_gap key (e ∷ es) (suc i) h g =
      ap (λ r. cond (not (is_eq r)) (e ∷ without key es) (without key es)) g.0 ∙ ap (λ rest. e ∷ rest) (without_gap key es i (second _ _ h) g.1)

  -- The value of an id, written at its place.
  pub written : (key : List ℕ) (es : List (List ℕ × X)) (i : ℕ) (x w : List ℕ × X) (v : X) → IsAt key es i → x ≡ get_or es i x → w ≡ (x.0, v) → set es i w ≡ put id_cmp key v es
  written key es i x w v at is write = grind (arith, common_steps, key_at, put_at)
