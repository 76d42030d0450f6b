-- What is found after an edit, and which maps have the same ids.
use Rattle.std.{proofs.lemmas.Grind.common_steps, proofs.Common.{◌≡◌, ℕ, ◌+◌, ◌<◌, ◌≤◌, Bool, true, false, not, cond, T, ◌&&◌, List, [], ◌∷◌, map, Option, Some, None, is_some, length, refl, sym, ap, subst, ◌∙◌, arith, inl, inr, ◌⊎◌}, specs.List.filter, specs.Ordering.{is_eq, is_lt, eq_by_cmp}, specs.Cmp.{eq_by_cmp_equiv, alike_right}, specs.FinMap.{find, put, is_sorted}, specs.FinMap.Entries.{below_all, find-put, find-where_key, is_sorted-put, is_sorted-where_key, length-put, length_without, same_entries}}
use Rattle.transaction_map.{specs.Map.{AreRising, id_cmp}, proofs.Rising.{id_total, exact_ids, equal_ids}}

turned : {A : Type 0} (b : Bool) (x y : A) → cond (not b) x y ≡ cond b y x
turned b x y = grind (arith, common_steps)

module _ {X : Type 0} where
  -- What is found where a value was put.
  pub found_put : (q tx : List ℕ) (v : X) (rows : List (List ℕ × X)) → find id_cmp q (put id_cmp tx v rows) ≡ cond (eq_by_cmp id_cmp q tx) (Some v) (find id_cmp q rows)
  found_put q tx v rows = find-put id_cmp id_total q tx v rows

  -- What is found where a value was taken out.
  pub found_out : (q tx : List ℕ) (rows : List (List ℕ × X)) → find id_cmp q (filter (λ r. not (eq_by_cmp id_cmp tx r.0)) rows) ≡ cond (eq_by_cmp id_cmp q tx) None (find id_cmp q rows)
  found_out q tx rows =
      find-where_key id_cmp (λ x. not (eq_by_cmp id_cmp tx x)) q (λ x t. ap (λ r. not (is_eq r)) (sym (alike_right id_total q x tx t))) rows
      ∙ turned (eq_by_cmp id_cmp tx q) (find id_cmp q rows) None ∙ ap (λ b. cond b None (find id_cmp q rows)) ((eq_by_cmp_equiv id_total).symm tx q)

  -- What is found after a put was put, or was there.
  pub put_cases : (q tx : List ℕ) (v x : X) (rows : List (List ℕ × X)) → find id_cmp q (put id_cmp tx v rows) ≡ Some x → ((q ≡ tx) × (x ≡ v)) ⊎ (find id_cmp q rows ≡ Some x)
  put_cases q tx v x rows h = grind (arith, common_steps, equal_ids, found_put)

  -- What is found after one was taken out is another.
  pub out_cases : (q tx : List ℕ) (x : X) (rows : List (List ℕ × X))
      → find id_cmp q (filter (λ r. not (eq_by_cmp id_cmp tx r.0)) rows) ≡ Some x
      → (eq_by_cmp id_cmp q tx ≡ false) × (find id_cmp q rows ≡ Some x)
  out_cases q tx x rows h = grind (arith, common_steps, found_out)

  -- Ids rise where a value was put.
  pub rising_put : (tx : List ℕ) (v : X) (rows : List (List ℕ × X)) → AreRising rows → AreRising (put id_cmp tx v rows)
  rising_put tx v rows h = is_sorted-put id_cmp id_total tx v rows h

  -- Ids rise where a value was taken out.
  pub rising_out : (tx : List ℕ) (rows : List (List ℕ × X)) → AreRising rows → AreRising (filter (λ r. not (eq_by_cmp id_cmp tx r.0)) rows)
  rising_out tx rows h = is_sorted-where_key id_cmp (λ x. not (eq_by_cmp id_cmp tx x)) rows h

  -- How many rows there are where a value was put.
  pub length_put : (tx : List ℕ) (v : X) (rows : List (List ℕ × X)) → AreRising rows → length (put id_cmp tx v rows) ≡ cond (is_some (find id_cmp tx rows)) (length rows) (length rows + 1)
  length_put tx v rows h = length-put id_cmp id_total tx v rows h

  -- How many rows there are where a value was taken out.
  pub length_out : (tx : List ℕ) (rows : List (List ℕ × X)) → AreRising rows → cond (is_some (find id_cmp tx rows)) 1 0 + length (filter (λ r. not (eq_by_cmp id_cmp tx r.0)) rows) ≡ length rows
  length_out tx rows h = length_without id_cmp id_total tx rows h

  -- A put stays within the capacity where a new id has room.
  pub within_put : (tx : List ℕ) (v : X) (rows : List (List ℕ × X)) (capacity : ℕ) → AreRising rows → length rows ≤ capacity
      → (find id_cmp tx rows ≡ None → length rows < capacity) → length (put id_cmp tx v rows) ≤ capacity
  within_put tx v rows capacity rising within room = grind (arith, common_steps, length_put)

  -- What is taken out stays within the capacity.
  pub within_out : (tx : List ℕ) (rows : List (List ℕ × X)) (capacity : ℕ) → AreRising rows → length rows ≤ capacity → length (filter (λ r. not (eq_by_cmp id_cmp tx r.0)) rows) ≤ capacity
  within_out tx rows capacity rising within = omega (arith, length_out tx rows rising)

  -- The rows with nothing but their ids.
  abbrev names : List (List ℕ × X) → List (List ℕ × Unit {0})
  names [] = []
  names (e ∷ es) = (e.0, tt) ∷ names es

  names-ids : (es : List (List ℕ × X)) → map (λ r. r.0) (names es) ≡ map (λ r. r.0) es
  names-ids [] = refl
  names-ids (e ∷ es) = ap (λ rest. e.0 ∷ rest) (names-ids es)

  names-below : (x : List ℕ) (es : List (List ℕ × X)) → below_all id_cmp x (names es) ≡ below_all id_cmp x es
  names-below x [] = refl
  names-below x (e ∷ es) = ap (λ b. is_lt (id_cmp x e.0) && b) (names-below x es)

  names-rising : (es : List (List ℕ × X)) → is_sorted id_cmp (names es) ≡ is_sorted id_cmp es
  names-rising [] = refl
  names-rising (e ∷ es) = ap (λ b. b && is_sorted id_cmp (names es)) (names-below e.0 es) ∙ ap (λ b. below_all id_cmp e.0 es && b) (names-rising es)

  names-find : (q : List ℕ) (es : List (List ℕ × X)) → find id_cmp q (names es) ≡ cond (is_some (find id_cmp q es)) (Some tt) None
  names-find q [] = refl
  names-find q (e ∷ es) = grind (arith, common_steps, names-find q es)

-- Rising lists have the same ids if the same ids are found in them.
pub same_ids : {X Y : Type 0} (xs : List (List ℕ × X)) (ys : List (List ℕ × Y)) → AreRising xs → AreRising ys
    → ((q : List ℕ) → is_some (find id_cmp q xs) ≡ is_some (find id_cmp q ys)) → map (λ r. r.0) xs ≡ map (λ r. r.0) ys
same_ids xs ys xr yr same =
    let named : names xs ≡ names ys =
    same_entries id_cmp id_total exact_ids (names xs) (names ys) (subst T (sym (names-rising xs)) xr)
    (subst T (sym (names-rising ys)) yr) (λ q. names-find q xs ∙ ap (λ b. cond b (Some tt) None) (same q) ∙ sym (names-find q ys)) in
    sym (names-ids xs) ∙ ap (map (λ r. r.0)) named ∙ names-ids ys
