-- An index with a place put in or taken out.
use Rattle.std.{proofs.lemmas.Grind.common_steps, proofs.Common.{◌≡◌, ℕ, ◌+◌, ◌<◌, ◌≤◌, ◌/◌, ◌^◌, nat_lt, ◌==◌, true, false, not, cond, T, List, [], ◌∷◌, ◌++◌, Some, None, is_some, drop, slice_get, refl, sym, ap, ◌∙◌, subst, arith, inl, inr}, proofs.lemmas.Bool.{cases_lt, cases_eq}, proofs.lemmas.Bool.Decides.{Decides-ltb, Decides-eqb}, specs.List.filter, specs.Ordering.{is_eq, is_lt, eq_by_cmp, nat_cmp}, specs.declared.cmp.Ordering.TheVariants.Greater, specs.FinMap.put, specs.FinMap.Entries.{by_order, below_all}}
use Rattle.key_index.{specs.Entries.{below, from, filed_at, first_of, last_of, AreAbove, AreRising, AreBelow}, specs.Key.rank, proofs.Orders.{above_less, cut_whole, last_cons, rising_parts}}
use Rattle.ledger_model.{proofs.Rising.both, specs.Key.KeyName}
use Rattle.event_chain.{specs.Flat.{EventPlace, place_of, segment}, specs.declared.row.TableRow.TableRow, specs.Table.{TxRow, row_of}, specs.Kept.AreRanks, specs.Edits.{place_in, place_at, at_home}, proofs.Changes.find_none, proofs.Decided.{rank_test, not_so, denied}, proofs.Flats.nat_less}

-- Greater ranks are behind.
above_below : (r : ℕ) (es : List EventPlace) → AreAbove r es → T (below_all nat_cmp r es)
above_below r [] h = tt
above_below r (e ∷ es) h = both _ _ (subst (λ o. T (is_lt o)) (sym (nat_less r e.0 h.0)) tt) (above_below r es h.1)

-- The keys of an index rise.
pub ranks_of : (es : List EventPlace) → AreRising es → AreRanks es
ranks_of [] h = tt
ranks_of (e ∷ es) h = both _ _ (above_below e.0 es h.0) (ranks_of es h.1)

-- A greater number comes after.
nat_greater : (a b : ℕ) → b < a → nat_cmp a b ≡ Greater
nat_greater a b lt = grind (arith, common_steps)

-- A rank below all of a list is not found in it.
none_below : (r : ℕ) (es : List EventPlace) → AreAbove r es → place_of r es ≡ None
none_below r es h = find_none nat_cmp r es (above_below r es h)

-- What an index finds under a key.
pub found_at : (key : ℕ) (es : List EventPlace) → AreRising es → filed_at key (from key es) ≡ place_of key es
found_at key [] h = refl
found_at key (e ∷ es) h = grind (arith, common_steps, cases_lt, Decides-ltb, nat_greater, not_so, cases_eq, Decides-eqb, rank_test, none_below, above_less, found_at key es h.1)

-- An index with a new key.
pub put_is : (key slot : ℕ) (es : List EventPlace) → filed_at key (from key es) ≡ None → below key es ++ (key, slot) ∷ from key es ≡ put nat_cmp key slot es
put_is key slot [] absent = refl
put_is key slot (e ∷ es) absent =
    elim (cases_lt e.0 key) [
      | inl lt ↦
          let yes = (Decides-ltb e.0 key).1 lt in
          ap (λ b. cond b (e ∷ below key es) [] ++ (key, slot) ∷ cond b (from key es) (e ∷ es)) yes
          ∙ ap (λ (rest : List EventPlace). e ∷ rest) (put_is key slot es (sym (ap (λ b. filed_at key (cond b (from key es) (e ∷ es))) yes) ∙ absent))
          ∙ sym (ap (λ o. by_order o ((key, slot) ∷ e ∷ es) ((e.0, slot) ∷ es) (e ∷ put nat_cmp key slot es)) (nat_greater key e.0 lt))
      | inr le ↦
          let never = not_so _ (Decides-ltb e.0 key) (λ lt. absurd (omega arith)) in
          let none : cond (e.0 == key) (Some e.1) None ≡ None = sym (ap (λ b. filed_at key (cond b (from key es) (e ∷ es))) never) ∙ absent in
          ap (λ b. cond b (e ∷ below key es) [] ++ (key, slot) ∷ cond b (from key es) (e ∷ es)) never
          ∙ sym (ap (λ o. by_order o ((key, slot) ∷ e ∷ es) ((e.0, slot) ∷ es) (e ∷ put nat_cmp key slot es)) (nat_less key e.0 (elim (cases_eq e.0 key) [
            | inl is ↦ let f : Some e.1 ≡ None = sym (ap (λ b. cond b (Some e.1) None) ((Decides-eqb e.0 key).1 is)) ∙ none in cc
            | inr other ↦ omega (arith, other)
          ])))
    ]

-- Greater ranks stay where one is left out.
without_above : (key : ℕ) (es : List EventPlace) → AreAbove key es → filter (λ e. not (eq_by_cmp nat_cmp key e.0)) es ≡ es
without_above key [] h = refl
without_above key (e ∷ es) h = grind (arith, common_steps, without_above key es h.1)

-- An index without a key that was there.
pub out_is : (key : ℕ) (es : List EventPlace) → AreRising es → is_some (filed_at key (from key es)) ≡ true → below key es ++ drop 1 (from key es) ≡ filter (λ e. not (eq_by_cmp nat_cmp key e.0)) es
out_is key [] rising there = cc
out_is key (e ∷ es) rising there =
    let rest = filter (λ (x : EventPlace). not (eq_by_cmp nat_cmp key x.0)) es in
    elim (cases_lt e.0 key) [
      | inl lt ↦
          let yes = (Decides-ltb e.0 key).1 lt in
          ap (λ b. cond b (e ∷ below key es) [] ++ drop 1 (cond b (from key es) (e ∷ es))) yes
          ∙ ap (λ (more : List EventPlace). e ∷ more) (out_is key es rising.1 (sym (ap (λ b. is_some (filed_at key (cond b (from key es) (e ∷ es)))) yes) ∙ there))
          ∙ sym (ap (λ o. cond (not (is_eq o)) (e ∷ rest) rest) (nat_greater key e.0 lt))
      | inr le ↦
          let never = not_so _ (Decides-ltb e.0 key) (λ lt. absurd (omega arith)) in
          let some : is_some (cond (e.0 == key) (Some e.1) None) ≡ true = sym (ap (λ b. is_some (filed_at key (cond b (from key es) (e ∷ es)))) never) ∙ there in
          let is : e.0 ≡ key =
          elim (e.0 == key) as (λ b. (e.0 == key) ≡ b → is_some (cond b (Some e.1) None) ≡ true → e.0 ≡ key) [ true ↦ λ y _. (Decides-eqb e.0 key).0 y | false ↦ λ _ f. cc ] refl some in
          ap (λ b. cond b (e ∷ below key es) [] ++ drop 1 (cond b (from key es) (e ∷ es))) never
          ∙ sym (without_above key es (subst (λ k. AreAbove k es) is rising.0))
          ∙ sym (ap (λ b. cond (not b) (e ∷ rest) rest) ((rank_test key e.0).1 (sym is)))
    ]

-- What is not less is as great.
pub not_less : (a b : ℕ) → nat_lt a b ≡ false → b ≤ a
not_less a b never = elim (cases_lt a b) [ inl lt ↦ let f : true ≡ false = sym ((Decides-ltb a b).1 lt) ∙ never in cc | inr le ↦ le ]

-- The place of a key whose transaction is known.
pub place_at_row : (rows : List TxRow) (es : List EventPlace) (key : KeyName) (row : TableRow) → row_of key.tx rows ≡ Some row
    → key.seq < 2 ^ 31 → place_at rows es key ≡ place_of (rank row.slot key.seq) es
place_at_row rows es key row is lt = ap (place_in es key.seq) is ∙ ap (λ b. cond b (place_of (rank row.slot key.seq) es) None) ((Decides-ltb key.seq (2 ^ 31)).1 lt)

-- None above a greater slot's ranks is of the transaction.
pub seg_above : (t n : ℕ) (es : List EventPlace) → AreAbove n es → t < n / 2 ^ 31 → segment t es ≡ []
seg_above t n [] h lt = refl
seg_above t n (e ∷ es) h lt = let up = h.0 in
    ap (λ b. cond b (e ∷ segment t es) (segment t es)) (not_so _ (Decides-eqb (e.0 / 2 ^ 31) t) (λ is. absurd (omega arith))) ∙ seg_above t n es h.1 lt

-- The first of a segment is the first place from its slot's ranks on, where that is its.
pub first_seg : (t : ℕ) (es : List EventPlace) → AreRising es → at_home t (first_of (from (rank t 0) es)) ≡ slice_get (segment t es) 0
first_seg t [] h = refl
first_seg t (e ∷ es) h = grind (arith, common_steps, Decides-ltb, not_so, Decides-eqb, not_less, denied, seg_above, first_seg t es h.1)

-- The last of a segment, among ranks below its end.
pub last_under_seg : (t : ℕ) (es : List EventPlace) → AreRising es → AreBelow (rank (t + 1) 0) es → at_home t (last_of es) ≡ last_of (segment t es)
last_under_seg t [] h u = refl
last_under_seg t (e ∷ []) h u = elim (e.0 / 2 ^ 31 == t) as (λ b. cond b (Some e) None ≡ last_of (cond b (e ∷ []) [])) [ true ↦ refl | false ↦ refl ]
last_under_seg t (e ∷ f ∷ es) h u = grind (arith, common_steps, last_cons, Decides-eqb, last_under_seg t (f ∷ es) h.1 u.1)

-- What is below a rank is under it.
pub below_under : (n : ℕ) (es : List EventPlace) → AreBelow n (below n es)
below_under n [] = tt
below_under n (e ∷ es) = elim (nat_lt e.0 n) as (λ b. nat_lt e.0 n ≡ b → AreBelow n (cond b (e ∷ below n es) [])) [ true ↦ λ y. ((Decides-ltb e.0 n).0 y, below_under n es) | false ↦ λ _. tt ] refl

-- It rises.
pub below_rising : (n : ℕ) (es : List EventPlace) → AreRising es → AreRising (below n es)
below_rising n es h = (rising_parts (below n es) (from n es) (subst AreRising (sym (cut_whole n es)) h)).0

-- No place from the end of a slot's ranks on is of its transaction.
below_seg : (t : ℕ) (es : List EventPlace) → AreRising es → segment t (below (rank (t + 1) 0) es) ≡ segment t es
below_seg t [] h = refl
below_seg t (e ∷ es) h = grind (arith, common_steps, not_less, not_so, Decides-eqb, seg_above, below_seg t es h.1)

-- The last of a segment is the last place before the end of its slot's ranks, where that is its.
pub last_seg : (t : ℕ) (es : List EventPlace) → AreRising es → at_home t (last_of (below (rank (t + 1) 0) es)) ≡ last_of (segment t es)
last_seg t es h = last_under_seg t (below (rank (t + 1) 0) es) (below_rising (rank (t + 1) 0) es h) (below_under (rank (t + 1) 0) es) ∙ ap last_of (below_seg t es h)
