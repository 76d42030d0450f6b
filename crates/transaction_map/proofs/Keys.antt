-- Rows by rising id are in the order that a binary search asks.
use Rattle.std.{proofs.Common.{◌≡◌, ℕ, zero, suc, ◌+◌, ◌<◌, false, List, [], ◌∷◌, length, get_or, ap, arith}, specs.declared.cmp.Ordering.TheVariants.Less, specs.Ordering.{is_lt, ordering_index}, specs.List.Sorted.IsNonDecreasingBy, proofs.lemmas.List.Sorted.searchable_from_sorted}
use Rattle.ledger_model.proofs.Callers.{first, second}
use Rattle.transaction_map.{specs.Map.{AreRising, id_cmp}, proofs.Rising.{id_total, turned, below_at}}

module _ {X : Type 0} where
  -- Neighbours are in order.
  rising_pair : (es : List (List ℕ × X)) (k : ℕ) (d : List ℕ × X) → AreRising es → k + 1 < length es → is_lt (id_cmp (get_or es (k + 1) d).0 (get_or es k d).0) ≡ false
  rising_pair [] k d h lt = absurd (omega arith)
  rising_pair (e ∷ es) zero d h lt = ap is_lt (turned e.0 (get_or es 0 d).0 Less (below_at e.0 es 0 d (first _ _ h) (omega arith)))
  rising_pair (e ∷ es) (suc k) d h lt =
      let more : suc k + 1 ≡ suc (k + 1) = omega arith in
      rw more (rising_pair es k d (second _ _ h) (omega arith))

  -- What a binary search asks of its list.
  pub searchable : (es : List (List ℕ × X)) (key : List ℕ) → AreRising es → IsNonDecreasingBy (λ (e : List ℕ × X). ordering_index (id_cmp e.0 key)) es
  searchable es key h = searchable_from_sorted id_total (λ (e : List ℕ × X). e.0) es key (λ k d low lt. rising_pair es k d h lt)
