-- Sums over entries that differ under one key.
use Rattle.std.{proofs.Common.{◌≡◌, ℕ, ◌+◌, not, cond, T, List, [], ◌∷◌, Option, Some, None, sum_by, refl, sym, ap, subst, arith}, specs.Ordering.is_eq, specs.declared.cmp.Ordering.Ordering, specs.declared.cmp.Ordering.TheVariants.{Less, Equal, Greater}, specs.FinMap.find, specs.FinMap.Entries.below_all, proofs.lemmas.List.Sums.sum_by-cons}
use Rattle.ledger_model.{specs.Key.{KeyName, key_cmp}, specs.Content.{Entry, Stored}, specs.Entries.{IsRising, entries_without}, proofs.Callers.{first, second, key_total, exact_keys, find_below}}
use Rattle.event_chain.proofs.Changes.{IsChange, change_here, change_rest}

module _ (f : Entry → ℕ) where
  -- What is counted of the event of a key.
  abbrev pub at_key : KeyName → Option Stored → ℕ
  at_key key None = 0
  at_key key (Some s) = f (key, s)

  -- A sum without the event of a key, and with it.
  pub sum_without : (key : KeyName) (es : List Entry) → IsRising es → sum_by f (entries_without key es) + at_key key (find key_cmp key es) ≡ sum_by f es
  sum_without key [] rising = omega arith
  sum_without key (e ∷ es) rising =
      elim (key_cmp key e.0) as (λ (o : Ordering). key_cmp key e.0 ≡ o
      → sum_by f (cond (not (is_eq o)) (e ∷ entries_without key es) (entries_without key es)) + at_key key (cond (is_eq o) (Some e.1) (find key_cmp key es)) ≡ sum_by f (e ∷ es)) [
        | Less ↦ λ p. omega (arith, sum_without key es (second _ _ rising), sum_by-cons f e es, sum_by-cons f e (entries_without key es))
        | Equal ↦ λ p. let same : key ≡ e.0 = exact_keys key e.0 p in let two = ap (λ (k : KeyName). f (k, e.1)) same in
            let none = ap (at_key key) (find_below key es (subst (λ k. T (below_all key_cmp k es)) (sym same) (first _ _ rising))) in
            omega (arith, two, none, sum_without key es (second _ _ rising), sum_by-cons f e es)
        | Greater ↦ λ p. omega (arith, sum_without key es (second _ _ rising), sum_by-cons f e es, sum_by-cons f e (entries_without key es))
      ] refl

  -- A sum with what is under the key now, and with what was there.
  pub sum_change : (key : KeyName) (now : Option Stored) (es more : List Entry) → IsChange key_cmp key now es more → IsRising es
      → sum_by f more + at_key key (find key_cmp key es) ≡ sum_by f es + at_key key now
  sum_change key now es more change rising = omega (
    arith,
    sum_without key es rising,
    sum_without key more (change.rises rising),
    ap (sum_by f) (change_rest key_cmp key_total exact_keys key now es more change rising),
    ap (at_key key) (change_here key_cmp key_total exact_keys key now es more change),
  )
