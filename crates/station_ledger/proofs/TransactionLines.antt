-- The lines of the transactions from what is kept of each.
use Rattle.std.{proofs.lemmas.Bool.Decides.nat_tests, proofs.Common.{◌≡◌, ℕ, suc, ◌+◌, ◌-◌, ◌<◌, true, T, List, [], ◌∷◌, ◌++◌, Some, is_some, unwrap_or, length, map, take, slice_get, refl, sym, ap, subst, ◌∙◌, arith}, specs.List.{AllByRecursion, filter, list_any}, specs.List.Sorted.IsStrictlySortedBy, specs.Str.bytes_eq, specs.Ordering.is_lt, specs.declared.cmp.Ordering.TheVariants.Less, specs.FinMap.find, specs.FinMap.Entries.below_all, proofs.lemmas.List.map_more, proofs.lemmas.Map.Keys.any_passes_from_place, proofs.lemmas.Option.{get_or_from_slice_get, slice_get_within}, proofs.lemmas.Slice.Eq.bytes_eq-Decides}
use Rattle.event_chain.specs.Chains.{Chained, stored}
use Rattle.ledger_model.{specs.Board.last_or_zero, specs.Content.{Entry, live, transactions_of, has_transaction}, specs.declared.order.Order.Order, specs.Energy.flows_of_by, specs.Evse.first_or_zero, specs.Limits.Bounds, proofs.Rising.both, proofs.TransactionLemmas.{transactions-any, transactions_rise}}
use Rattle.transaction_map.{specs.Map.{Mapped, AreRising, id_cmp}, proofs.Found.same_ids, proofs.Rising.{equal_ids, same_id}}
use Rattle.station_ledger.{specs.declared.standing.Standing.Standing, specs.Standing.{kept_of, standing_by}, specs.Sums.AreStanding, proofs.EndNumbers.kept_some, proofs.Moved.none_live}

-- ids with nothing else
abbrev bare : List (List ℕ) → List (List ℕ × Unit {0})
bare ts = map (λ t. (t, tt)) ts

bare_ids : (ts : List (List ℕ)) → map (λ (r : List ℕ × Unit {0}). r.0) (bare ts) ≡ ts
bare_ids [] = refl
bare_ids (t ∷ ts) = ap (λ us. t ∷ us) (bare_ids ts)

bare_below : (t : List ℕ) (ts : List (List ℕ)) → AllByRecursion (λ u. id_cmp t u ≡ Less) ts → T (below_all id_cmp t (bare ts))
bare_below t [] h = tt
bare_below t (u ∷ ts) h = both _ _ (subst (λ o. T (is_lt o)) (sym h.0) tt) (bare_below t ts h.1)

bare_rise : (ts : List (List ℕ)) → IsStrictlySortedBy id_cmp ts → AreRising (bare ts)
unfolding IsStrictlySortedBy
bare_rise [] h = tt
bare_rise (t ∷ ts) h = both _ _ (bare_below t ts h.0) (bare_rise ts h.1)

-- both tests distinguish ids
bare_found : (q : List ℕ) (ts : List (List ℕ)) → is_some (find id_cmp q (bare ts)) ≡ list_any (bytes_eq q) ts
bare_found q [] = refl
bare_found q (t ∷ ts) = grind (arith, bare_found q ts, bytes_eq-Decides q t, equal_ids q t, same_id t)

-- a transaction with an event has some
some_own : (tx : List ℕ) (es : List Entry) → has_transaction tx es ≡ true → 0 < length (filter (λ (e : Entry). bytes_eq tx e.0.tx) es)
some_own tx [] h = cc
some_own tx (e ∷ es) h = grind (arith, some_own tx es, h)

-- it is kept just where it has a live event
kept_has : (order : Order) (tx : List ℕ) (es : List Entry) → is_some (kept_of order tx es) ≡ has_transaction tx (live es)
kept_has order tx es = grind (arith, nat_tests, some_own tx (live es), none_live tx es)

module _ (order : Order) (limits : Bounds) (c : Chained) (kept : Mapped Standing) (standing : AreStanding order limits (stored c) kept) where
  -- the ids that are kept are those of the transactions with a live event
  pub kept_ids : map (λ (r : List ℕ × Standing). r.0) kept.rows ≡ transactions_of (live (stored c))
  kept_ids =
      let es = stored c in let ts = transactions_of (live es) in
      same_ids kept.rows (bare ts) standing.rising (bare_rise ts (transactions_rise (record { events = c.events; changes = 0 })))
      (λ q. ap is_some (standing.each q) ∙ kept_has order q es ∙ sym (bare_found q ts ∙ transactions-any q (live es)))
      ∙ bare_ids ts

  -- what is found under the id of a place
  pub found_at : (n : ℕ) (tx : List ℕ) → slice_get (map (λ (r : List ℕ × Standing). r.0) kept.rows) n ≡ Some tx → find id_cmp tx kept.rows ≡ Some (standing_by order tx (stored c))
  found_at n tx at =
      let es = stored c in
      let any = any_passes_from_place (bytes_eq tx) (transactions_of (live es)) n tx (ap (λ ts. slice_get ts n) (sym kept_ids) ∙ at) ((bytes_eq-Decides tx tx).1 refl) in
      standing.each tx ∙ sym (kept_some (flows_of_by order tx es) tx es (some_own tx (live es) (sym (transactions-any tx (live es)) ∙ any)))

-- the lines with that of the next id
pub line_more : {X : Type 0} (line : List ℕ → X) (ids : List (List ℕ)) (n : ℕ) (tx : List ℕ) → slice_get ids n ≡ Some tx → map line (take (n + 1) ids) ≡ map line (take n ids) ++ line tx ∷ []
line_more line ids n tx at = map_more line ids n tx (slice_get_within ids n tx at) ∙ ap (λ t. map line (take n ids) ++ line t ∷ []) (get_or_from_slice_get ids n tx tx at)

-- the first and the last, or nothing
pub first_is_or : (ns : List ℕ) → unwrap_or (slice_get ns 0) 0 ≡ first_or_zero ns
first_is_or [] = refl
first_is_or (n ∷ ns) = refl

pub last_is_or : (ns : List ℕ) → unwrap_or (slice_get ns (length ns - 1)) 0 ≡ last_or_zero ns
last_is_or [] = refl
last_is_or (n ∷ []) = refl
last_is_or (n ∷ m ∷ ns) = let at : length (n ∷ m ∷ ns) - 1 ≡ suc (length (m ∷ ns) - 1) = omega arith in ap (λ k. unwrap_or (slice_get (n ∷ m ∷ ns) k) 0) at ∙ last_is_or (m ∷ ns)
