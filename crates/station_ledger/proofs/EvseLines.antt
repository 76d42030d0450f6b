-- The lines of the EVSEs from their sums, number by number.
use Rattle.std.{proofs.lemmas.Bool.Decides.nat_tests, proofs.Common.{◌≡◌, ◌==◌, inl, inr, ℕ, ◌+◌, ◌<◌, ◌≤◌, nat_lt, List, [], ◌∷◌, ◌++◌, length, map, refl, sym, ap, ◌∙◌, arith}, specs.List.filter, proofs.lemmas.List.map-append}
use Rattle.ledger_model.{specs.declared.order.Order.Order, specs.Board.Flowed, specs.BoardLaws.{AreRising, IsIn}, specs.Content.{Entry, live, transactions_of}, specs.Evse.{evse_of, evses, flows_at_by, transactions_at}, specs.Ranges.greatest_evse, proofs.EnergyLemmas.{evses_rise, evses_shown}}
use Rattle.station_ledger.{specs.declared.totals.EvseSum.EvseSum, specs.Moved.sum_at, specs.Numbered.AreNumbered, specs.Sums.AreEvseSums, proofs.Numbered.evse_few}

-- the numbers below one
abbrev pub below : ℕ → List ℕ → List ℕ
below n ns = filter (λ k. nat_lt k n) ns

-- no rising number is below the first
none_below : (n m : ℕ) (ms : List ℕ) → AreRising (m ∷ ms) → n ≤ m → below n (m ∷ ms) ≡ []
none_below n m [] up le = grind (arith, nat_tests)
none_below n m (k ∷ ms) up le = grind (arith, nat_tests, none_below n k ms up.1)

-- below the next number is the number itself, if it is there
below_more : (n : ℕ) (ns : List ℕ) → AreRising ns → IsIn n ns → below (n + 1) ns ≡ below n ns ++ n ∷ []
below_more n [] up h = absurd h
below_more n (m ∷ []) up h = grind (arith, nat_tests, h)
below_more n (m ∷ k ∷ ms) up h = grind (arith, nat_tests, below_more n (k ∷ ms) up.1, none_below n k ms up.1, none_below (n + 1) k ms up.1, h)

below_same : (n : ℕ) (ns : List ℕ) → (IsIn n ns → ⊥) → below (n + 1) ns ≡ below n ns
below_same n [] apart = refl
below_same n (m ∷ ms) apart = let other : n ≡ m → ⊥ = λ e. apart (inl e) in grind (arith, nat_tests, below_same n ms (λ h. apart (inr h)), other)

pub none_yet : (ns : List ℕ) → below 0 ns ≡ []
none_yet [] = refl
none_yet (n ∷ ns) = grind (arith, nat_tests, none_yet ns)

all_below : (n : ℕ) (ns : List ℕ) → ((k : ℕ) → IsIn k ns → k < n) → below n ns ≡ ns
all_below n [] small = refl
all_below n (m ∷ ms) small = grind (arith, nat_tests, small m (inl refl), all_below n ms (λ k h. small k (inr h)))

-- numbers of a list, by how many elements have them
some_of : {X : Type 0} (key : X → ℕ) (n : ℕ) (xs : List X) → IsIn n (map key xs) → 0 < length (filter (λ x. key x == n) xs)
some_of key n [] h = absurd h
some_of key n (x ∷ xs) h = grind (arith, nat_tests, some_of key n xs, h)

of_some : {X : Type 0} (key : X → ℕ) (n : ℕ) (xs : List X) → 0 < length (filter (λ x. key x == n) xs) → IsIn n (map key xs)
of_some key n [] h = absurd (omega (arith, h))
of_some key n (x ∷ xs) h = grind (arith, nat_tests, of_some key n xs, h)

-- the lines of the numbers below one
abbrev pub lines_below : Order → List Entry → ℕ → List Flowed
lines_below order es n = map (λ evse. (evse, flows_at_by order evse es)) (below n (evses es))

module _ {order : Order} {es : List Entry} {sums : List EvseSum} (are : AreEvseSums order es sums) {n : ℕ} (le : n ≤ greatest_evse) where
  count : (sum_at sums n).transactions ≡ length (transactions_at n es)
  count = ap (λ (s : EvseSum). s.transactions) (are.each n le)

  -- the lines with that of the next number
  pub line_more : 0 < (sum_at sums n).transactions → lines_below order es (n + 1) ≡ lines_below order es n ++ (n, (sum_at sums n).energy) ∷ []
  line_more some =
      let there : IsIn n (evses es) = (evses_shown es n).1 (of_some (λ tx. evse_of tx es) n (transactions_of (live es)) (omega (arith, count))) in
      let line : ℕ → Flowed = λ k. (k, flows_at_by order k es) in
      ap (map line) (below_more n (evses es) (evses_rise es) there) ∙ map-append line (below n (evses es)) (n ∷ []) ∙ (λ i. lines_below order es n ++ (n, (sym (are.each n le) i).energy) ∷ [])

  -- and where the next number has none
  pub line_same : (0 < (sum_at sums n).transactions → ⊥) → lines_below order es (n + 1) ≡ lines_below order es n
  line_same none = ap (map {B = Flowed} (λ k. (k, flows_at_by order k es))) (below_same n (evses es) (λ there.
      none (omega (arith, count, some_of (λ tx. evse_of tx es) n (transactions_of (live es)) ((evses_shown es n).0 there)))))

-- past the last number these are the lines of the board
pub all_lines : (order : Order) (es : List Entry) → AreNumbered es → lines_below order es (greatest_evse + 1) ≡ map (λ evse. (evse, flows_at_by order evse es)) (evses es)
all_lines order es in_range =
    ap (map {B = Flowed} (λ k. (k, flows_at_by order k es))) (all_below (greatest_evse + 1) (evses es) (λ k h. few k (transactions_of (live es)) ((evses_shown es k).0 h)))
  where
    few : (n : ℕ) (ts : List (List ℕ)) → IsIn n (map (λ tx. evse_of tx es) ts) → n < greatest_evse + 1
    few n [] h = absurd h
    few n (t ∷ ts) h = grind (arith, evse_few t es in_range, few n ts, h)
