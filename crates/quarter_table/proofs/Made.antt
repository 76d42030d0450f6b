-- The rows that pairs make, and how they change with a pair.
use Rattle.std.{proofs.Common.{◌≡◌, ◌≢◌, ℕ, suc, ◌+◌, ◌-◌, ◌<◌, ◌⊎◌, ⊎_elim, ◌==◌, cond, List, [], ◌∷◌, ◌++◌, length, map, refl, sym, ap, ◌∙◌, subst, arith, inl, inr}, specs.List.{filter, sum_by}, proofs.lemmas.Bool.{eq-eqb, ne_eqb, cases_eq}, proofs.lemmas.List.Sums.{sum_by-cons, sum_by-append, length-filter}}
use Rattle.ledger_model.{specs.Board.Flowed, specs.BoardLaws.{AreRising, IsIn}, specs.ByDirection.{minus_flows, plus_flows}, specs.declared.by_direction.ByDirection.ByDirection, specs.Energy.rising, proofs.Callers.{passed_sum, rising-AreRising, rising-IsIn}}
use Rattle.energy_flow.specs.Flow.{Energy}
use Rattle.quarter_table.{specs.declared.row.QuarterRow.QuarterRow, specs.Rows.{no_row, row_at, with_pair, without_pair, set_row, AreAfter, AreInOrder, HavePairs}, specs.Pairs.{total, row_of, rows_of}, proofs.Orders.{row_here, row_other}, proofs.Parts.{Part, same_flows}, proofs.Replaced.{order_set, pairs_set}, proofs.Determined.{rows_alike, row_at-set_same, row_at-set_other}}

-- The pairs of a period.
abbrev own : ℕ → List Flowed → List Flowed
own q flows = filter (λ f. f.0 == q) flows

-- A row with these pairs.
abbrev row_with : ℕ → List Flowed → QuarterRow
row_with q flows = record { quarter = q; pairs = length flows; energy = total flows }

-- A pair of the period is its own.
own_same : (q : ℕ) (f : Flowed) (fs : List Flowed) → f.0 ≡ q → own q (f ∷ fs) ≡ f ∷ own q fs
own_same q f fs e = ap (λ b. cond b (f ∷ own q fs) (own q fs)) (eq-eqb f.0 q e)

-- A pair of another period is not.
own_other : (q : ℕ) (f : Flowed) (fs : List Flowed) → f.0 ≢ q → own q (f ∷ fs) ≡ own q fs
own_other q f fs ne = ap (λ b. cond b (f ∷ own q fs) (own q fs)) (ne_eqb f.0 q ne)

-- A period among those of pairs has a pair.
some_own : (q : ℕ) (fs : List Flowed) → IsIn q (map (λ f. f.0) fs) → 0 < (row_of q fs).pairs
some_own q [] there = absurd there
some_own q (f ∷ fs) there = elim (cases_eq f.0 q) [
  | inl is ↦ subst (λ fl. 0 < length fl) (sym (own_same q f fs is)) (omega arith)
  | inr not ↦ subst (λ fl. 0 < length fl) (sym (own_other q f fs not))
      (some_own q fs (⊎_elim {C = IsIn q (map (λ f. f.0) fs)} (λ (e : q ≡ f.0). absurd (not (sym e))) (λ (rest : IsIn q (map (λ f. f.0) fs)). rest) there))
]

-- A period is among those of pairs, or has none.
in_or_none : (q : ℕ) (fs : List Flowed) → IsIn q (map (λ f. f.0) fs) ⊎ (own q fs ≡ [])
in_or_none q [] = inr refl
in_or_none q (f ∷ fs) = elim (cases_eq f.0 q) [
  | inl is ↦ inl (inl (sym is))
  | inr not ↦ ⊎_elim {C = IsIn q (map (λ f. f.0) (f ∷ fs)) ⊎ (own q (f ∷ fs) ≡ [])}
      (λ (rest : IsIn q (map (λ f. f.0) fs)). inl (inr rest)) (λ (none : own q fs ≡ []). inr (own_other q f fs not ∙ none))
      (in_or_none q fs)
]

-- Numbers that rise, less the second one.
rising_less : (n m : ℕ) (ks : List ℕ) → AreRising (n ∷ m ∷ ks) → AreRising (n ∷ ks)
rising_less n m [] up = tt
rising_less n m (k ∷ ks) up = (let a : n < m = up.0 in let b : m < k = up.1.0 in omega arith, up.1.1)

-- The rows of rising periods are after the first.
rows_after : (n : ℕ) (ks : List ℕ) (fs : List Flowed) → AreRising (n ∷ ks) → AreAfter n (map (λ k. row_of k fs) ks)
rows_after n [] fs up = tt
rows_after n (k ∷ ks) fs up = (up.0, rows_after n ks fs (rising_less n k ks up))

-- Numbers that rise, less the first one.
rising_tail : (n : ℕ) (ks : List ℕ) → AreRising (n ∷ ks) → AreRising ks
rising_tail n [] up = tt
rising_tail n (k ∷ ks) up = up.1

-- The rows of rising periods are in order.
rows_in_order : (ks : List ℕ) (fs : List Flowed) → AreRising ks → AreInOrder (map (λ k. row_of k fs) ks)
rows_in_order [] fs up = tt
rows_in_order (k ∷ ks) fs up = (rows_after k ks fs up, rows_in_order ks fs (rising_tail k ks up))

-- The rows of periods among those of pairs have pairs.
rows_have_pairs : (ks : List ℕ) (fs : List Flowed) → ((k : ℕ) → IsIn k ks → IsIn k (map (λ f. f.0) fs)) → HavePairs (map (λ k. row_of k fs) ks)
rows_have_pairs [] fs among = tt
rows_have_pairs (k ∷ ks) fs among = (some_own k fs (among k (inl refl)), rows_have_pairs ks fs (λ j there. among j (inr there)))

-- The rows of pairs are in order.
pub made_in_order : (fs : List Flowed) → AreInOrder (rows_of fs)
made_in_order fs = rows_in_order (rising (map (λ f. f.0) fs)) fs (rising-AreRising (map (λ f. f.0) fs))

-- The rows of pairs have pairs.
pub made_have_pairs : (fs : List Flowed) → HavePairs (rows_of fs)
made_have_pairs fs = rows_have_pairs (rising (map (λ f. f.0) fs)) fs (λ k there. (rising-IsIn k (map (λ f. f.0) fs)).0 there)

-- The row of a period that is listed, or has no pair.
listed_row : (q : ℕ) (ks : List ℕ) (fs : List Flowed) → IsIn q ks ⊎ (row_of q fs ≡ no_row q) → row_at q (map (λ k. row_of k fs) ks) ≡ row_of q fs
listed_row q [] fs h = elim h [ inl there ↦ absurd there | inr none ↦ sym none ]
listed_row q (k ∷ ks) fs h = elim (cases_eq k q) [
  | inl is ↦ row_here q (row_of k fs) (map (λ k. row_of k fs) ks) is ∙ ap (λ n. row_of n fs) is
  | inr not ↦ row_other q (row_of k fs) (map (λ k. row_of k fs) ks) not ∙ listed_row q ks fs (elim h [
    | inl there ↦ elim there [ inl e ↦ absurd (not (sym e)) | inr rest ↦ inl rest ]
    | inr none ↦ inr none
  ])
]

-- A period that has no pair has no sum.
own_none : (q : ℕ) (fs : List Flowed) → own q fs ≡ [] → row_of q fs ≡ no_row q
own_none q fs none = ap (row_with q) none

-- The row of a period among the rows of pairs is what its pairs make.
pub made_row : (q : ℕ) (fs : List Flowed) → row_at q (rows_of fs) ≡ row_of q fs
made_row q fs = listed_row q (rising (map (λ f. f.0) fs)) fs (elim (in_or_none q fs) [
  | inl there ↦ inl ((rising-IsIn q (map (λ f. f.0) fs)).1 there)
  | inr none ↦ inr (own_none q fs none)
])

-- A row without pairs has no sum.
pub none_made : (q : ℕ) (fs : List Flowed) → (row_of q fs).pairs ≡ 0 → row_of q fs ≡ no_row q
none_made q fs none = ⊎_elim
    (λ (there : IsIn q (map (λ f. f.0) fs)). absurd (omega (arith, none, some_own q fs there)))
    (λ (empty : own q fs ≡ []). own_none q fs empty)
    (in_or_none q fs)

-- A row of these numbers.
abbrev row_as : ℕ → ℕ → ByDirection Energy → QuarterRow
row_as q pairs flows = record { quarter = q; pairs = pairs; energy = flows }

-- Rows with the same numbers.
same_row : (q m n : ℕ) (a b : ByDirection Energy) → m ≡ n → ((p : Part) → p.measure a ≡ p.measure b) → row_as q m a ≡ row_as q n b
same_row q m n a b pairs each = let flows = same_flows a b each in λ i. row_as q (pairs i) (flows i)

-- Pairs that add up the same, by whatever measure, have the same row for each period.
pub row_alike : (q : ℕ) (xs ys : List Flowed) → ((measure : Flowed → ℕ) → sum_by measure xs ≡ sum_by measure ys) → row_of q xs ≡ row_of q ys
row_alike q xs ys same =
    let part : (measure : Flowed → ℕ)
    → sum_by measure (own q xs) ≡ sum_by measure (own q ys) =
    λ measure. passed_sum measure (λ f. f.0 == q) xs ∙ same (λ f. cond (f.0 == q) (measure f) 0) ∙ sym (passed_sum measure (λ f. f.0 == q) ys) in
    let pairs : length (own q xs) ≡ length (own q ys) = length-filter (λ f. f.0 == q) xs ∙ same (λ f. cond (f.0 == q) 1 0) ∙ sym (length-filter (λ f. f.0 == q) ys) in
    same_row q (length (own q xs)) (length (own q ys)) (total (own q xs)) (total (own q ys)) pairs (λ p. p.total_of (own q xs) ∙ part (λ f. p.measure f.1) ∙ sym (p.total_of (own q ys)))

-- Pairs that add up the same, by whatever measure, make the same rows.
pub made_alike : (xs ys : List Flowed) → ((measure : Flowed → ℕ) → sum_by measure xs ≡ sum_by measure ys) → rows_of xs ≡ rows_of ys
made_alike xs ys same =
    rows_alike (rows_of xs) (rows_of ys) (made_in_order xs) (made_have_pairs xs) (made_in_order ys) (made_have_pairs ys) (λ q. made_row q xs ∙ row_alike q xs ys same ∙ sym (made_row q ys))

-- A pair more, in front, in the row of its period.
row_more : (q : ℕ) (flow : ByDirection Energy) (fs : List Flowed) → row_of q ((q, flow) ∷ fs) ≡ with_pair flow (row_of q fs)
row_more q flow fs =
    let mine = own q fs in
    ap (row_with q) (own_same q (q, flow) fs refl) ∙ same_row q (suc (length mine)) (length mine + 1) (total ((q, flow) ∷ mine)) (plus_flows (total mine) flow) (omega arith)
    (λ p. omega (arith, p.total_of ((q, flow) ∷ mine), sum_by-cons (λ (f : Flowed). p.measure f.1) (q, flow) mine, p.plus_of (total mine) flow, p.total_of mine))

-- A pair more, in front, in the row of another period.
row_else : (k q : ℕ) (flow : ByDirection Energy) (fs : List Flowed) → k ≢ q → row_of k ((q, flow) ∷ fs) ≡ row_of k fs
row_else k q flow fs apart = ap (row_with k) (own_other k (q, flow) fs (λ e. apart (sym e)))

-- A pair less in a row that has it.
less_more : (flow : ByDirection Energy) (row : QuarterRow) → without_pair flow (with_pair flow row) ≡ row
less_more flow row =
    same_row row.quarter (row.pairs + 1 - 1) row.pairs (minus_flows (plus_flows row.energy flow) flow) row.energy (omega arith)
    (λ p. omega (arith, p.minus_of (plus_flows row.energy flow) flow, p.plus_of row.energy flow))

-- A pair between others adds up as one in front.
pub moved_front : (front : List Flowed) (f : Flowed) (back : List Flowed) (measure : Flowed → ℕ) → sum_by measure (front ++ f ∷ back) ≡ sum_by measure (f ∷ (front ++ back))
moved_front front f back measure =
    let a = sum_by-append measure front (f ∷ back) in let b = sum_by-cons measure f back in let d = sum_by-cons measure f (front ++ back) in let e = sum_by-append measure front back in
    omega (arith, a, b, d, e)

-- A pair more among others, in the row of its period.
pub row_with_pair : (front : List Flowed) (q : ℕ) (flow : ByDirection Energy) (back : List Flowed) → row_of q (front ++ (q, flow) ∷ back) ≡ with_pair flow (row_of q (front ++ back))
row_with_pair front q flow back = row_alike q (front ++ (q, flow) ∷ back) ((q, flow) ∷ (front ++ back)) (moved_front front (q, flow) back) ∙ row_more q flow (front ++ back)

-- A pair more among others, in the row of another period.
pub row_without_pair : (front : List Flowed) (k q : ℕ) (flow : ByDirection Energy) (back : List Flowed) → k ≢ q → row_of k (front ++ (q, flow) ∷ back) ≡ row_of k (front ++ back)
row_without_pair front k q flow back apart = row_alike k (front ++ (q, flow) ∷ back) ((q, flow) ∷ (front ++ back)) (moved_front front (q, flow) back) ∙ row_else k q flow (front ++ back) apart

-- The rows with one set are those of other pairs, where that is so for its period and no other is touched.
set_made : (q : ℕ) (row : QuarterRow) (xs ys : List Flowed) → row ≡ row_of q ys → ((k : ℕ) → k ≢ q → row_of k xs ≡ row_of k ys) → set_row row (rows_of xs) ≡ rows_of ys
set_made q row xs ys is others =
    let quarter : row.quarter ≡ q = ap (λ (r : QuarterRow). r.quarter) is in
    let none : row.pairs ≡ 0 → row ≡ no_row row.quarter = λ zero_pairs. is ∙ none_made q ys (sym (ap (λ (r : QuarterRow). r.pairs) is) ∙ zero_pairs) ∙ ap no_row (sym quarter) in
    let at : (k : ℕ) → row_at k (set_row row (rows_of xs)) ≡ row_at k (rows_of ys) = λ k. elim (cases_eq k q) [
      | inl e ↦ ap (λ n. row_at n (set_row row (rows_of xs))) (e ∙ sym quarter) ∙ row_at-set_same row (rows_of xs) none ∙ is ∙ ap (λ n. row_of n ys) (sym e) ∙ sym (made_row k ys)
      | inr apart ↦ row_at-set_other k row (rows_of xs) (λ e. apart (e ∙ quarter)) ∙ made_row k xs ∙ others k apart ∙ sym (made_row k ys)
    ] in
    rows_alike (set_row row (rows_of xs)) (rows_of ys) (order_set row (rows_of xs) (made_in_order xs)) (pairs_set row (rows_of xs) (made_have_pairs xs)) (made_in_order ys) (made_have_pairs ys) at

-- The rows of pairs, with one pair added, are those of the pairs with that one among them.
pub made_added : (front : List Flowed) (q : ℕ) (flow : ByDirection Energy) (back : List Flowed)
    → set_row (with_pair flow (row_at q (rows_of (front ++ back)))) (rows_of (front ++ back)) ≡ rows_of (front ++ (q, flow) ∷ back)
made_added front q flow back =
    set_made q (with_pair flow (row_at q (rows_of (front ++ back)))) (front ++ back) (front ++ (q, flow) ∷ back)
    (ap (with_pair flow) (made_row q (front ++ back)) ∙ sym (row_with_pair front q flow back))
    (λ k apart. sym (row_without_pair front k q flow back apart))

-- The rows of pairs, with one of them taken out, are those of the other pairs.
pub made_removed : (front : List Flowed) (q : ℕ) (flow : ByDirection Energy) (back : List Flowed)
    → set_row (without_pair flow (row_at q (rows_of (front ++ (q, flow) ∷ back)))) (rows_of (front ++ (q, flow) ∷ back)) ≡ rows_of (front ++ back)
made_removed front q flow back =
    let there = made_row q (front ++ (q, flow) ∷ back) ∙ row_with_pair front q flow back in
    set_made q (without_pair flow (row_at q (rows_of (front ++ (q, flow) ∷ back)))) (front ++ (q, flow) ∷ back) (front ++ back)
    (ap (without_pair flow) there ∙ less_more flow (row_of q (front ++ back))) (λ k apart. row_without_pair front k q flow back apart)
