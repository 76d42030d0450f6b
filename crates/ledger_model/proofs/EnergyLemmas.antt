-- The energy of a station, parted by periods, by EVSEs and by transactions.
use Rattle.std.{proofs.Common.{◌≡◌, ◌↔◌, ℕ, ◌+◌, ◌*◌, Bool, true, false, cond, List, refl, ap, sym, ◌∙◌, ⊎_elim, arith, map, eqb}, proofs.lemmas.Bool.{eq-eqb, ne_eqb, cases_eq}, specs.Prelude.sum_by, specs.List.{filter, flat_map}, proofs.lemmas.List.Recursion.is_sum_by}
use Rattle.energy_flow.specs.Flow.{Energy}
use Rattle.ledger_model.{specs.Periods.Periods, specs.declared.order.Order.Order, specs.declared.reading.Direction.Direction, specs.declared.reading.Direction.TheVariants.{Import, Export}, specs.Content.{Entry, live, transactions_of}, specs.ByDirection.{in_each, no_flows, plus_flows}, specs.declared.by_direction.ByDirection.ByDirection, specs.Energy.{Pair, all_pairs_by, difference, flows_in_by, pairs_by, energy_by, energy_of_by, energy_in_by, parts_of_both, parts_over, quarters_by}, specs.Parts.Part, specs.Evse.{evse_of, evses, energy_at_by, transactions_at}, specs.Board.{Flowed, board_by, flows_under}, specs.BoardLaws.{AreRising, IsIn, sum_of_energies}, proofs.PartLemmas.{parts_down, parts_up}, proofs.SumLemmas.{among_back, among_front, sum_by_among, sum_by_rising, sum_by-flat_map, sum_by-same, sum_by-map, sum_by-count, times, times-among_sum, rising-AreRising, rising-IsIn}}

sum_of-up : {X : Type 0} (e : X → Energy) (xs : List X) → (sum_of_energies (map e xs)).up ≡ sum_by (λ x. (e x).up) xs
sum_of-up e xs = is_sum_by (λ xs. (sum_of_energies (map e xs)).up) (λ x. (e x).up) refl (λ x xs. refl) xs

sum_of-down : {X : Type 0} (e : X → Energy) (xs : List X) → (sum_of_energies (map e xs)).down ≡ sum_by (λ x. (e x).down) xs
sum_of-down e xs = is_sum_by (λ xs. (sum_of_energies (map e xs)).down) (λ x. (e x).down) refl (λ x xs. refl) xs

pub same_energy : (a b : Energy) → a.up ≡ b.up → a.down ≡ b.down → a ≡ b
same_energy a b up down = λ i. record { up = up i; down = down i }

-- an energy whose rises and falls are the sums of energies' is their sum
by_sums : {X : Type 0} (whole : Energy) (e : X → Energy) (xs : List X) → sum_by (λ x. (e x).up) xs ≡ whole.up → sum_by (λ x. (e x).down) xs ≡ whole.down → whole ≡ sum_of_energies (map e xs)
by_sums whole e xs up down = same_energy _ _ (sym (sum_of-up e xs ∙ up)) (sym (sum_of-down e xs ∙ down))

-- the period of a part
abbrev own : Part → ℕ
own t = t.0

-- the parts in one direction
abbrev sides : Order → Direction → Periods → List Entry → List Part
sides order d period es = parts_over period (all_pairs_by order d es)

-- their periods are among those of both
shown_parts : (order : Order) (d : Direction) (period : Periods) (es : List Entry) (n : ℕ) → IsIn n (map own (sides order d period es)) → IsIn n (map own (parts_of_both order period es))
shown_parts order Import period es n there = among_front own (sides order Import period es) (sides order Export period es) n there
shown_parts order Export period es n there = among_back own (sides order Import period es) (sides order Export period es) n there

pub by_quarter : (order : Order) (d : Direction) (period : Periods) (es : List Entry)
    → energy_by order d es ≡ sum_of_energies (map (λ quarter. energy_in_by order d period quarter es) (quarters_by order period es))
by_quarter order d period es =
    let among = λ (f : Part → ℕ). sum_by_among f own (sides order d period es) (parts_of_both order period es) (shown_parts order d period es) in
    by_sums _ (λ quarter. energy_in_by order d period quarter es) (quarters_by order period es)
    (among (λ t. t.1.up) ∙ parts_up period (all_pairs_by order d es)) (among (λ t. t.1.down) ∙ parts_down period (all_pairs_by order d es))

-- a sum over the pairs of each EVSE's transactions
evse_sum : (order : Order) (d : Direction) (f : Pair → ℕ) (es : List Entry)
    → sum_by (λ evse. sum_by f (flat_map (λ tx. pairs_by order d tx es) (transactions_at evse es))) (evses es) ≡ sum_by f (all_pairs_by order d es)
evse_sum order d f es =
    sum_by-same _ _ (λ evse. sum_by-flat_map f (λ tx. pairs_by order d tx es) (transactions_at evse es)) (evses es)
    ∙ sum_by_rising (λ tx. sum_by f (pairs_by order d tx es)) (λ tx. evse_of tx es) (transactions_of (live es))
    ∙ sym (sum_by-flat_map f (λ tx. pairs_by order d tx es) (transactions_of (live es)))

pub by_evse : (order : Order) (d : Direction) (es : List Entry) → energy_by order d es ≡ sum_of_energies (map (λ evse. energy_at_by order d evse es) (evses es))
by_evse order d es = by_sums _ (λ evse. energy_at_by order d evse es) (evses es) (evse_sum order d (λ p. (difference p).up) es) (evse_sum order d (λ p. (difference p).down) es)

pub by_transaction : (order : Order) (d : Direction) (es : List Entry) → energy_by order d es ≡ sum_of_energies (map (λ tx. energy_of_by order d tx es) (transactions_of (live es)))
by_transaction order d es =
    let all = λ (f : Pair → ℕ). sym (sum_by-flat_map f (λ tx. pairs_by order d tx es) (transactions_of (live es))) in
    by_sums _ (λ tx. energy_of_by order d tx es) (transactions_of (live es)) (all (λ p. (difference p).up)) (all (λ p. (difference p).down))

-- a term that is taken where two numbers agree may be taken at either
taken_at : (g : ℕ → ℕ) (q k : ℕ) → cond (eqb k q) (g k) 0 ≡ cond (eqb q k) (g q) 0
taken_at g q k = ⊎_elim
    (λ (e : k ≡ q). ap (λ b. cond b (g k) 0) (eq-eqb k q e) ∙ ap g e ∙ sym (ap (λ b. cond b (g q) 0) (eq-eqb q k (sym e))))
    (λ (apart : k ≡ q → ⊥). ap (λ b. cond b (g k) 0) (ne_eqb k q apart) ∙ sym (ap (λ b. cond b (g q) 0) (ne_eqb q k (λ e. apart (sym e)))))
    (cases_eq k q)

-- one line for each number of a list
lines_sum : (g : ℕ → ℕ) (q : ℕ) (ks : List ℕ) → sum_by (λ k. cond (eqb k q) (g k) 0) ks ≡ times q ks * g q
lines_sum g q ks = sum_by-same _ _ (taken_at g q) ks ∙ sum_by-count (eqb q) (g q) ks

-- a measure of energies that adds up
module _ (measure : ByDirection Energy → ℕ) (none : measure no_flows ≡ 0) (both : (a b : ByDirection Energy) → measure (plus_flows a b) ≡ measure a + measure b) where
  -- the energies of a period over lines: the sum over those lines of it
  under-part : (quarter : ℕ) (lines : List Flowed) → measure (flows_under quarter lines) ≡ sum_by (λ line. cond (eqb line.0 quarter) (measure line.1) 0) lines
  under-part quarter lines = is_sum_by (λ lines. measure (flows_under quarter lines)) (λ line. cond (eqb line.0 quarter) (measure line.1) 0) none
      (λ line lines. step (eqb line.0 quarter) line.1 (flows_under quarter lines)) lines
    where
      step : (b : Bool) (e rest : ByDirection Energy) → measure (cond b (plus_flows e rest) rest) ≡ cond b (measure e) 0 + measure rest
      step true e rest = both e rest
      step false e rest = omega arith

  -- a period that is not shown has no energy, and one that is shown has its own
  station_part : (order : Order) (d : Direction) (f : Part → ℕ) (period : Periods) (es : List Entry)
      → ((q : ℕ) → measure (flows_in_by order period q es) ≡ sum_by f (filter (λ t. eqb t.0 q) (sides order d period es)))
      → (q : ℕ) → sum_by (λ line. cond (eqb line.0 q) (measure line.1) 0) (board_by order period es).quarters ≡ measure (flows_in_by order period q es)
  station_part order d f period es part q =
      sum_by-map (λ (line : Flowed). cond (eqb line.0 q) (measure line.1) 0) (λ k. (k, flows_in_by order period k es)) (quarters_by order period es)
      ∙ lines_sum (λ k. measure (flows_in_by order period k es)) q (quarters_by order period es)
      ∙ ap (λ n. times q (quarters_by order period es) * n) (part q)
      ∙ times-among_sum f own q (sides order d period es) (parts_of_both order period es) (shown_parts order d period es)
      ∙ sym (part q)

  -- over the lines of stations it is the sum over the stations
  site_part : (order : Order) (d : Direction) (f : Part → ℕ) (period : Periods) (quarter : ℕ) (stations : List (List Entry))
      → ((es : List Entry) (q : ℕ) → measure (flows_in_by order period q es) ≡ sum_by f (filter (λ t. eqb t.0 q) (sides order d period es)))
      → measure (flows_under quarter (flat_map (λ es. (board_by order period es).quarters) stations)) ≡ sum_by (λ es. measure (flows_in_by order period quarter es)) stations
  site_part order d f period quarter stations part =
      under-part quarter (flat_map (λ es. (board_by order period es).quarters) stations)
      ∙ sum_by-flat_map (λ (line : Flowed). cond (eqb line.0 quarter) (measure line.1) 0) (λ es. (board_by order period es).quarters) stations
      ∙ sum_by-same _ _ (λ es. station_part order d f period es (part es) quarter) stations

pub site_quarter : (order : Order) (period : Periods) (quarter : ℕ) (stations : List (List Entry))
    → flows_under quarter (flat_map (λ es. (board_by order period es).quarters) stations) ≡ in_each (λ d. sum_of_energies (map (energy_in_by order d period quarter) stations))
site_quarter order period quarter stations =
    let all = flows_under quarter (flat_map (λ es. (board_by order period es).quarters) stations) in
    let imported = by_sums all.import (energy_in_by order Import period quarter) stations
    (sym (site_part (λ f. f.import.up) refl (λ a b. refl) order Import (λ t. t.1.up) period quarter stations (λ es q. refl)))
    (sym (site_part (λ f. f.import.down) refl (λ a b. refl) order Import (λ t. t.1.down) period quarter stations (λ es q. refl))) in
    let exported = by_sums all.export (energy_in_by order Export period quarter) stations
    (sym (site_part (λ f. f.export.up) refl (λ a b. refl) order Export (λ t. t.1.up) period quarter stations (λ es q. refl)))
    (sym (site_part (λ f. f.export.down) refl (λ a b. refl) order Export (λ t. t.1.down) period quarter stations (λ es q. refl))) in
    λ i. record { import = imported i; export = exported i }

pub quarters_shown : (order : Order) (period : Periods) (es : List Entry) (quarter : ℕ) → IsIn quarter (quarters_by order period es) ↔ IsIn quarter (map own (parts_of_both order period es))
quarters_shown order period es quarter = rising-IsIn quarter (map own (parts_of_both order period es))

pub evses_shown : (es : List Entry) (evse : ℕ) → IsIn evse (evses es) ↔ IsIn evse (map (λ tx. evse_of tx es) (transactions_of (live es)))
evses_shown es evse = rising-IsIn evse (map (λ tx. evse_of tx es) (transactions_of (live es)))

pub quarters_rise : (order : Order) (period : Periods) (es : List Entry) → AreRising (quarters_by order period es)
quarters_rise order period es = rising-AreRising (map own (parts_of_both order period es))

pub evses_rise : (es : List Entry) → AreRising (evses es)
evses_rise es = rising-AreRising (map (λ tx. evse_of tx es) (transactions_of (live es)))
