-- One more live event, or less, moves what its transaction counts for.
use Rattle.std.{proofs.lemmas.Bool.Decides.nat_tests, proofs.Common.{◌≡◌, ◌==◌, ℕ, ◌<◌, ◌≤◌, true, false, not, cond, ◌&&◌, List, [], ◌∷◌, Option, Some, None, length, map, refl, sym, ap, ◌∙◌, arith, length-append}, specs.List.flat_map, proofs.lemmas.Bool.ne_eqb, proofs.lemmas.List.nil_from_length}
use Rattle.energy_flow.specs.Flow.{Energy, no_energy, plus}
use Rattle.ledger_model.{specs.declared.order.Order.Order, specs.declared.reading.Direction.Direction, specs.ByDirection.in_direction, specs.declared.by_direction.ByDirection.ByDirection, proofs.Directions.each_is, specs.Event.{MeterReading, toward}, specs.Complete.{is_complete, starts_and_ends}, specs.Content.{Entry, live, live_of, has_transaction}, specs.Deltas.{IsOneMore, flow_if, own_events}, specs.Energy.{energy_of_by, energy_over, flows_of_by, followed}, specs.Evse.{evse_of, energy_at_by}, specs.Gaps.{numbers_of, missing}, specs.InTime.in_order, proofs.Callers.{events_more, transactions_more, complete_more, missing_more, energy_at_more, evse_counts, live_with, live_without, live_else, order-nil}}
use Rattle.station_ledger.{specs.declared.standing.Standing.Standing, specs.Standing.{standing_with, kept_with, kept_of}, specs.Moved.{live_in, one_in, complete_in, missing_in, flows_in, one_at, flows_at, IsMoved}}

-- whether a transaction has an event, by how many it has
pub has_own : (tx : List ℕ) (xs : List Entry) → has_transaction tx xs ≡ not (length (own_events tx xs) == 0)
has_own tx [] = refl
has_own tx (e ∷ xs) = grind (arith, nat_tests, has_own tx xs)

-- a transaction without a live event
pub none_live : (tx : List ℕ) (es : List Entry) → has_transaction tx (live es) ≡ false → live_of tx es ≡ []
none_live tx es none = grind (arith, nat_tests, nil_from_length (live_of tx es), has_own tx (live es), none)

-- what is kept, where there is no live event and where there is
kept_cases : (P : Option Standing → Type 0) (energy : ByDirection Energy) (tx : List ℕ) (es : List Entry) → (live_of tx es ≡ [] → P None)
    → (0 < length (live_of tx es) → P (Some (standing_with energy tx es))) → P (kept_with energy tx es)
kept_cases P energy tx es none some = grind (arith, nat_tests, nil_from_length (live_of tx es), none, some)

module _ (order : Order) where
  pub live_kept : (tx : List ℕ) (es : List Entry) → live_in (kept_of order tx es) ≡ length (live_of tx es)
  live_kept tx es = kept_cases (λ o. live_in o ≡ length (live_of tx es)) (flows_of_by order tx es) tx es (λ none. sym (ap length none)) (λ _. refl)

  one_kept : (tx : List ℕ) (es : List Entry) → one_in (kept_of order tx es) ≡ cond (has_transaction tx (live es)) 1 0
  one_kept tx es = grind (arith, nat_tests, has_own tx (live es))

  complete_kept : (tx : List ℕ) (es : List Entry) → complete_in (kept_of order tx es) ≡ cond (is_complete tx es) 1 0
  complete_kept tx es = kept_cases (λ o. complete_in o ≡ cond (is_complete tx es) 1 0) (flows_of_by order tx es) tx es
      (λ none. sym (ap (λ (xs : List Entry). cond {A = ℕ} (starts_and_ends (map (λ (e : Entry). e.1.event.kind) xs) && (missing (numbers_of tx es) == 0)) 1 0) none)) (λ _. refl)

  pub missing_kept : (tx : List ℕ) (es : List Entry) → missing_in (kept_of order tx es) ≡ missing (numbers_of tx es)
  missing_kept tx es = kept_cases (λ o. missing_in o ≡ missing (numbers_of tx es)) (flows_of_by order tx es) tx es
      (λ none. sym (ap (λ (xs : List Entry). missing (map (λ (e : Entry). e.0.seq) xs)) none)) (λ _. refl)

  at_kept : (n : ℕ) (tx : List ℕ) (es : List Entry) → one_at n (kept_of order tx es) ≡ cond (has_transaction tx (live es)) (cond (evse_of tx es == n) 1 0) 0
  at_kept n tx es = grind (arith, nat_tests, has_own tx (live es))

  energy_none : (d : Direction) (tx : List ℕ) (es : List Entry) → live_of tx es ≡ [] → energy_of_by order d tx es ≡ no_energy
  energy_none d tx es none =
      ap (λ (xs : List Entry). energy_over (followed (in_order order (λ (r : MeterReading). r.moment) (flat_map (λ (e : Entry). toward d e.1.event.readings) xs)))) none
      ∙ ap (λ rs. energy_over (followed rs)) (order-nil (λ (r : MeterReading). r.moment) order)

  toward_is : (d : Direction) (tx : List ℕ) (es : List Entry) → in_direction d (flows_of_by order tx es) ≡ energy_of_by order d tx es
  toward_is d tx es = each_is (λ k. energy_of_by order k tx es) d

  pub flow_kept : (d : Direction) (n : ℕ) (tx : List ℕ) (es : List Entry) → in_direction d (flows_at n (kept_of order tx es)) ≡ flow_if (evse_of tx es == n) (energy_of_by order d tx es)
  flow_kept d n tx es = kept_cases (λ o. in_direction d (flows_at n o) ≡ flow_if (evse_of tx es == n) (energy_of_by order d tx es)) (flows_of_by order tx es) tx es
      (λ none. grind (arith, energy_none d tx es none)) (λ _. grind (arith, toward_is d tx es))

  -- one more live event
  pub moved_more : (es more front : List Entry) (e : Entry) (back : List Entry) → IsOneMore es more front e back → IsMoved order e.0.tx es more
  moved_more es more front e back one =
      let tx = e.0.tx in
      let own = ap length (live_without es more front e back one) ∙ length-append (own_events tx front) (own_events tx back) in
      let with_it = ap length (live_with es more front e back one) ∙ length-append (own_events tx front) (e ∷ own_events tx back) in
      let there : has_transaction tx (live more) ≡ true = has_own tx (live more) ∙ ap not (ne_eqb (length (live_of tx more)) 0 (λ h. absurd (omega (arith, h, with_it)))) in
      record {
        others = λ u apart. live_else es more front e back u one apart;
        events = omega (arith, events_more es more front e back one, live_kept tx es, live_kept tx more, own, with_it);
        transactions = grind (arith, transactions_more es more front e back one, one_kept tx es, one_kept tx more, there);
        complete = omega (arith, complete_more es more front e back one, complete_kept tx es, complete_kept tx more);
        missing_are = omega (arith, missing_more es more front e back one, missing_kept tx es, missing_kept tx more);
        at_evse = λ n. omega (arith, evse_counts n es more front e back one, at_kept n tx es, at_kept n tx more, ap (λ b. cond {A = ℕ} b (cond (evse_of tx more == n) 1 0) 0) there);
        flow_at_evse = λ d n. ap (plus (energy_at_by order d n more)) (flow_kept d n tx es)
            ∙ energy_at_more order d n es more front e back one ∙ ap (plus (energy_at_by order d n es)) (sym (flow_kept d n tx more));
      }

  -- one live event less
  pub moved_back : (tx : List ℕ) (es new : List Entry) → IsMoved order tx es new → IsMoved order tx new es
  moved_back tx es new m = search (sym, m.others, m.at_evse, m.flow_at_evse)

  -- the energies of what is kept
  pub flow_in_kept : (d : Direction) (tx : List ℕ) (es : List Entry) → in_direction d (flows_in (kept_of order tx es)) ≡ energy_of_by order d tx es
  flow_in_kept d tx es = kept_cases (λ o. in_direction d (flows_in o) ≡ energy_of_by order d tx es) (flows_of_by order tx es) tx es
      (λ none. grind (arith, energy_none d tx es none)) (λ _. toward_is d tx es)

-- what is kept depends only on the transaction's live events
pub kept_same : (order : Order) (u : List ℕ) (es new : List Entry) → live_of u new ≡ live_of u es → kept_of order u new ≡ kept_of order u es
kept_same order u es new same = rw same

-- at most one
pub at_most_one : (n : ℕ) (o : Option Standing) → (one_in o ≤ 1) × (complete_in o ≤ 1) × (one_at n o ≤ 1)
at_most_one n o = grind arith

pub flow_at_le : (d : Direction) (n : ℕ) (o : Option Standing) → ((in_direction d (flows_at n o)).up ≤ (in_direction d (flows_in o)).up)
    × ((in_direction d (flows_at n o)).down ≤ (in_direction d (flows_in o)).down)
flow_at_le d n o = grind arith
