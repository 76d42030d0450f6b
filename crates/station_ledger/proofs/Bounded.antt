-- How much the pairs of a station, of a transaction and of an EVSE can be.
use Rattle.std.{proofs.Common.{◌≡◌, ◌==◌, ℕ, map, ◌≤◌, ◌+◌, ◌*◌, Bool, false, not, cond, List, [], ◌∷◌, length, refl, sym, ap, ◌∙◌, arith}, specs.List.{flat_map, filter, sum_by, list_any}, specs.Str.bytes_eq, proofs.lemmas.List.Concat.length-flat_map, proofs.lemmas.List.Sums.{sum_by-cons, sum_by-le-sum_by, count_by-le-length, length-filter}}
use Rattle.energy_flow.specs.Flow.{Energy}
use Rattle.ledger_model.{specs.Content.{Entry, live, live_of, transactions_of}, specs.Energy.{Pair, all_pairs_by, difference, energy_by, energy_of_by, followed, pairs_by, readings_by, readings_of}, specs.Event.{MeterReading, toward}, specs.declared.order.Order.Order, specs.declared.reading.Direction.Direction, specs.declared.reading.Direction.TheVariants.{Import, Export}, specs.Limits.Bounds, specs.Ranges.{greatest_reading, most_readings}, specs.Evse.{energy_at_by, evse_of, transactions_at}, specs.Gaps.{numbers_of, missing}, specs.InTime.in_order, specs.Step.readings_stored, proofs.Callers.{length-in_order, order-nil, passed_sum, sum_by-flat_map}, proofs.FigureBounds.sum_by_transactions, proofs.SumsByTransaction.sum_by_one, proofs.TransactionLemmas.any-map}
use Rattle.station_ledger.{specs.Sums.AreAllowed, proofs.Moved.none_live}

-- Neither sum of an energy is more than so much.
pub record IsUpTo (n : ℕ) (e : Energy) : Type 0 where
  pub up : e.up ≤ n
  pub down : e.down ≤ n

-- Nor than that of another.
pub record IsWithin (a b : Energy) : Type 0 where
  pub up : a.up ≤ b.up
  pub down : a.down ≤ b.down

taken_le : (b : Bool) (n : ℕ) → cond b n 0 ≤ n
taken_le b n = grind arith

-- a sum over some is no more than that over all
pub part_le : {X : Type 0} (measure : X → ℕ) (p : X → Bool) (xs : List X) → sum_by measure (filter p xs) ≤ sum_by measure xs
part_le measure p xs = omega (arith, passed_sum measure p xs, sum_by-le-sum_by (λ x. cond (p x) (measure x) 0) measure xs (λ x. taken_le (p x) (measure x)))

-- some are no more than all
fewer : {X : Type 0} (p : X → Bool) (xs : List X) → length (filter p xs) ≤ length xs
fewer p xs = omega (arith, length-filter p xs, count_by-le-length p xs)

few_followed : (rs : List MeterReading) → length (followed rs) ≤ length rs
few_followed [] = omega arith
few_followed (r ∷ []) = omega arith
few_followed (r ∷ s ∷ rs) = let rest = few_followed (s ∷ rs) in omega (arith, rest)

-- how many readings of a direction an event has
abbrev size : Direction → Entry → ℕ
size d e = length (toward d e.1.event.readings)

-- each reading is of one direction
pub both_ways : (rs : List MeterReading) → length (toward Import rs) + length (toward Export rs) ≡ length rs
both_ways [] = refl
both_ways (r ∷ rs) = grind (arith, both_ways rs)

sizes : (es : List Entry) → sum_by (size Import) es + sum_by (size Export) es ≤ readings_stored es
sizes [] = omega arith
sizes (e ∷ es) = omega (arith, sum_by-cons (size Import) e es, sum_by-cons (size Export) e es, sum_by-cons (λ (f : Entry). length f.1.event.readings) e es, both_ways e.1.event.readings, sizes es)

module _ (order : Order) where
  few_of : (d : Direction) (es : List Entry) → length (all_pairs_by order d es) ≤ sum_by (size d) (live es)
  few_of d es =
      let ts = transactions_of (live es) in
      let one : (t : List ℕ) → length (pairs_by order d t es) ≤ sum_by (size d) (live_of t es) =
      λ t. omega (arith, few_followed (readings_by order d t es), length-in_order order (readings_of d t es), length-flat_map (λ (e : Entry). toward d e.1.event.readings) (live_of t es)) in
      let each = sum_by-le-sum_by (λ t. length (pairs_by order d t es)) (λ t. sum_by (size d) (live_of t es)) ts one in
      omega (arith, length-flat_map (λ t. pairs_by order d t es) ts, each, sum_by_transactions (size d) (live es))

  -- there are no more pairs of both directions than readings
  pub few_pairs : (es : List Entry) → length (all_pairs_by order Import es) + length (all_pairs_by order Export es) ≤ readings_stored es
  few_pairs es = omega (arith, few_of Import es, few_of Export es, sizes (live es), part_le (λ (e : Entry). length e.1.event.readings) (λ e. not e.1.voided) es)

  -- what the limits allow of the energy of a direction
  pub few_energy : (d : Direction) (limits : Bounds) (es : List Entry) → AreAllowed order limits es → IsUpTo (greatest_reading * limits.readings) (energy_by order d es)
  few_energy Import limits es h = record { up = h.figures_within.up; down = h.figures_within.down }
  few_energy Export limits es h = record { up = h.figures_within.export_up; down = h.figures_within.export_down }

  pub few_station : (d : Direction) (limits : Bounds) (es : List Entry) → AreAllowed order limits es → IsUpTo (greatest_reading * most_readings) (energy_by order d es)
  few_station d limits es h =
      let few = few_energy d limits es h in
      record { up = omega (arith, few.up, h.most_readings_within); down = omega (arith, few.down, h.most_readings_within) }

  -- an EVSE's sums are no more than the station's
  at_le : (d : Direction) (f : Pair → ℕ) (n : ℕ) (es : List Entry) → sum_by f (flat_map (λ t. pairs_by order d t es) (transactions_at n es)) ≤ sum_by f (all_pairs_by order d es)
  at_le d f n es =
      let ts = transactions_of (live es) in
      let some = sum_by-flat_map f (λ t. pairs_by order d t es) (transactions_at n es) in let all = sum_by-flat_map f (λ t. pairs_by order d t es) ts in
      omega (arith, some, all, part_le (λ t. sum_by f (pairs_by order d t es)) (λ t. evse_of t es == n) ts)

  pub evse_le : (d : Direction) (n : ℕ) (es : List Entry) → IsWithin (energy_at_by order d n es) (energy_by order d es)
  evse_le d n es = record { up = at_le d (λ p. (difference p).up) n es; down = at_le d (λ p. (difference p).down) n es }

  -- and a transaction's
  own_le : (d : Direction) (f : Pair → ℕ) (tx : List ℕ) (es : List Entry) → sum_by f (pairs_by order d tx es) ≤ sum_by f (all_pairs_by order d es)
  own_le d f tx es =
      let g : List ℕ → ℕ = λ t. sum_by f (pairs_by order d t es) in
      let absent : list_any (bytes_eq tx) (map (λ (e : Entry). e.0.tx) (live es)) ≡ false
      → g tx ≡ 0 = λ none. ap
      (λ (xs : List Entry). sum_by f (followed (in_order order (λ (r : MeterReading). r.moment) (flat_map (λ (e : Entry). toward d e.1.event.readings) xs))))
      (none_live tx es (sym (any-map tx (live es)) ∙ none))
      ∙ ap (λ rs. sum_by f (followed rs)) (order-nil (λ (r : MeterReading). r.moment) order) in
      omega (arith, sum_by-flat_map f (λ t. pairs_by order d t es) (transactions_of (live es)), sum_by_one g tx (map (λ (e : Entry). e.0.tx) (live es)) absent)

  pub own_within : (d : Direction) (tx : List ℕ) (es : List Entry) → IsWithin (energy_of_by order d tx es) (energy_by order d es)
  own_within d tx es = record { up = own_le d (λ p. (difference p).up) tx es; down = own_le d (λ p. (difference p).down) tx es }

-- a transaction's live events are no more than all
pub live_le : (tx : List ℕ) (es : List Entry) → length (live_of tx es) ≤ length (live es)
live_le tx es = fewer (λ (e : Entry). bytes_eq tx e.0.tx) (live es)

-- an EVSE's transactions are no more than all
pub at_evse_le : (n : ℕ) (es : List Entry) → length (transactions_at n es) ≤ length (transactions_of (live es))
at_evse_le n es = fewer (λ t. evse_of t es == n) (transactions_of (live es))

-- what a transaction misses is no more than what all do
pub own_missing_le : (tx : List ℕ) (es : List Entry) → missing (numbers_of tx es) ≤ sum_by (λ t. missing (numbers_of t es)) (transactions_of (live es))
own_missing_le tx es =
    let g : List ℕ → ℕ = λ t. missing (numbers_of t es) in
    let absent : list_any (bytes_eq tx) (map (λ (e : Entry). e.0.tx) (live es)) ≡ false → g tx ≡ 0 = λ none.
    ap (λ (xs : List Entry). missing (map (λ (e : Entry). e.0.seq) xs)) (none_live tx es (sym (any-map tx (live es)) ∙ none)) in
    omega (arith, sum_by_one g tx (map (λ (e : Entry). e.0.tx) (live es)) absent)
