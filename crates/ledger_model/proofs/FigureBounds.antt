-- The figures of a reached content are within its limits.
use Rattle.std.{proofs.Common.{◌≡◌, ℕ, ◌+◌, ◌*◌, ◌<◌, ◌≤◌, true, not, cond, List, [], ◌∷◌, length, map, refl, ap, ◌∙◌, arith, bytes_eq}, specs.Prelude.{sum_by, count_by}, specs.List.{All, filter, list_any, slice_index_or}, specs.FinMap.entries_sorted, proofs.Math.Nat.mul-le-mul_left, proofs.lemmas.Cmp.nat_list_eq_equiv, proofs.lemmas.List.{get_or-map, length-map}, proofs.lemmas.List.Elements.All-filter, proofs.lemmas.List.Filters.{length-filter_both, sum_by-filter_both}, proofs.lemmas.List.Folds.list_any_at, proofs.lemmas.List.Sums.{sum_by-cons, sum_by-le, sum_by-le-sum_by, count_by-le-length, length-filter}}
use Rattle.ledger_model.{specs.Ranges.{greatest_reading, sequence_end}, specs.declared.reading.Direction.Direction, specs.declared.reading.Direction.TheVariants.{Import, Export}, specs.Event.{MeterReading, same_direction, toward}, specs.Limits.Bounds, specs.Content.{Content, Entry, entries, live, live_of, transactions_of}, specs.declared.order.Order.Order, specs.Energy.{all_pairs_by, difference, followed, pairs_by, readings_by, readings_of}, specs.Gaps.{numbers_of, missing}, specs.Complete.is_complete, specs.InTime.in_order, specs.ReadingOrder.taken_when, specs.Board.{figures, figures_by, last_or_zero}, specs.BoardLaws.AreRising, specs.Entries.IsRising, specs.Figures.AreWithin, specs.Step.{Reached, readings_stored}, proofs.GapLemmas.missing-fills, proofs.NumberLemmas.rising_from_sorted, proofs.InTimeLemmas.{order-length, order-sum}, proofs.SumLemmas.{sum_by-const, sum_by-flat_map, sum_by-same, sum_by_keys}, proofs.SumsByTransaction.{once, same_text}, proofs.Transactions.{ids, transactions-filter}, proofs.Bounds.{AreEntries, AreEntries-filter, AreKept-reached}}

-- the entries of a transaction
abbrev of_one : List ℕ → List Entry → List Entry
of_one t es = filter (λ e. bytes_eq t e.0.tx) es

-- each event's transaction is one of theirs
once_each : (es : List Entry) → All (λ e. count_by (λ t. bytes_eq t e.0.tx) (transactions_of es) ≡ 1) es
once_each es k d lt =
    let tx : List ℕ = (slice_index_or es k d).0.tx in
    let there : list_any (bytes_eq tx) (ids es) ≡ true =
    list_any_at (bytes_eq tx) (ids es) k [] (omega (arith, length-map es (λ (e : Entry). e.0.tx))) (ap (bytes_eq tx) (get_or-map (λ (e : Entry). e.0.tx) es k d [] lt) ∙ same_text tx) in
    sum_by-same _ _ (λ t. ap (λ b. cond b 1 0) (nat_list_eq_equiv.symm t tx)) (transactions_of es) ∙ once 1 tx (ids es) ∙ ap (λ b. cond b 1 0) there

-- a sum over the entries of each transaction is the sum over all
module _ (f : Entry → ℕ) where
  pub sum_by_transactions : (es : List Entry) → sum_by (λ t. sum_by f (of_one t es)) (transactions_of es) ≡ sum_by f es
  sum_by_transactions es = sum_by_keys f (λ t e. bytes_eq t e.0.tx) (transactions_of es) es (once_each es)

-- what a reading shows
abbrev level : MeterReading → ℕ
level r = r.mwh

pub length-in_order : (order : Order) (rs : List MeterReading) → length (in_order order taken_when rs) ≡ length rs
length-in_order order rs = order-length taken_when order rs

-- readings that follow one another rise and fall by no more than they show
rises : (rs : List MeterReading) → sum_by (λ p. (difference p).up) (followed rs) ≤ sum_by level rs
rises [] = omega arith
rises (r ∷ rs) = omega (arith, from r rs, sum_by-cons level r rs)
  where
    from : (r : MeterReading) (rs : List MeterReading) → sum_by (λ p. (difference p).up) (followed (r ∷ rs)) ≤ sum_by level rs
    from r [] = omega arith
    from r (s ∷ rs) = omega (arith, from s rs, sum_by-cons (λ p. (difference p).up) (r, s) (followed (s ∷ rs)), sum_by-cons level s rs)

falls : (rs : List MeterReading) → sum_by (λ p. (difference p).down) (followed rs) ≤ sum_by level rs
falls [] = omega arith
falls (r ∷ []) = omega arith
falls (r ∷ s ∷ rs) = omega (arith, falls (s ∷ rs), sum_by-cons (λ p. (difference p).down) (r, s) (followed (s ∷ rs)), sum_by-cons level r (s ∷ rs))

-- no more readings of one direction than of both
pub few_toward : (d : Direction) (rs : List MeterReading) → length (toward d rs) ≤ length rs
few_toward d rs = omega (arith, length-filter (λ r. same_direction d r.direction) rs, count_by-le-length (λ r. same_direction d r.direction) rs)

-- what events show in one direction, each no more than a register can
low : (d : Direction) (es : List Entry) → AreEntries es → sum_by (λ e. sum_by level (toward d e.1.event.readings)) es ≤ greatest_reading * readings_stored es
low d [] h = omega arith
low d (e ∷ es) h =
    let each = sum_by-le level greatest_reading (toward d e.1.event.readings)
    (All-filter (λ r. same_direction d r.direction) (λ r. r.mwh ≤ greatest_reading) e.1.event.readings (λ k r lt. (h.0.event.readings k r lt).mwh)) in
    omega (
      arith,
      each,
      few_toward d e.1.event.readings,
      low d es h.1,
      sum_by-cons (λ f. sum_by level (toward d f.1.event.readings)) e es,
      sum_by-cons (λ f. length f.1.event.readings) e es,
    )

-- what each transaction has at most, all have at most
energy_bound : (order : Order) (d : Direction) (f : MeterReading × MeterReading → ℕ) (es : List Entry)
    → ((rs : List MeterReading) → sum_by f (followed rs) ≤ sum_by level rs) → AreEntries es
    → sum_by f (all_pairs_by order d es) ≤ greatest_reading * readings_stored es
energy_bound order d f es each range =
    let ts = transactions_of (live es) in
    let shown : Entry → ℕ = λ e. sum_by level (toward d e.1.event.readings) in
    let one : (t : List ℕ) → sum_by f (pairs_by order d t es) ≤ sum_by shown (of_one t (live es)) =
    λ t. omega (
      arith,
      each (readings_by order d t es),
      order-sum taken_when order level (readings_of d t es),
      sum_by-flat_map level (λ e. toward d e.1.event.readings) (live_of t es),
    ) in
    omega (
      arith,
      sum_by-flat_map f (λ t. pairs_by order d t es) ts,
      sum_by-le-sum_by (λ t. sum_by f (pairs_by order d t es)) (λ t. sum_by shown (of_one t (live es))) ts one,
      sum_by_transactions shown (live es),
      sum_by-filter_both (λ e. not e.1.voided) (λ e. not (not e.1.voided)) (λ e. refl) shown es,
      low d es range,
    )

-- numbers below the end of sequence numbers
abbrev AreBelow : List ℕ → Type 0
AreBelow [] = Unit {0}
AreBelow (n ∷ ns) = (n < sequence_end) × AreBelow ns

below-entries : (es : List Entry) → AreEntries es → AreBelow (map (λ e. e.0.seq) es)
below-entries [] h = tt
below-entries (e ∷ es) h = (h.0.key.number, below-entries es h.1)

last_below : (n : ℕ) (ns : List ℕ) → AreBelow (n ∷ ns) → last_or_zero (n ∷ ns) < sequence_end
last_below n [] h = h.0
last_below n (m ∷ ns) h = last_below m ns h.1

missing_bound : (ns : List ℕ) → AreRising ns → AreBelow ns → missing ns ≤ sequence_end
missing_bound [] up h = omega arith
missing_bound (n ∷ ns) up h = omega (arith, missing-fills (n ∷ ns) up (omega arith), last_below n ns h)

-- how much one transaction misses
pub missing_of_one : (t : List ℕ) (es : List Entry) → AreRising (numbers_of t es) → AreEntries es → missing (numbers_of t es) ≤ sequence_end
missing_of_one t es up range =
    missing_bound (numbers_of t es) up (below-entries (live_of t es) (AreEntries-filter (λ e. bytes_eq t e.0.tx) (live es) (AreEntries-filter (λ e. not e.1.voided) es range)))

pub live_and_voided : (es : List Entry) → length (live es) + count_by (λ e. e.1.voided) es ≡ length es
live_and_voided es = omega (arith, length-filter_both (λ (e : Entry). e.1.voided) (λ e. not e.1.voided) (λ e. refl) es, length-filter (λ (e : Entry). e.1.voided) es)

-- what the transactions miss, each no more than there are sequence numbers
few_missing : (es : List Entry) → IsRising es → AreEntries es → (figures es).missing ≤ sequence_end * length (transactions_of (live es))
few_missing es rising range =
    let ts = transactions_of (live es) in
    let bound = sum_by-le-sum_by (λ t. missing (numbers_of t es)) (λ t. sequence_end) ts (λ t. missing_of_one t es (rising_from_sorted t es rising) range) in
    omega (arith, bound, sum_by-const sequence_end ts)

-- the figures of a reached content are such as its limits allow
pub figures_within : (order : Order) (limits : Bounds) (n : ℕ) (c : Content) → Reached limits n c → AreWithin limits (figures_by order (entries c))
figures_within order limits n c reached =
    let es = entries c in
    let kept = AreKept-reached limits n c reached in
    let ts = transactions_of (live es) in
    let few : length ts ≤ limits.transactions = omega (arith, transactions-filter (λ e. not e.1.voided) es, kept.transactions) in
    let shown : (d : Direction) (f : MeterReading × MeterReading → ℕ) → ((rs : List MeterReading) → sum_by f (followed rs) ≤ sum_by level rs)
    → sum_by f (all_pairs_by order d es) ≤ greatest_reading * limits.readings =
    λ d f each. omega (arith, energy_bound order d f es each kept.in_range, mul-le-mul_left greatest_reading kept.readings) in
    record {
      events = omega (arith, live_and_voided es, kept.events);
      transactions = few;
      complete = omega (arith, count_by-le-length (λ t. is_complete t es) ts);
      missing = omega (arith, few_missing es (entries_sorted c.events) kept.in_range, mul-le-mul_left sequence_end few);
      up = shown Import (λ p. (difference p).up) rises;
      down = shown Import (λ p. (difference p).down) falls;
      export_up = shown Export (λ p. (difference p).up) rises;
      export_down = shown Export (λ p. (difference p).down) falls;
    }
