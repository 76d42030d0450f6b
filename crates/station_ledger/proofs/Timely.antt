-- Each reading of events in range is at a moment, and so the period of each pair begins at one.
use Rattle.std.{proofs.lemmas.Bool.Decides.nat_tests, proofs.Common.{◌≡◌, ℕ, zero, suc, ◌+◌, ◌-◌, ◌*◌, ◌<◌, ◌≤◌, inl, inr, max, not, true, false, cond, List, [], ◌∷◌, map, refl, sym, subst, arith}, specs.List.{All, AllByRecursion, flat_map}, specs.Str.bytes_eq, proofs.lemmas.List.Elements.{All-from_recursion, recursion_from_All}}
use Rattle.ledger_model.{specs.Periods.Periods, specs.BoardLaws.IsIn, specs.Content.{Entry, live, live_of, transactions_of}, specs.Energy.{Pair, all_pairs_by, change_of, followed, pairs_by, parts_of, parts_of_both, parts_over, readings_of}, specs.Parts.{Change, Part, is_shared, level_at, parts_by, shares, shares_from, whole}, specs.Event.{MeterReading, toward}, specs.InTime.in_order, specs.declared.order.Order.Order, specs.declared.order.Order.TheVariants.{Sequence, Moment}, specs.declared.reading.Direction.Direction, specs.declared.reading.Direction.TheVariants.{Import, Export}, specs.declared.settle.Settle.Settle, specs.declared.settle.Settle.TheVariants.{Later, Closing, Even}, specs.Moment.{IsMoment, first_moment}, specs.Settling.settled_by, specs.Quarter.{IsPeriod, IsQuarterOf, quarter_at}, proofs.Bounds.AreEntries-filter, proofs.Callers.AreEntries}
use Rattle.station_ledger.proofs.Each.{each_append, each_in_time, each_toward}

-- readings at moments
abbrev AreTimely : List MeterReading → Type 0
AreTimely rs = AllByRecursion (λ (r : MeterReading). IsMoment r.moment) rs

timely-entries : (d : Direction) (es : List Entry) → AreEntries es → AreTimely (flat_map (λ e. toward d e.1.event.readings) es)
timely-entries d [] h = tt
timely-entries d (e ∷ es) h =
    each_append (λ r. IsMoment r.moment) (toward d e.1.event.readings) (flat_map (λ f. toward d f.1.event.readings) es)
    (each_toward (λ r. IsMoment r.moment) d e.1.event.readings (recursion_from_All (λ r. IsMoment r.moment) e.1.event.readings (λ k r lt. (h.0.event.readings k r lt).moment)))
    (timely-entries d es h.1)

timely-in_order : (order : Order) (rs : List MeterReading) → AreTimely rs → AreTimely (in_order order (λ s. s.moment) rs)
timely-in_order Sequence rs h = h
timely-in_order Moment rs h = each_in_time (λ (r : MeterReading). IsMoment r.moment) (λ s. s.moment) rs h

-- both readings of a pair are at moments
abbrev IsTimed : Pair → Type 0
IsTimed p = IsMoment p.0.moment × IsMoment p.1.moment

followed_timely : (rs : List MeterReading) → AreTimely rs → AllByRecursion IsTimed (followed rs)
followed_timely [] h = tt
followed_timely (r ∷ []) h = tt
followed_timely (r ∷ s ∷ rs) h = ((h.0, h.1.0), followed_timely (s ∷ rs) h.1)

of_each : (order : Order) (d : Direction) (es : List Entry) (txs : List (List ℕ)) → AreEntries (live es) → AllByRecursion IsTimed (flat_map (λ tx. pairs_by order d tx es) txs)
of_each order d es [] h = tt
of_each order d es (tx ∷ txs) h = each_append IsTimed (pairs_by order d tx es) (flat_map (λ t. pairs_by order d t es) txs)
    (followed_timely (in_order order (λ s. s.moment) (readings_of d tx es))
    (timely-in_order order (readings_of d tx es) (timely-entries d (live_of tx es) (AreEntries-filter (λ e. bytes_eq tx e.0.tx) (live es) h))))
    (of_each order d es txs h)

-- so are those of each pair of events
pairs_timed : (order : Order) (d : Direction) (es : List Entry) → AreEntries es → AllByRecursion IsTimed (all_pairs_by order d es)
pairs_timed order d es h = of_each order d es (transactions_of (live es)) (AreEntries-filter (λ e. not e.1.voided) es h)

pub pairs_in_time : (order : Order) (d : Direction) (es : List Entry) → AreEntries es → All (λ (p : Pair). IsMoment p.1.moment) (all_pairs_by order d es)
pairs_in_time order d es h = λ k p lt. (All-from_recursion IsTimed (all_pairs_by order d es) (pairs_timed order d es h) k p lt).1

-- the period of a moment begins at one
own_quarter : (period moment : ℕ) → IsPeriod period → IsMoment moment → IsQuarterOf period (quarter_at period moment)
own_quarter period moment is at = grind (arith, is, at)

-- the nanosecond before a moment is one, but for the first
before : (moment : ℕ) → IsMoment moment → IsMoment (max (moment - 1) first_moment)
before moment at = grind (arith, at.0, at.1)

-- whichever period a rule finds begins at a moment
settled_quarter : (rule : Settle) (period moment : ℕ) → IsPeriod period → IsMoment moment → IsQuarterOf period (settled_by rule period moment)
settled_quarter Later period moment is at = own_quarter period moment is at
settled_quarter Closing period moment is at = own_quarter period (max (moment - 1) first_moment) is (before moment at)
settled_quarter Even period moment is at = own_quarter period (max (moment - 1) first_moment) is (before moment at)

-- the periods of some parts begin at moments
abbrev AreOwn : ℕ → List Part → Type 0
AreOwn length ts = AllByRecursion (λ (t : Part). IsQuarterOf length t.0) ts

-- the shares of a difference are those of the periods in a row
shares_own : (length : ℕ) (c : Change) (q level n : ℕ) → ((k : ℕ) → q ≤ k → k ≤ q + n → IsQuarterOf length k) → AreOwn length (shares_from length c q level n)
shares_own length c q level zero own = (own q (omega arith) (omega arith), tt)
shares_own length c q level (suc n) own =
    (own q (omega arith) (omega arith), shares_own length c (q + 1) (level_at c ((q + 1) * length)) n (λ k low high. own k (omega (arith, low)) (omega (arith, high))))

-- a period between two of moments begins at one
between : (length low k high : ℕ) → IsQuarterOf length low → IsQuarterOf length high → low ≤ k → k ≤ high → IsQuarterOf length k
between length low k high lower upper after before = grind (arith, lower, upper)

-- each part of a difference between moments belongs to one of the periods
each_own : (rule : Settle) (length : ℕ) (c : Change) → IsPeriod length → IsMoment c.since → IsMoment c.until → AreOwn length (parts_by rule length c)
each_own Later length c is since until = (settled_quarter Later length c.until is until, tt)
each_own Closing length c is since until = (settled_quarter Closing length c.until is until, tt)
each_own Even length c is since until = (elim (is_shared c) as (λ b. is_shared c ≡ b → AreOwn length (cond b (shares length c) (whole Even length c))) [
  | false ↦ λ so. (settled_quarter Even length c.until is until, tt)
  | true ↦ λ so.
      let up : c.since < c.until = grind (arith, nat_tests, so) in let first = quarter_at length c.since in let last = quarter_at length (c.until - 1) in
      let ordered : first ≤ last = grind (arith, is, up) in
      shares_own length c first c.earlier (last - first) (λ k low high. between length first k last (own_quarter length c.since is since)
      (own_quarter length (c.until - 1) is (omega (arith, since.0, up), omega (arith, until.1))) low (omega (arith, high, ordered)))
]) refl

pub parts_own : (period : Periods) (p : Pair) → IsPeriod period.length → IsMoment p.0.moment → IsMoment p.1.moment → All (λ (t : Part). IsQuarterOf period.length t.0) (parts_of period p)
parts_own period p is since until = All-from_recursion (λ (t : Part). IsQuarterOf period.length t.0) (parts_of period p) (each_own period.rule period.length (change_of p) is since until)

all_own : (period : Periods) (ps : List Pair) → IsPeriod period.length → AllByRecursion IsTimed ps → AreOwn period.length (parts_over period ps)
all_own period [] is at = tt
all_own period (p ∷ ps) is at = each_append (λ (t : Part). IsQuarterOf period.length t.0) (parts_of period p) (parts_over period ps)
    (each_own period.rule period.length (change_of p) is at.0.0 at.0.1) (all_own period ps is at.1)

-- what holds of the period of each part holds of a period among them
one_of : (P : ℕ → Type 0) (ts : List Part) → AllByRecursion (λ (t : Part). P t.0) ts → (k : ℕ) → IsIn k (map (λ (t : Part). t.0) ts) → P k
one_of P [] all k h = absurd h
one_of P (t ∷ ts) all k (inl e) = subst P (sym e) all.0
one_of P (t ∷ ts) all k (inr h) = one_of P ts all.1 k h

-- each period that a station shows begins at a moment
pub in_period : (order : Order) (period : Periods) (es : List Entry) (k : ℕ) → AreEntries es → IsPeriod period.length
    → IsIn k (map (λ (t : Part). t.0) (parts_of_both order period es)) → IsQuarterOf period.length k
in_period order period es k range is h =
    let own = λ (d : Direction). all_own period (all_pairs_by order d es) is (pairs_timed order d es range) in
    one_of (IsQuarterOf period.length) (parts_of_both order period es) (each_append (λ (t : Part). IsQuarterOf period.length t.0) _ _ (own Import) (own Export)) k h
