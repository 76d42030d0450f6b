-- What one more live event changes: only in its transaction.
use Rattle.std.{proofs.Common.{◌≡◌, ℕ, ◌+◌, ◌==◌, ◌≤◌, Bool, true, false, cond, List, [], ◌∷◌, ◌++◌, Option, length, refl, sym, ap, ◌∙◌, bytes_eq, arith}, specs.List.{filter_map, flat_map, list_any, sum_by}, proofs.lemmas.List.Elements.filter-append, proofs.lemmas.List.Sums.{sum_by-append, length-filter}, proofs.lemmas.Grind.flat_map-append, proofs.lemmas.Bool.or_parts, proofs.lemmas.Cmp.nat_list_eq_equiv}
use Rattle.ledger_model.{specs.declared.reading.Direction.Direction, specs.Event.{MeterReading, toward}, specs.Content.{Entry, has_transaction, live, live_of, transactions_of}, specs.Energy.{Pair, followed, pairs, pairs_of}, specs.Evse.{evse_of, transactions_at, first_or_zero}, specs.Deltas.{across, came_by, gone_by, if_read, kept_by, most_for, own_events, own_readings, pairs_between, IsOneMore, pairs_less, pairs_more, pairs_kept, read_or, reading_before, reading_behind}, proofs.SumLemmas.{passed_sum, sum_by-flat_map, taken}, proofs.Transactions.{any-map, ids, now_there, others_ids}, proofs.Splices.{few_across, few_between, followed_cut}, proofs.SumsByTransaction.{others, same_text, sum_by_one, sums_differ_by_one, counts_differ_by_one}}
pub use Rattle.ledger_model.proofs.SumLemmas.{passed_sum, taken}

-- The events of a transaction, with one among others.
own_with : (e : Entry) (front back : List Entry) → own_events e.0.tx (front ++ e ∷ back) ≡ own_events e.0.tx front ++ e ∷ own_events e.0.tx back
own_with e front back =
    filter-append (λ (x : Entry). bytes_eq e.0.tx x.0.tx) front (e ∷ back)
    ∙ ap (λ b. own_events e.0.tx front ++ cond b (e ∷ own_events e.0.tx back) (own_events e.0.tx back)) (same_text e.0.tx)

-- The events of another transaction.
own_else : (u : List ℕ) (e : Entry) (front back : List Entry) → bytes_eq u e.0.tx ≡ false → own_events u (front ++ e ∷ back) ≡ own_events u (front ++ back)
own_else u e front back apart =
    filter-append (λ (x : Entry). bytes_eq u x.0.tx) front (e ∷ back)
    ∙ ap (λ b. own_events u front ++ cond b (e ∷ own_events u back) (own_events u back)) apart
    ∙ sym (filter-append (λ (x : Entry). bytes_eq u x.0.tx) front back)

-- A transaction whose id is nowhere has no events.
none_own : (t : List ℕ) (es : List Entry) → list_any (bytes_eq t) (ids es) ≡ false → own_events t es ≡ []
none_own t [] none = refl
none_own t (e ∷ es) none =
    let parts = or_parts (bytes_eq t e.0.tx) (list_any (bytes_eq t) (ids es)) none in
    ap (λ b. cond b (e ∷ own_events t es) (own_events t es)) parts.0 ∙ none_own t es parts.1

-- The live events of the transaction, without the event.
pub live_without : (es more front : List Entry) (e : Entry) (back : List Entry) → IsOneMore es more front e back → live_of e.0.tx es ≡ own_events e.0.tx front ++ own_events e.0.tx back
live_without es more front e back one = ap (own_events e.0.tx) one.less_live ∙ filter-append (λ (x : Entry). bytes_eq e.0.tx x.0.tx) front back

-- The live events of the transaction, with it.
pub live_with : (es more front : List Entry) (e : Entry) (back : List Entry) → IsOneMore es more front e back → live_of e.0.tx more ≡ own_events e.0.tx front ++ e ∷ own_events e.0.tx back
live_with es more front e back one = ap (own_events e.0.tx) one.more_live ∙ own_with e front back

-- The live events of another transaction.
pub live_else : (es more front : List Entry) (e : Entry) (back : List Entry) (u : List ℕ) → IsOneMore es more front e back → bytes_eq u e.0.tx ≡ false → live_of u more ≡ live_of u es
live_else es more front e back u one apart = ap (own_events u) one.more_live ∙ own_else u e front back apart ∙ sym (ap (own_events u) one.less_live)

-- The readings of events in one direction.
abbrev readings_among : Direction → List Entry → List MeterReading
readings_among d es = flat_map (λ e. toward d e.1.event.readings) es

-- The pairs of the transaction, without the event.
pub pairs_without : (d : Direction) (es more front : List Entry) (e : Entry) (back : List Entry) → IsOneMore es more front e back
    → pairs_of d e.0.tx es ≡ followed (own_readings d e.0.tx front) ++ (pairs_less d front e back ++ followed (own_readings d e.0.tx back))
pairs_without d es more front e back one =
    let t = e.0.tx in
    ap (λ l. followed (readings_among d l)) (live_without es more front e back one)
    ∙ ap followed (flat_map-append (λ (x : Entry). toward d x.1.event.readings) (own_events t front) (own_events t back))
    ∙ followed_cut (own_readings d t front) [] (own_readings d t back)

-- The pairs of the transaction, with it.
pub pairs_with : (d : Direction) (es more front : List Entry) (e : Entry) (back : List Entry) → IsOneMore es more front e back
    → pairs_of d e.0.tx more ≡ followed (own_readings d e.0.tx front) ++ (pairs_more d front e back ++ followed (own_readings d e.0.tx back))
pairs_with d es more front e back one =
    let t = e.0.tx in
    ap (λ l. followed (readings_among d l)) (live_with es more front e back one)
    ∙ ap followed (flat_map-append (λ (x : Entry). toward d x.1.event.readings) (own_events t front) (e ∷ own_events t back))
    ∙ followed_cut (own_readings d t front) (toward d e.1.event.readings) (own_readings d t back)

-- The pairs of another transaction.
pub pairs_else : (d : Direction) (es more front : List Entry) (e : Entry) (back : List Entry) (u : List ℕ)
    → IsOneMore es more front e back → bytes_eq u e.0.tx ≡ false → pairs_of d u more ≡ pairs_of d u es
pairs_else d es more front e back u one apart = ap (λ l. followed (readings_among d l)) (live_else es more front e back u one apart)

-- A sum over the pairs of the transaction.
pub transaction_sums : (d : Direction) (f : Pair → ℕ) (es more front : List Entry) (e : Entry) (back : List Entry) → IsOneMore es more front e back
    → sum_by f (pairs_of d e.0.tx more) + sum_by f (pairs_less d front e back) ≡ sum_by f (pairs_of d e.0.tx es) + sum_by f (pairs_more d front e back)
transaction_sums d f es more front e back one =
    let t = e.0.tx in let p = followed (own_readings d t front) in let q = followed (own_readings d t back) in let a = pairs_less d front e back in let m = pairs_more d front e back in
    let with_it = ap (sum_by f) (pairs_with d es more front e back one) ∙ sum_by-append f p (m ++ q) ∙ ap (λ n. sum_by f p + n) (sum_by-append f m q) in
    let without = ap (sum_by f) (pairs_without d es more front e back one) ∙ sum_by-append f p (a ++ q) ∙ ap (λ n. sum_by f p + n) (sum_by-append f a q) in
    omega (arith, with_it, without)

turned_apart : (t u : List ℕ) → bytes_eq t u ≡ false → bytes_eq u t ≡ false
turned_apart t u apart = nat_list_eq_equiv.symm u t ∙ apart

-- A sum over the transactions with a live event, of a measure that is nothing where a transaction has none, changes by
-- what the event's transaction counts.
pub by_transaction_sums : (g h : List ℕ → ℕ) (es more front : List Entry) (e : Entry) (back : List Entry) → IsOneMore es more front e back
    → ((u : List ℕ) → bytes_eq u e.0.tx ≡ false → h u ≡ g u) → (live_of e.0.tx es ≡ [] → g e.0.tx ≡ 0) → (live_of e.0.tx more ≡ [] → h e.0.tx ≡ 0)
    → sum_by h (transactions_of (live more)) + g e.0.tx ≡ sum_by g (transactions_of (live es)) + h e.0.tx
by_transaction_sums g h es more front e back one agree none_less none_more =
    sums_differ_by_one g h e.0.tx (ids (live es)) (ids (live more))
    (ap (λ l. others e.0.tx (ids l)) one.less_live ∙ others_ids e front back ∙ ap (λ l. others e.0.tx (ids l)) (sym one.more_live))
    (λ u apart. agree u (turned_apart e.0.tx u apart))
    (λ absent. none_less (none_own e.0.tx (live es) absent))
    (λ absent. none_more (none_own e.0.tx (live more) absent))

-- A sum over the pairs of the station.
pub station_sums : (d : Direction) (f : Pair → ℕ) (es more front : List Entry) (e : Entry) (back : List Entry) → IsOneMore es more front e back
    → sum_by f (pairs d more) + sum_by f (pairs_less d front e back) ≡ sum_by f (pairs d es) + sum_by f (pairs_more d front e back)
station_sums d f es more front e back one =
    let g = λ (u : List ℕ). sum_by f (pairs_of d u es) in let h = λ (u : List ℕ). sum_by f (pairs_of d u more) in
    let all = by_transaction_sums g h es more front e back one
    (λ u apart. ap (sum_by f) (pairs_else d es more front e back u one apart))
    (λ none. ap (λ l. sum_by f (followed (readings_among d l))) none)
    (λ none. ap (λ l. sum_by f (followed (readings_among d l))) none) in
    let own = transaction_sums d f es more front e back one in
    let less = sum_by-flat_map f (λ u. pairs_of d u es) (transactions_of (live es)) in let many = sum_by-flat_map f (λ u. pairs_of d u more) (transactions_of (live more)) in
    omega (arith, all, own, less, many)

-- Sums over three lists.
sum_of_three : (f : Pair → ℕ) (a b d : List Pair) → sum_by f (a ++ (b ++ d)) ≡ sum_by f a + (sum_by f b + sum_by f d)
sum_of_three f a b d = sum_by-append f a (b ++ d) ∙ ap (λ n. sum_by f a + n) (sum_by-append f b d)

-- The station's pairs without the event add up as those that are kept and the pair across its place.
pub pairs_less_kept : (d : Direction) (f : Pair → ℕ) (es more front : List Entry) (e : Entry) (back : List Entry) → IsOneMore es more front e back
    → sum_by f (pairs d es) ≡ sum_by f (pairs_less d front e back ++ pairs_kept d es front e back)
pairs_less_kept d f es more front e back one =
    let t = e.0.tx in let p = followed (own_readings d t front) in let q = followed (own_readings d t back) in let a = pairs_less d front e back in
    let ts = others t (transactions_of (live es)) in let g = λ (u : List ℕ). sum_by f (pairs_of d u es) in
    let whole = sum_by-flat_map f (λ u. pairs_of d u es) (transactions_of (live es))
    ∙ sum_by_one g t (ids (live es)) (λ absent. ap (λ l. sum_by f (followed (readings_among d l))) (none_own t (live es) absent)) in
    let own = ap (sum_by f) (pairs_without d es more front e back one) ∙ sum_of_three f p a q in
    let rest = sum_by-flat_map f (λ u. pairs_of d u es) ts in
    let kept = sum_of_three f (flat_map (λ u. pairs_of d u es) ts) p q in
    omega (arith, whole, own, rest, kept, sum_by-append f a (pairs_kept d es front e back))

-- With the event they add up as those that are kept and those that its readings make.
pub pairs_more_kept : (d : Direction) (f : Pair → ℕ) (es more front : List Entry) (e : Entry) (back : List Entry) → IsOneMore es more front e back
    → sum_by f (pairs d more) ≡ sum_by f (pairs_more d front e back ++ pairs_kept d es front e back)
pairs_more_kept d f es more front e back one =
    let less = pairs_less_kept d f es more front e back one ∙ sum_by-append f (pairs_less d front e back) (pairs_kept d es front e back) in
    let many = sum_by-append f (pairs_more d front e back) (pairs_kept d es front e back) in
    omega (arith, less, many, station_sums d f es more front e back one)

-- What is so of the pair that goes and of those that come is so of none if there is no reading.
if_moved : (f : Pair → ℕ) (rs : List MeterReading) (before after : Option MeterReading) (m n : ℕ) → m + sum_by f (across before after) ≡ n + sum_by f (pairs_between before rs after)
    → m + sum_by f (if_read rs (across before after)) ≡ n + sum_by f (if_read rs (pairs_between before rs after))
if_moved f [] before after m n h = omega (arith, h)
if_moved f (r ∷ rs) before after m n h = h

-- A sum over the pairs of the transaction, by those that come and go.
pub transaction_moved : (d : Direction) (f : Pair → ℕ) (es more front : List Entry) (e : Entry) (back : List Entry) → IsOneMore es more front e back
    → sum_by f (pairs_of d e.0.tx more) + sum_by f (gone_by d front e back) ≡ sum_by f (pairs_of d e.0.tx es) + sum_by f (came_by d front e back)
transaction_moved d f es more front e back one = if_moved f (toward d e.1.event.readings) _ _ _ _ (transaction_sums d f es more front e back one)

-- A sum over the pairs of the station, by those that come and go.
pub station_moved : (d : Direction) (f : Pair → ℕ) (es more front : List Entry) (e : Entry) (back : List Entry) → IsOneMore es more front e back
    → sum_by f (pairs d more) + sum_by f (gone_by d front e back) ≡ sum_by f (pairs d es) + sum_by f (came_by d front e back)
station_moved d f es more front e back one = if_moved f (toward d e.1.event.readings) _ _ _ _ (station_sums d f es more front e back one)

-- Pairs that add up as the pair across a place and the rest do so as what goes and what is kept.
if_less : (f : Pair → ℕ) (rs : List MeterReading) (all less rest : List Pair) → sum_by f all ≡ sum_by f (less ++ rest) → sum_by f all ≡ sum_by f (if_read rs less ++ read_or rs rest all)
if_less f [] all less rest h = refl
if_less f (r ∷ rs) all less rest h = h

if_more : (f : Pair → ℕ) (rs : List MeterReading) (before after : Option MeterReading) (all many rest : List Pair)
    → sum_by f all ≡ sum_by f (across before after ++ rest) → sum_by f many ≡ sum_by f (pairs_between before rs after ++ rest)
    → sum_by f many ≡ sum_by f (if_read rs (pairs_between before rs after) ++ read_or rs rest all)
if_more f [] before after all many rest less h = h ∙ sym less
if_more f (r ∷ rs) before after all many rest less h = h

-- The station's pairs without the event add up as those that it leaves and the one that it takes away.
pub less_kept : (d : Direction) (f : Pair → ℕ) (es more front : List Entry) (e : Entry) (back : List Entry) → IsOneMore es more front e back
    → sum_by f (pairs d es) ≡ sum_by f (gone_by d front e back ++ kept_by d es front e back)
less_kept d f es more front e back one = if_less f (toward d e.1.event.readings) (pairs d es) (pairs_less d front e back) (pairs_kept d es front e back) (pairs_less_kept d f es more front e back one)

-- With it they add up as those that it leaves and those that it brings.
pub more_kept : (d : Direction) (f : Pair → ℕ) (es more front : List Entry) (e : Entry) (back : List Entry) → IsOneMore es more front e back
    → sum_by f (pairs d more) ≡ sum_by f (came_by d front e back ++ kept_by d es front e back)
more_kept d f es more front e back one =
    if_more f (toward d e.1.event.readings) (reading_before d front e) (reading_behind d e back) (pairs d es) (pairs d more)
    (pairs_kept d es front e back) (pairs_less_kept d f es more front e back one) (pairs_more_kept d f es more front e back one)

few_read : (rs : List MeterReading) (before after : Option MeterReading) → length (if_read rs (across before after)) + length (if_read rs (pairs_between before rs after)) ≤ most_for (length rs)
few_read [] before after = omega arith
few_read (r ∷ rs) before after = omega (arith, few_across before after, few_between before (r ∷ rs) after)

-- With r readings, r above 0, no more than r + 2 pairs come and go; with none, none.
pub few_moved : (d : Direction) (front : List Entry) (e : Entry) (back : List Entry)
    → length (gone_by d front e back) + length (came_by d front e back) ≤ most_for (length (toward d e.1.event.readings))
few_moved d front e back = few_read (toward d e.1.event.readings) (reading_before d front e) (reading_behind d e back)

-- The EVSE of another transaction.
pub evse_else : (es more front : List Entry) (e : Entry) (back : List Entry) (u : List ℕ) → IsOneMore es more front e back → bytes_eq u e.0.tx ≡ false → evse_of u more ≡ evse_of u es
evse_else es more front e back u one apart = ap (λ l. first_or_zero (filter_map (λ x. x.1.event.evse) l)) (live_else es more front e back u one apart)

pub nothing_taken : (b : Bool) → taken b 0 ≡ 0
nothing_taken true = refl
nothing_taken false = refl

-- How many transactions an EVSE has.
pub evse_counts : (evse : ℕ) (es more front : List Entry) (e : Entry) (back : List Entry) → IsOneMore es more front e back
    → length (transactions_at evse more) + taken (has_transaction e.0.tx (live es)) (taken (evse_of e.0.tx es == evse) 1) ≡ length (transactions_at evse es) + taken (evse_of e.0.tx more == evse) 1
evse_counts evse es more front e back one =
    let g = λ (u : List ℕ). taken (evse_of u es == evse) 1 in let h = λ (u : List ℕ). taken (evse_of u more == evse) 1 in
    let all = counts_differ_by_one g h e.0.tx (ids (live es)) (ids (live more))
    (ap (λ l. others e.0.tx (ids l)) one.less_live ∙ others_ids e front back ∙ ap (λ l. others e.0.tx (ids l)) (sym one.more_live))
    (λ u apart. ap (λ n. taken (n == evse) 1) (evse_else es more front e back u one (turned_apart e.0.tx u apart))) in
    let was = ap (λ b. taken b (g e.0.tx)) (any-map e.0.tx (live es)) in
    let is = ap (λ b. taken b (h e.0.tx)) (any-map e.0.tx (live more) ∙ ap (has_transaction e.0.tx) one.more_live ∙ now_there e front back) in
    let less = length-filter (λ u. evse_of u es == evse) (transactions_of (live es)) in let many = length-filter (λ u. evse_of u more == evse) (transactions_of (live more)) in
    omega (arith, all, was, is, less, many)
