-- The readings of an event and of a transaction by rank.
use Rattle.std.{proofs.Common.{◌≡◌, ℕ, ◌+◌, ◌*◌, ◌^◌, ◌<◌, ◌≤◌, Bool, true, false, cond, not, List, [], ◌∷◌, ◌++◌, length, map, refl, sym, ap, subst, ◌∙◌, eqb, nat_lt, bytes_eq, arith}, specs.List.{AllByRecursion, filter, flat_map, sum_by}, proofs.lemmas.Bool.Decides.nat_tests, proofs.lemmas.Bool.{eq-eqb, ne_eqb}, proofs.lemmas.Grind.flat_map-append, proofs.lemmas.List.{append-nil, map-append}, proofs.lemmas.List.Elements.recursion_from_All, proofs.lemmas.List.Sums.{sum_by-append, sum_by-cons}}
use Rattle.ledger_model.specs.BoardLaws as laws
use Rattle.ledger_model.{specs.declared.order.Order.TheVariants.Moment, specs.declared.reading.Direction.Direction, specs.Content.{Entry, live, live_of}, specs.Deltas.{before_key, behind_key, own_events, IsOneMore}, specs.Energy.readings_by, specs.Event.{IsMeterReading, MeterReading, toward}, specs.Gaps.numbers_of, specs.InTime.{in_time, put_in_time}, specs.ReadingOrder.{Numbered, numbered, numbered_by}, proofs.Bounds.AreEntries-filter, proofs.Callers.{AreEntries, AreForeign, AreOwn, IsEntry, few_toward, in_time-map, live_else, live_with, live_without, numbered_readings, own_before_key, own_behind_key}}
use Rattle.reading_index.{specs.Ranks.{number_of, owner, owner_of, rank}, specs.Timed.{Timed, has_rank, placed_at, without, AreAbove, AreRising}, specs.declared.placed.PlacedReading.PlacedReading}
use Rattle.station_ledger.{proofs.Each.{each_append, each_in_time, each_put, each_then, each_toward}, specs.ByMoment.{bare, live_readings, put_each, ranked, ranked_from, take_each, timed_of}, specs.Runs.own_timed, specs.Listing.{placed, placed_by, placed_from}, proofs.MomentRanks.{at, number_of-rank, owner_of-rank, length-put_each, place_of-rank, put-ranked}}

-- What is so of each reading is so of each by rank.
pub each_put_each : (P : Timed → Type 0) (xs ts : List Timed) → AllByRecursion P xs → AllByRecursion P ts → AllByRecursion P (put_each xs ts)
each_put_each P [] ts mine all = all
each_put_each P (x ∷ xs) ts mine all = each_put_each P xs (put_in_time at x ts) mine.1 (each_put P at x ts mine.0 all)

-- None has this rank.
abbrev pub AreApart : ℕ → List Timed → Type 0
AreApart n ts = AllByRecursion (λ t. t.0 ≡ n → ⊥) ts

-- No two have one rank.
abbrev AreDistinct : List Timed → Type 0
AreDistinct [] = Unit {0}
AreDistinct (t ∷ ts) = AreApart t.0 ts × AreDistinct ts

pub none_has : (n : ℕ) (ts : List Timed) → AreApart n ts → has_rank n ts ≡ false
none_has n [] apart = refl
none_has n (t ∷ ts) apart = grind (arith, nat_tests, none_has n ts apart.1, apart.0)

pub behind_apart : (n : ℕ) (ts : List Timed) → AreAbove n ts → AreApart n ts
behind_apart n [] behind = tt
behind_apart n (t ∷ ts) behind = (λ same. absurd (let lt : n < t.0 = behind.0 in omega (arith, lt, same)), behind_apart n ts behind.1)

ranked_distinct : (ts : List Timed) → AreRising ts → AreDistinct ts
ranked_distinct [] up = tt
ranked_distinct (t ∷ ts) up = (behind_apart t.0 ts up.0, ranked_distinct ts up.1)

-- Of different ranks, by rank, they are by rank.
distinct_ranked : (ts : List Timed) → AreDistinct ts → AreRising (in_time at ts)
distinct_ranked [] apart = tt
distinct_ranked (t ∷ ts) apart = put-ranked t (in_time at ts) (distinct_ranked ts apart.1) (none_has t.0 (in_time at ts) (each_in_time (λ u. u.0 ≡ t.0 → ⊥) at ts apart.0))

-- Two readings of different ranks are put in in either order.
put_put : (x y : Timed) (ts : List Timed) → (y.0 ≡ x.0 → ⊥) → put_in_time at x (put_in_time at y ts) ≡ put_in_time at y (put_in_time at x ts)
put_put x y [] apart = grind (arith, nat_tests)
put_put x y (t ∷ ts) apart = grind (arith, nat_tests, put_put x y ts apart)

pub put_each-put : (xs : List Timed) (x : Timed) (ts : List Timed) → AreApart x.0 xs → put_each xs (put_in_time at x ts) ≡ put_in_time at x (put_each xs ts)
put_each-put [] x ts apart = refl
put_each-put (y ∷ ys) x ts apart = ap (put_each ys) (sym (put_put x y ts apart.0)) ∙ put_each-put ys x (put_in_time at y ts) apart.1

-- Put in one after the other, each at its rank, is the same as all by rank.
put_each-in_time : (xs zs : List Timed) → AreDistinct xs → put_each xs (in_time at zs) ≡ in_time at (xs ++ zs)
put_each-in_time [] zs apart = refl
put_each-in_time (x ∷ xs) zs apart = put_each-put xs x (in_time at zs) apart.0 ∙ ap (put_in_time at x) (put_each-in_time xs zs apart.1)

-- They may come from the middle.
put_each-middle : (xs rs zs : List Timed) → AreDistinct rs → AllByRecursion (λ x. AreApart x.0 rs) xs → put_each rs (in_time at (xs ++ zs)) ≡ in_time at (xs ++ (rs ++ zs))
put_each-middle [] rs zs apart others = put_each-in_time rs zs apart
put_each-middle (x ∷ xs) rs zs apart others = put_each-put rs x (in_time at (xs ++ zs)) others.0 ∙ ap (put_in_time at x) (put_each-middle xs rs zs apart others.1)

put_each-front : (x : Timed) (xs ts : List Timed) → AreApart x.0 xs → put_each (put_in_time at x xs) ts ≡ put_each xs (put_in_time at x ts)
put_each-front x [] ts apart = refl
put_each-front x (y ∷ ys) ts apart = grind (arith, nat_tests, put_each-front x ys (put_in_time at y ts) apart.1, put_put x y ts apart.0)

-- They may be put in by rank.
put_each-sorted : (xs ts : List Timed) → AreDistinct xs → put_each (in_time at xs) ts ≡ put_each xs ts
put_each-sorted [] ts apart = refl
put_each-sorted (x ∷ xs) ts apart = put_each-front x (in_time at xs) ts (each_in_time (λ u. u.0 ≡ x.0 → ⊥) at xs apart.0) ∙ put_each-sorted xs (put_in_time at x ts) apart.1

listed_sorted : (xs : List Timed) → AreDistinct xs → put_each xs [] ≡ in_time at xs
listed_sorted xs apart = put_each-in_time xs [] apart ∙ ap (in_time at) (append-nil xs)

-- What was put in is taken out again.
without_none : (n : ℕ) (ts : List Timed) → AreApart n ts → without n ts ≡ ts
without_none n [] apart = refl
without_none n (t ∷ ts) apart = grind (arith, nat_tests, without_none n ts apart.1, apart.0)

pub without_put : (x : Timed) (ts : List Timed) → AreApart x.0 ts → without x.0 (put_in_time at x ts) ≡ ts
without_put x [] apart = grind (arith, nat_tests)
without_put x (t ∷ ts) apart = grind (arith, nat_tests, without_put x ts apart.1, without_none x.0 ts apart.1, apart.0)

taken_back : (xs ts : List Timed) → AreDistinct xs → AllByRecursion (λ x. AreApart x.0 ts) xs → take_each xs (put_each xs ts) ≡ ts
taken_back [] ts apart others = refl
taken_back (x ∷ xs) ts apart others =
    ap (λ us. take_each xs (without x.0 us)) (put_each-put xs x ts apart.0)
    ∙ ap (take_each xs) (without_put x (put_each xs ts) (each_put_each (λ t. t.0 ≡ x.0 → ⊥) xs ts apart.0 others.0))
    ∙ taken_back xs ts apart.1 others.1

-- A reading is behind another: it has another rank, and the ranks are in the order of the moments.
pub record IsAfter (t u : Timed) : Type 0 where
  pub apart : u.0 ≡ t.0 → ⊥
  agrees : nat_lt u.0 t.0 ≡ nat_lt u.1.moment t.1.moment

-- Each is behind those in front of it.
abbrev AreListed : List Timed → Type 0
AreListed [] = Unit {0}
AreListed (t ∷ ts) = AllByRecursion (IsAfter t) ts × AreListed ts

listed_distinct : (ts : List Timed) → AreListed ts → AreDistinct ts
listed_distinct [] all = tt
listed_distinct (t ∷ ts) all = (each_then (IsAfter t) (λ u. u.0 ≡ t.0 → ⊥) (λ u a. a.apart) ts all.0, listed_distinct ts all.1)

put_agrees : (t : Timed) (us : List Timed) → AllByRecursion (IsAfter t) us → put_in_time at t us ≡ put_in_time (λ u. u.1.moment) t us
put_agrees t [] all = refl
put_agrees t (u ∷ us) all = let a : IsAfter t u = all.0 in (λ i. cond (a.agrees i) (u ∷ put_agrees t us all.1 i) (t ∷ u ∷ us))

-- By rank they are as by moment.
by_rank : (ts : List Timed) → AreListed ts → in_time at ts ≡ in_time (λ u. u.1.moment) ts
by_rank [] all = refl
by_rank (t ∷ ts) all = put_agrees t (in_time at ts) (each_in_time (IsAfter t) at ts all.0) ∙ ap (put_in_time (λ u. u.1.moment) t) (by_rank ts all.1)

-- Of one owner, a later place is behind.
after : (o n p k q : ℕ) (r s : MeterReading) → n < 2 ^ 31 → p < 2 ^ 10 → k < 2 ^ 31 → q < 2 ^ 10 → n * 2 ^ 10 + p < k * 2 ^ 10 + q → IsAfter (rank o r.moment n p, r) (rank o s.moment k q, s)
after o n p k q r s number place number_2 place_2 lt = record { apart = λ same. absurd (omega (arith, same)); agrees = grind (arith, nat_tests) }

pub from_after : (o n p k q : ℕ) (r : MeterReading) (ss : List MeterReading) → n < 2 ^ 31 → p < 2 ^ 10 → k < 2 ^ 31 → q + length ss ≤ 2 ^ 10 → n * 2 ^ 10 + p < k * 2 ^ 10 + q
    → AllByRecursion (IsAfter (rank o r.moment n p, r)) (ranked_from o k q ss)
from_after o n p k q r [] number place number_2 room lt = tt
from_after o n p k q r (s ∷ ss) number place number_2 room lt =
    (after o n p k q r s number place number_2 (omega (arith, room)) lt, from_after o n p k (q + 1) r ss number place number_2 (omega (arith, room)) (omega (arith, lt)))

front_listed : (o n p : ℕ) (rs : List MeterReading) (ts : List Timed) → n < 2 ^ 31 → p + length rs ≤ 2 ^ 10
    → ((q : ℕ) (r : MeterReading) → q < 2 ^ 10 → AllByRecursion (IsAfter (rank o r.moment n q, r)) ts) → AreListed ts
    → AreListed (ranked_from o n p rs ++ ts)
front_listed o n p [] ts number room behind all = all
front_listed o n p (r ∷ rs) ts number room behind all = (
  each_append (IsAfter (rank o r.moment n p, r)) (ranked_from o n (p + 1) rs) ts
      (from_after o n p n (p + 1) r rs number (omega (arith, room)) number (omega (arith, room)) (omega arith))
      (behind p r (omega (arith, room))),
  front_listed o n (p + 1) rs ts number (omega (arith, room)) behind all,
)

each_from : (P : Timed → Type 0) (o n p : ℕ) (rs : List MeterReading) → ((q : ℕ) (r : MeterReading) → q < 2 ^ 10 → IsMeterReading r → P (rank o r.moment n q, r))
    → p + length rs ≤ 2 ^ 10 → AllByRecursion IsMeterReading rs → AllByRecursion P (ranked_from o n p rs)
each_from P o n p [] here room all = tt
each_from P o n p (r ∷ rs) here room all = (here p r (omega (arith, room)) all.0, each_from P o n (p + 1) rs here (omega (arith, room)) all.1)

length_from : (o n p : ℕ) (rs : List MeterReading) → length (ranked_from o n p rs) ≡ length rs
length_from o n p [] = refl
length_from o n p (r ∷ rs) = let rest = length_from o n (p + 1) rs in omega (arith, rest)

are_own : (own : Timed → Bool) (ts : List Timed) → AllByRecursion (λ t. own t ≡ true) ts → AreOwn own ts
are_own own [] all = tt
are_own own (t ∷ ts) all = (all.0, are_own own ts all.1)

are_foreign : (own : Timed → Bool) (ts : List Timed) → AllByRecursion (λ t. own t ≡ false) ts → AreForeign own ts
are_foreign own [] all = tt
are_foreign own (t ∷ ts) all = (all.0, are_foreign own ts all.1)

-- Readings of entries in range.
few_ranked : (d : Direction) (e : Entry) → IsEntry e → 0 + length (toward d e.1.event.readings) ≤ 2 ^ 10
few_ranked d e it = omega (arith, it.event.event.0, few_toward d e.1.event.readings)

each_ranked : (P : Timed → Type 0) (slot : ℕ) (d : Direction) (e : Entry) → IsEntry e
    → ((q : ℕ) (r : MeterReading) → q < 2 ^ 10 → IsMeterReading r → P (rank (owner slot d) r.moment e.0.seq q, r)) → AllByRecursion P (ranked slot d e)
each_ranked P slot d e it here = each_from P (owner slot d) e.0.seq 0 (toward d e.1.event.readings) here (few_ranked d e it)
    (each_toward IsMeterReading d e.1.event.readings (recursion_from_All IsMeterReading e.1.event.readings it.event.readings))

-- An event's readings in one direction, by rank.
module _ (slot : ℕ) (d : Direction) (e : Entry) where
  abbrev listed : List Timed
  listed = put_each (ranked slot d e) []

  module _ (it : IsEntry e) where
    its_distinct : AreDistinct (ranked slot d e)
    its_distinct = subst AreDistinct (append-nil (ranked slot d e))
        (listed_distinct _ (front_listed (owner slot d) e.0.seq 0 (toward d e.1.event.readings) [] it.key.number (few_ranked d e it) (λ q r lt. tt) tt))

    its_own : AllByRecursion (λ t. own_timed e.0.seq t ≡ true) (ranked slot d e)
    its_own = each_ranked (λ t. own_timed e.0.seq t ≡ true) slot d e it
        (λ q r lt is. eq-eqb (number_of (rank (owner slot d) r.moment e.0.seq q)) e.0.seq (number_of-rank (owner slot d) r.moment e.0.seq q it.key.number lt))

    pub listed-ranked : AreRising listed
    listed-ranked = subst AreRising (sym (listed_sorted (ranked slot d e) its_distinct)) (distinct_ranked (ranked slot d e) its_distinct)

    pub listed_each : AllByRecursion (λ t. own_timed e.0.seq t ≡ true) listed
    listed_each = each_put_each (λ t. own_timed e.0.seq t ≡ true) (ranked slot d e) [] its_own tt

    pub listed-own : AreOwn (own_timed e.0.seq) listed
    listed-own = are_own (own_timed e.0.seq) listed listed_each

    pub listed-owned : AllByRecursion (λ t. owner_of t.0 ≡ owner slot d) listed
    listed-owned = each_put_each (λ t. owner_of t.0 ≡ owner slot d) (ranked slot d e) [] (each_ranked (λ t. owner_of t.0 ≡ owner slot d) slot d e it
        (λ q r lt is. owner_of-rank (owner slot d) r.moment e.0.seq q (omega (arith, is.moment.1)) it.key.number lt)) tt

  pub length-listed : length listed ≡ length (toward d e.1.event.readings)
  length-listed = omega (arith, length-put_each (ranked slot d e) [], length_from (owner slot d) e.0.seq 0 (toward d e.1.event.readings))

-- An event's readings have other ranks than those of other events.
pub other_apart : (seq : ℕ) (own : Bool) (x : Timed) (ts : List Timed) → own_timed seq x ≡ own → AllByRecursion (λ t. own_timed seq t ≡ not own) ts → AreApart x.0 ts
other_apart seq own x ts is = each_then (λ t. own_timed seq t ≡ not own) (λ t. t.0 ≡ x.0 → ⊥)
    (λ t other same. let both : own ≡ not own = sym is ∙ ap (λ n. eqb (number_of n) seq) (sym same) ∙ other in grind (arith, both)) ts

all_apart : (seq : ℕ) (own : Bool) (xs ts : List Timed) → AllByRecursion (λ t. own_timed seq t ≡ own) xs → AllByRecursion (λ t. own_timed seq t ≡ not own) ts
    → AllByRecursion (λ x. AreApart x.0 ts) xs
all_apart seq own xs ts mine others = each_then (λ t. own_timed seq t ≡ own) (λ x. AreApart x.0 ts) (λ x is. other_apart seq own x ts is others) xs mine

-- Entries in range.
entries_parts : (es fs : List Entry) → AreEntries (es ++ fs) → AreEntries es × AreEntries fs
entries_parts [] fs all = (tt, all)
entries_parts (e ∷ es) fs all = let rest = entries_parts es fs all.1 in ((all.0, rest.0), rest.1)

-- Events of other numbers have readings of other numbers.
all_foreign : (slot : ℕ) (d : Direction) (seq : ℕ) (es : List Entry) → AreEntries es → AllByRecursion (λ e. e.0.seq ≡ seq → ⊥) es
    → AllByRecursion (λ t. own_timed seq t ≡ false) (flat_map (ranked slot d) es)
all_foreign slot d seq [] range others = tt
all_foreign slot d seq (e ∷ es) range others =
    let it : IsEntry e = range.0 in
    each_append (λ t. own_timed seq t ≡ false) (ranked slot d e) (flat_map (ranked slot d) es)
    (each_ranked (λ t. own_timed seq t ≡ false) slot d e it (λ q r lt is.
    ne_eqb (number_of (rank (owner slot d) r.moment e.0.seq q)) seq (λ same. others.0 (sym (number_of-rank (owner slot d) r.moment e.0.seq q it.key.number lt) ∙ same))))
    (all_foreign slot d seq es range.1 others.1)

below_other : (seq : ℕ) (es : List Entry) → AllByRecursion (λ (e : Entry). e.0.seq ≡ seq → ⊥) (filter (λ e. nat_lt e.0.seq seq) es)
below_other seq [] = tt
below_other seq (e ∷ es) = grind (arith, nat_tests, below_other seq es)

above_other : (seq : ℕ) (es : List Entry) → AllByRecursion (λ (e : Entry). e.0.seq ≡ seq → ⊥) (filter (λ e. nat_lt seq e.0.seq) es)
above_other seq [] = tt
above_other seq (e ∷ es) = grind (arith, nat_tests, above_other seq es)

-- A transaction's readings by rank, with one event more.
module _ (slot : ℕ) (d : Direction) (es new : List Entry) (e : Entry) (one : IsOneMore es new (before_key e.0 es) e (behind_key e.0 es)) (range : AreEntries new) where
  abbrev here : List Entry
  here = own_events e.0.tx (before_key e.0 es)

  abbrev there : List Entry
  there = own_events e.0.tx (behind_key e.0 es)

  all_in_range : AreEntries (before_key e.0 es) × AreEntries (e ∷ behind_key e.0 es)
  all_in_range = entries_parts (before_key e.0 es) (e ∷ behind_key e.0 es) (subst AreEntries one.more_live (AreEntries-filter (λ f. not f.1.voided) new range))

  pub it_in_range : IsEntry e
  it_in_range = all_in_range.1.0

  before_foreign : AllByRecursion (λ t. own_timed e.0.seq t ≡ false) (flat_map (ranked slot d) here)
  before_foreign = all_foreign slot d e.0.seq here (AreEntries-filter (λ f. bytes_eq e.0.tx f.0.tx) (before_key e.0 es) all_in_range.0)
      (subst (AllByRecursion (λ (f : Entry). f.0.seq ≡ e.0.seq → ⊥)) (sym (own_before_key e.0 es)) (below_other e.0.seq (live_of e.0.tx es)))

  behind_foreign : AllByRecursion (λ t. own_timed e.0.seq t ≡ false) (flat_map (ranked slot d) there)
  behind_foreign = all_foreign slot d e.0.seq there (AreEntries-filter (λ f. bytes_eq e.0.tx f.0.tx) (behind_key e.0 es) all_in_range.1.1)
      (subst (AllByRecursion (λ (f : Entry). f.0.seq ≡ e.0.seq → ⊥)) (sym (own_behind_key e.0 es)) (above_other e.0.seq (live_of e.0.tx es)))

  with_it : flat_map (ranked slot d) (live_of e.0.tx new) ≡ flat_map (ranked slot d) here ++ (ranked slot d e ++ flat_map (ranked slot d) there)
  with_it = ap (flat_map (ranked slot d)) (live_with es new (before_key e.0 es) e (behind_key e.0 es) one) ∙ flat_map-append (ranked slot d) here (e ∷ there)

  without_it : flat_map (ranked slot d) (live_of e.0.tx es) ≡ flat_map (ranked slot d) here ++ flat_map (ranked slot d) there
  without_it = ap (flat_map (ranked slot d)) (live_without es new (before_key e.0 es) e (behind_key e.0 es) one) ∙ flat_map-append (ranked slot d) here there

  distinct : AreDistinct (ranked slot d e)
  distinct = its_distinct slot d e it_in_range

  own : AllByRecursion (λ t. own_timed e.0.seq t ≡ true) (ranked slot d e)
  own = its_own slot d e it_in_range

  pub stand_foreign : AllByRecursion (λ t. own_timed e.0.seq t ≡ false) (timed_of slot d e.0.tx es)
  stand_foreign = each_in_time (λ t. own_timed e.0.seq t ≡ false) at (flat_map (ranked slot d) (live_of e.0.tx es))
      (subst (AllByRecursion (λ t. own_timed e.0.seq t ≡ false)) (sym without_it)
      (each_append (λ t. own_timed e.0.seq t ≡ false) (flat_map (ranked slot d) here) (flat_map (ranked slot d) there) before_foreign behind_foreign))

  -- its readings put in, each where its rank is
  pub come : put_each (put_each (ranked slot d e) []) (timed_of slot d e.0.tx es) ≡ timed_of slot d e.0.tx new
  come =
      ap (λ us. put_each us (timed_of slot d e.0.tx es)) (listed_sorted (ranked slot d e) distinct)
      ∙ put_each-sorted (ranked slot d e) (timed_of slot d e.0.tx es) distinct
      ∙ ap (λ us. put_each (ranked slot d e) (in_time at us)) without_it
      ∙ put_each-middle (flat_map (ranked slot d) here) (ranked slot d e) (flat_map (ranked slot d) there) distinct
      (all_apart e.0.seq false (flat_map (ranked slot d) here) (ranked slot d e) before_foreign own)
      ∙ ap (in_time at) (sym with_it)

  -- and taken out
  pub go : take_each (put_each (ranked slot d e) []) (timed_of slot d e.0.tx new) ≡ timed_of slot d e.0.tx es
  go =
      let mine = put_each (ranked slot d e) [] in
      ap (take_each mine) (sym come)
      ∙ taken_back mine (timed_of slot d e.0.tx es) (ranked_distinct mine (listed-ranked slot d e it_in_range))
      (all_apart e.0.seq true mine (timed_of slot d e.0.tx es) (listed_each slot d e it_in_range) stand_foreign)

  pub foreign : AreForeign (own_timed e.0.seq) (timed_of slot d e.0.tx es)
  foreign = are_foreign (own_timed e.0.seq) (timed_of slot d e.0.tx es) stand_foreign

-- An event more brings its readings.
pub live_readings-more : (es new front : List Entry) (e : Entry) (back : List Entry) → IsOneMore es new front e back → live_readings new ≡ live_readings es + length e.1.event.readings
live_readings-more es new front e back one =
    let f = λ (x : Entry). length x.1.event.readings in
    omega (arith, ap (sum_by f) one.more_live, sum_by-append f front (e ∷ back), ap (sum_by f) one.less_live, sum_by-append f front back, sum_by-cons f e back)

-- The readings of another transaction stay.
pub timed_else : (slot : ℕ) (d : Direction) (es new front : List Entry) (e : Entry) (back : List Entry) (u : List ℕ)
    → IsOneMore es new front e back → bytes_eq u e.0.tx ≡ false → timed_of slot d u new ≡ timed_of slot d u es
timed_else slot d es new front e back u one apart = ap (λ l. in_time at (flat_map (ranked slot d) l)) (live_else es new front e back u one apart)

-- A number is below those of entries.
above_all : (n : ℕ) (es : List Entry) → laws.AreRising (n ∷ map (λ e. e.0.seq) es) → AllByRecursion (λ (e : Entry). n < e.0.seq) es
above_all n [] up = tt
above_all n (e ∷ es) up = (up.0, each_then (λ f. e.0.seq < f.0.seq) (λ f. n < f.0.seq) (λ f lt. omega (arith, lt, up.0)) es (above_all e.0.seq es up.1))

rising_tail : (n : ℕ) (ns : List ℕ) → laws.AreRising (n ∷ ns) → laws.AreRising ns
rising_tail n [] up = tt
rising_tail n (m ∷ ns) up = up.1

entries_behind : (slot : ℕ) (d : Direction) (n q : ℕ) (r : MeterReading) (es : List Entry) → n < 2 ^ 31 → q < 2 ^ 10 → AreEntries es → AllByRecursion (λ (e : Entry). n < e.0.seq) es
    → AllByRecursion (IsAfter (rank (owner slot d) r.moment n q, r)) (flat_map (ranked slot d) es)
entries_behind slot d n q r [] number place range above = tt
entries_behind slot d n q r (e ∷ es) number place range above =
    let it : IsEntry e = range.0 in let over : n < e.0.seq = above.0 in
    each_append (IsAfter (rank (owner slot d) r.moment n q, r)) (ranked slot d e) (flat_map (ranked slot d) es)
    (from_after (owner slot d) n q e.0.seq 0 r (toward d e.1.event.readings) number place it.key.number (few_ranked d e it) (omega (arith, over, place)))
    (entries_behind slot d n q r es number place range.1 above.1)

entries_listed : (slot : ℕ) (d : Direction) (es : List Entry) → AreEntries es → laws.AreRising (map (λ e. e.0.seq) es) → AreListed (flat_map (ranked slot d) es)
entries_listed slot d [] range up = tt
entries_listed slot d (e ∷ es) range up =
    let it : IsEntry e = range.0 in
    front_listed (owner slot d) e.0.seq 0 (toward d e.1.event.readings) (flat_map (ranked slot d) es) it.key.number (few_ranked d e it)
    (λ q r lt. entries_behind slot d e.0.seq q r es it.key.number lt range.1 (above_all e.0.seq es up))
    (entries_listed slot d es range.1 (rising_tail e.0.seq (map (λ f. f.0.seq) es) up))

-- What a reading by rank shows: the number of its event, and the reading.
abbrev shown : Timed → Numbered
shown t = (number_of t.0, t.1)

shown_from : (o n p : ℕ) (rs : List MeterReading) → n < 2 ^ 31 → p + length rs ≤ 2 ^ 10 → map shown (ranked_from o n p rs) ≡ map (λ r. (n, r)) rs
shown_from o n p [] number room = refl
shown_from o n p (r ∷ rs) number room = (λ i. (number_of-rank o r.moment n p number (omega (arith, room)) i, r) ∷ shown_from o n (p + 1) rs number (omega (arith, room)) i)

placed_shown : (o n p : ℕ) (rs : List MeterReading) → n < 2 ^ 31 → p + length rs ≤ 2 ^ 10 → map placed_at (ranked_from o n p rs) ≡ placed_from n p rs
placed_shown o n p [] number room = refl
placed_shown o n p (r ∷ rs) number room =
    let n_is = number_of-rank o r.moment n p number (omega (arith, room)) in let p_is = place_of-rank o r.moment n p (omega (arith, room)) in
    (λ i. record { number = n_is i; place = p_is i; reading = r } ∷ placed_shown o n (p + 1) rs number (omega (arith, room)) i)

-- What the readings of entries show, by what those of each do.
entries_shown : {X : Type 0} (f : Timed → X) (g : Entry → List X) (slot : ℕ) (d : Direction) → ((e : Entry) → IsEntry e → map f (ranked slot d e) ≡ g e)
    → (es : List Entry) → AreEntries es → map f (flat_map (ranked slot d) es) ≡ flat_map g es
entries_shown f g slot d each [] range = refl
entries_shown f g slot d each (e ∷ es) range =
    map-append f (ranked slot d e) (flat_map (ranked slot d) es) ∙ (λ i. each e range.0 i ++ entries_shown f g slot d each es range.1 i)

bare_shown : (ts : List Timed) → bare ts ≡ map (λ (n : Numbered). n.1) (map shown ts)
bare_shown [] = refl
bare_shown (t ∷ ts) = ap (λ rs. t.1 ∷ rs) (bare_shown ts)

-- The live readings of a transaction, where its numbers rise.
module _ (slot : ℕ) (d : Direction) (tx : List ℕ) (es : List Entry) (range : AreEntries es) (up : laws.AreRising (numbers_of tx es)) where
  live_range : AreEntries (live_of tx es)
  live_range = AreEntries-filter (λ e. bytes_eq tx e.0.tx) (live es) (AreEntries-filter (λ e. not e.1.voided) es range)

  live_listed : AreListed (flat_map (ranked slot d) (live_of tx es))
  live_listed = entries_listed slot d (live_of tx es) live_range up

  -- no two have one rank
  pub timed-ranked : AreRising (timed_of slot d tx es)
  timed-ranked = distinct_ranked (flat_map (ranked slot d) (live_of tx es)) (listed_distinct _ live_listed)

  -- by rank they are as by moment
  by_moment : {X : Type 0} (when : X → ℕ) (f : Timed → X) (g : Entry → List X) → ((t : Timed) → t.1.moment ≡ when (f t)) → ((e : Entry) → IsEntry e → map f (ranked slot d e) ≡ g e)
      → map f (timed_of slot d tx es) ≡ in_time when (flat_map g (live_of tx es))
  by_moment when f g same each = ap (map f) (by_rank _ live_listed ∙ (λ i. in_time (λ t. same t i) (flat_map (ranked slot d) (live_of tx es))))
      ∙ sym (in_time-map when f (flat_map (ranked slot d) (live_of tx es))) ∙ ap (in_time when) (entries_shown f g slot d each (live_of tx es) live_range)

  -- with the numbers of their events
  pub numbered-timed : map (λ (t : Timed). (number_of t.0, t.1)) (timed_of slot d tx es) ≡ numbered_by Moment d tx es
  numbered-timed = by_moment (λ (n : Numbered). n.1.moment) shown (numbered d) (λ t. refl)
      (λ e it. shown_from (owner slot d) e.0.seq 0 (toward d e.1.event.readings) it.key.number (few_ranked d e it))

  -- and their places there
  pub placed-timed : map placed_at (timed_of slot d tx es) ≡ placed_by Moment d tx es
  placed-timed = by_moment (λ (p : PlacedReading). p.reading.moment) placed_at (placed d) (λ t. refl)
      (λ e it. placed_shown (owner slot d) e.0.seq 0 (toward d e.1.event.readings) it.key.number (few_ranked d e it))

  -- and without
  pub bare-timed : bare (timed_of slot d tx es) ≡ readings_by Moment d tx es
  bare-timed = bare_shown (timed_of slot d tx es) ∙ ap (map (λ (n : Numbered). n.1)) numbered-timed ∙ numbered_readings Moment d tx es
