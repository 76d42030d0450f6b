-- Any number of readings that repeat others, one after the other.
use Rattle.std.{proofs.Common.{◌≡◌, ℕ, ◌⊎◌, inl, inr, Bool, true, false, cond, not, List, [], ◌∷◌, ◌++◌, ◌==◌, refl, sym, ap, subst, ◌∙◌, ⊎_elim, bytes_eq, eqb, append_assoc, arith}, specs.List.{filter, filter_map, flat_map, sum_by, AllByRecursion}, proofs.lemmas.Bool.{cases_Bool, cases_eq, eq-eqb, ne_eqb}, proofs.lemmas.Grind.flat_map-append, proofs.lemmas.List.Elements.{filter-append, filter_passes, recursion_from_All, All-from_recursion, All-head, All-tail, All-weaker}}
use Rattle.energy_flow.specs.Flow.{plus, Energy}
use Rattle.ledger_model.{specs.declared.command.Command.TheVariants.Deliver, specs.declared.order.Order.TheVariants.Moment, specs.declared.reading.Direction.Direction, specs.declared.reading.Direction.TheVariants.{Import, Export}, specs.Content.{Entry, live, live_of, transactions_of}, specs.Deltas.{before_key, behind_key, flow_if, own_events, own_readings, IsOneMore}, specs.DeltaLaws.live_under, specs.Energy.{difference, energy_of_by, energy_over, energy_within, followed, pairs_by, parts_of, parts_over, readings_by, readings_of, Pair, all_pairs_by}, specs.Parts.Part, specs.Periods.Periods, specs.Entries.entries_after, specs.Event.{same_direction, toward, EventContent, MeterReading}, specs.Evse.{energy_at_by, evse_of, first_or_zero}, specs.InTime.in_time, specs.Key.KeyName, specs.OrderLaws.HaveSameEnergies, specs.ReadingOrder.{taken_when, IsOneReadingMore, IsRepeat}, proofs.EnergyLemmas.same_energy, proofs.InTimeLemmas.{in_time-stable, of_moment}, proofs.OneMore.{by_transaction_sums, live_else, live_without, passed_sum, taken}, proofs.OneMoreByCommand.delivered_more, proofs.OneMoreFigures.energy_at_more, proofs.RepeatLemmas.{evse_energy_stays, quarter_stays, station_stays, transaction_stays}, proofs.SumLemmas.sum_by-flat_map, proofs.SumsByTransaction.{one_text, same_text}}
use Rattle.reading_laws.specs.Repeats.{AreReadingsMore, AreRepeats, BringsRepeats, HaveSameSums, IsOneMoreOfRepeats}

front_all : {X : Type 0} (P : X → Type 0) (xs ys : List X) → AllByRecursion P (xs ++ ys) → AllByRecursion P xs
front_all P [] ys all = tt
front_all P (x ∷ xs) ys all = (all.0, front_all P xs ys all.1)

back_all : {X : Type 0} (P : X → Type 0) (xs ys : List X) → AllByRecursion P (xs ++ ys) → AllByRecursion P ys
back_all P [] ys all = all
back_all P (x ∷ xs) ys all = back_all P xs ys all.1

both_all : {X : Type 0} (P : X → Type 0) (xs ys : List X) → AllByRecursion P xs → AllByRecursion P ys → AllByRecursion P (xs ++ ys)
both_all P [] ys front back = back
both_all P (x ∷ xs) ys front back = (front.0, both_all P xs ys front.1 back)

-- Entries that are all live.
abbrev AreLive : List Entry → Type 0
AreLive es = AllByRecursion (λ e. not e.1.voided ≡ true) es

live_stay : (es : List Entry) → AreLive es → live es ≡ es
live_stay [] all = refl
live_stay (e ∷ es) all = ap (λ b. cond b (e ∷ live es) (live es)) all.0 ∙ ap (λ l. e ∷ l) (live_stay es all.1)

are_live : (es l : List Entry) → live es ≡ l → AreLive l
are_live es l is = subst AreLive is (recursion_from_All (λ e. not e.1.voided ≡ true) (live es) (filter_passes (λ (e : Entry). not e.1.voided) es))

not_true : (b : Bool) → not b ≡ true → b ≡ false
not_true true e = cc
not_true false e = refl

-- Another event in the place of one among live entries is live, too.
live_instead : (es front back : List Entry) (e : Entry) (key : KeyName) (event : EventContent) → live es ≡ front ++ e ∷ back
    → live (front ++ live_under key event ∷ back) ≡ front ++ live_under key event ∷ back
live_instead es front back e key event is =
    let P : Entry → Type 0 = λ x. not x.1.voided ≡ true in
    let all = are_live es (front ++ e ∷ back) is in
    live_stay (front ++ live_under key event ∷ back) (both_all P front (live_under key event ∷ back) (front_all P front (e ∷ back) all) (refl, (back_all P front (e ∷ back) all).1))

-- The readings of a transaction, with an event of it among its live entries.
readings_cut : (d : Direction) (es front back : List Entry) (e : Entry) → live es ≡ front ++ e ∷ back
    → readings_of d e.0.tx es ≡ own_readings d e.0.tx front ++ (toward d e.1.event.readings ++ own_readings d e.0.tx back)
readings_cut d es front back e is =
    let told : List Entry → List MeterReading = λ l. flat_map (λ (x : Entry). toward d x.1.event.readings) l in
    let own : List Entry → List Entry = λ l. own_events e.0.tx l in
    ap (λ l. told (own l)) is
    ∙ ap told (filter-append (λ (x : Entry). bytes_eq e.0.tx x.0.tx) front (e ∷ back))
    ∙ flat_map-append (λ (x : Entry). toward d x.1.event.readings) (own front) (own (e ∷ back))
    ∙ ap (λ b. told (own front) ++ told (cond b (e ∷ own back) (own back))) (same_text e.0.tx)

-- What makes a reading a repeat, only by the readings of its moment.
record Repeats (r : MeterReading) (rs : List MeterReading) : Type 0 where
  there : of_moment taken_when r.moment rs ≡ [] → ⊥
  level : AllByRecursion (λ s. s.mwh ≡ r.mwh) (of_moment taken_when r.moment rs)

module _ (m : ℕ) where
  here : (r : MeterReading) (rs : List MeterReading) → r.moment ≡ m → of_moment taken_when m (r ∷ rs) ≡ r ∷ of_moment taken_when m rs
  here r rs e = ap (λ b. cond b (r ∷ of_moment taken_when m rs) (of_moment taken_when m rs)) (eq-eqb r.moment m e)

  elsewhere : (r : MeterReading) (rs : List MeterReading) → (r.moment ≡ m → ⊥) → of_moment taken_when m (r ∷ rs) ≡ of_moment taken_when m rs
  elsewhere r rs apart = ap (λ b. cond b (r ∷ of_moment taken_when m rs) (of_moment taken_when m rs)) (ne_eqb r.moment m apart)

  module _ (P : MeterReading → Type 0) where
    of_one : (rs : List MeterReading) → AllByRecursion (λ s. s.moment ≡ m → P s) rs → AllByRecursion P (of_moment taken_when m rs)
    of_one [] all = tt
    of_one (r ∷ rs) all = ⊎_elim
        (λ (e : r.moment ≡ m). subst (AllByRecursion P) (sym (here r rs e)) (all.0 e, of_one rs all.1))
        (λ (apart : r.moment ≡ m → ⊥). subst (AllByRecursion P) (sym (elsewhere r rs apart)) (of_one rs all.1))
        (cases_eq r.moment m)

    of_each : (rs : List MeterReading) → AllByRecursion P (of_moment taken_when m rs) → AllByRecursion (λ s. s.moment ≡ m → P s) rs
    of_each [] all = tt
    of_each (r ∷ rs) all = ⊎_elim
        (λ (e : r.moment ≡ m). let whole = subst (AllByRecursion P) (here r rs e) all in (λ _. whole.0, of_each rs whole.1))
        (λ (apart : r.moment ≡ m → ⊥). (λ e. absurd (apart e), of_each rs (subst (AllByRecursion P) (elsewhere r rs apart) all)))
        (cases_eq r.moment m)

by_moment : (r : MeterReading) (rs : List MeterReading) → IsRepeat r (in_time taken_when rs) → Repeats r rs
by_moment r rs repeat = record {
  there = λ none. repeat.there (in_time-stable taken_when r.moment rs ∙ none);
  level = subst (AllByRecursion (λ s. s.mwh ≡ r.mwh)) (in_time-stable taken_when r.moment rs)
      (of_one r.moment (λ s. s.mwh ≡ r.mwh) (in_time taken_when rs) (recursion_from_All (λ s. s.moment ≡ r.moment → s.mwh ≡ r.mwh) (in_time taken_when rs) repeat.level));
}

in_time_again : (r : MeterReading) (rs : List MeterReading) → Repeats r rs → IsRepeat r (in_time taken_when rs)
in_time_again r rs repeat = record {
  there = λ none. repeat.there (sym (in_time-stable taken_when r.moment rs) ∙ none);
  level = All-from_recursion (λ s. s.moment ≡ r.moment → s.mwh ≡ r.mwh) (in_time taken_when rs)
      (of_each r.moment (λ s. s.mwh ≡ r.mwh) (in_time taken_when rs) (subst (AllByRecursion (λ s. s.mwh ≡ r.mwh)) (sym (in_time-stable taken_when r.moment rs)) repeat.level));
}

-- Two that repeat readings of one moment show one level.
same_level : (a b : ℕ) (rs : List MeterReading) → (rs ≡ [] → ⊥) → AllByRecursion (λ s. s.mwh ≡ a) rs → AllByRecursion (λ s. s.mwh ≡ b) rs → a ≡ b
same_level a b [] some one other = absurd (some refl)
same_level a b (r ∷ rs) some one other = sym one.0 ∙ other.0

not_none : (xs ys : List MeterReading) (r : MeterReading) → xs ++ r ∷ ys ≡ [] → ⊥
not_none [] ys r e = cc
not_none (x ∷ xs) ys r e = cc

-- A repeat stays one where another one is put in.
stays_repeat : (r s : MeterReading) (xs ys : List MeterReading) → Repeats r (xs ++ ys) → Repeats s (xs ++ ys) → Repeats s (xs ++ r ∷ ys)
stays_repeat r s xs ys one other = ⊎_elim
    (λ (e : r.moment ≡ s.moment).
    let m = s.moment in
    let at : List MeterReading → List MeterReading = λ l. of_moment taken_when m l in
    let level : r.mwh ≡ s.mwh = same_level r.mwh s.mwh (at (xs ++ ys)) other.there (subst (λ n. AllByRecursion (λ t. t.mwh ≡ r.mwh) (of_moment taken_when n (xs ++ ys))) e one.level) other.level in
    let cut : at (xs ++ ys) ≡ at xs ++ at ys = filter-append (λ (t : MeterReading). eqb t.moment m) xs ys in
    let all = subst (AllByRecursion (λ t. t.mwh ≡ s.mwh)) cut other.level in
    let whole : at (xs ++ r ∷ ys) ≡ at xs ++ r ∷ at ys = filter-append (λ (t : MeterReading). eqb t.moment m) xs (r ∷ ys) ∙ ap (λ l. at xs ++ l) (here m r ys e) in
    record {
      there = λ none. not_none (at xs) (at ys) r (sym whole ∙ none);
      level = subst (AllByRecursion (λ t. t.mwh ≡ s.mwh)) (sym whole)
          (both_all (λ t. t.mwh ≡ s.mwh) (at xs) (r ∷ at ys) (front_all (λ t. t.mwh ≡ s.mwh) (at xs) (at ys) all) (level, back_all (λ t. t.mwh ≡ s.mwh) (at xs) (at ys) all));
    })
    (λ (apart : r.moment ≡ s.moment → ⊥).
    let same : of_moment taken_when s.moment (xs ++ r ∷ ys) ≡ of_moment taken_when s.moment (xs ++ ys) =
    filter-append (λ (t : MeterReading). eqb t.moment s.moment) xs (r ∷ ys)
    ∙ ap (λ l. of_moment taken_when s.moment xs ++ l) (elsewhere s.moment r ys apart)
    ∙ sym (filter-append (λ (t : MeterReading). eqb t.moment s.moment) xs ys) in
    record {
      there = λ none. other.there (sym same ∙ none);
      level = subst (AllByRecursion (λ t. t.mwh ≡ s.mwh)) (sym same) other.level;
    })
    (cases_eq r.moment s.moment)

same_or_apart : (d e : Direction) → (d ≡ e) ⊎ (same_direction d e ≡ false)
same_or_apart Import Import = inl refl
same_or_apart Import Export = inr refl
same_or_apart Export Import = inr refl
same_or_apart Export Export = inl refl

same_itself : (d : Direction) → same_direction d d ≡ true
same_itself Import = refl
same_itself Export = refl

toward_more : (d : Direction) (xs ys : List MeterReading) (r : MeterReading) → toward d (xs ++ r ∷ ys) ≡ toward d xs ++ cond (same_direction d r.direction) (r ∷ toward d ys) (toward d ys)
toward_more d xs ys r = filter-append (λ (s : MeterReading). same_direction d s.direction) xs (r ∷ ys)

toward_less : (d : Direction) (xs ys : List MeterReading) → toward d (xs ++ ys) ≡ toward d xs ++ toward d ys
toward_less d xs ys = filter-append (λ (s : MeterReading). same_direction d s.direction) xs ys

-- The energies by moment, by the live events.
abbrev pairs_among : Direction → List Entry → List ℕ → List Pair
pairs_among d l tx = followed (in_time taken_when (own_readings d tx l))

same_live : (d : Direction) (es more : List Entry) → live more ≡ live es → HaveSameEnergies d es more
same_live d es more e = record {
  transaction = λ tx. ap (λ l. energy_over (pairs_among d l tx)) e;
  evse = λ evse. ap (λ l. energy_over (flat_map (pairs_among d l) (filter (λ tx. first_or_zero (filter_map (λ (x : Entry). x.1.event.evse) (own_events tx l)) == evse) (transactions_of l)))) e;
  quarter = λ period q. ap (λ l. energy_within period q (flat_map (pairs_among d l) (transactions_of l))) e;
  station = ap (λ l. energy_over (flat_map (pairs_among d l) (transactions_of l))) e;
}

and_then : (d : Direction) (es mid more : List Entry) → HaveSameEnergies d es mid → HaveSameEnergies d mid more → HaveSameEnergies d es more
and_then d es mid more one other = record {
  transaction = λ tx. other.transaction tx ∙ one.transaction tx;
  evse = λ evse. other.evse evse ∙ one.evse evse;
  quarter = λ period q. other.quarter period q ∙ one.quarter period q;
  station = other.station ∙ one.station;
}

one_reading : (d : Direction) (es more : List Entry) (key : KeyName) (r : MeterReading) → IsOneReadingMore es more key r
    → IsRepeat r (readings_by Moment r.direction key.tx es) → HaveSameEnergies d es more
one_reading d es more key r one repeat = record {
  transaction = transaction_stays es more key r one repeat d;
  evse = evse_energy_stays es more key r one repeat d;
  quarter = quarter_stays es more key r one repeat d;
  station = station_stays es more key r one repeat d;
}

-- A repeat stays one where a live event has another one more.
repeat_stays : (es more : List Entry) (key : KeyName) (r s : MeterReading) → IsOneReadingMore es more key r
    → IsRepeat r (readings_by Moment r.direction key.tx es) → IsRepeat s (readings_by Moment s.direction key.tx es) → IsRepeat s (readings_by Moment s.direction key.tx more)
repeat_stays es more key r s one repeat other =
    let d = s.direction in let tx = key.tx in
    let a = own_readings d tx one.front in let b = own_readings d tx one.back in let p = toward d one.first in let q = toward d one.last in
    let less_cut : readings_of d tx es ≡ a ++ (toward d (one.first ++ one.last) ++ b) =
    readings_cut d es one.front one.back (live_under key one.event) one.less_live ∙ ap (λ rs. a ++ (toward d rs ++ b)) one.readings in
    let more_cut : readings_of d tx more ≡ a ++ (toward d (one.first ++ r ∷ one.last) ++ b) =
    readings_cut d more one.front one.back (live_under key (record one.event { readings = one.first ++ r ∷ one.last })) one.more_live in
    ⊎_elim
    (λ (way : d ≡ r.direction).
    let same : same_direction d r.direction ≡ true = ap (λ e. same_direction e r.direction) way ∙ same_itself r.direction in
    let less_is : readings_of d tx es ≡ (a ++ p) ++ (q ++ b) =
    less_cut ∙ ap (λ rs. a ++ (rs ++ b)) (toward_less d one.first one.last) ∙ ap (λ rs. a ++ rs) (append_assoc p q b) ∙ sym (append_assoc a p (q ++ b)) in
    let more_is : readings_of d tx more ≡ (a ++ p) ++ r ∷ (q ++ b) =
    more_cut
    ∙ ap (λ rs. a ++ (rs ++ b)) (toward_more d one.first one.last r ∙ ap (λ b. p ++ cond b (r ∷ q) q) same)
    ∙ ap (λ rs. a ++ rs) (append_assoc p (r ∷ q) b) ∙ sym (append_assoc a p (r ∷ (q ++ b))) in
    let its : Repeats r (readings_of d tx es) = by_moment r (readings_of d tx es) (subst (λ e. IsRepeat r (readings_by Moment e tx es)) (sym way) repeat) in
    let all : Repeats s ((a ++ p) ++ r ∷ (q ++ b)) = stays_repeat r s (a ++ p) (q ++ b) (subst (Repeats r) less_is its) (subst (Repeats s) less_is (by_moment s (readings_of d tx es) other)) in
    in_time_again s (readings_of d tx more) (subst (Repeats s) (sym more_is) all))
    (λ (apart : same_direction d r.direction ≡ false).
    let same : readings_of d tx more ≡ readings_of d tx es =
    more_cut ∙ ap (λ rs. a ++ (rs ++ b)) (toward_more d one.first one.last r ∙ ap (λ b. p ++ cond b (r ∷ q) q) apart ∙ sym (toward_less d one.first one.last)) ∙ sym less_cut in
    subst (λ rs. IsRepeat s (in_time taken_when rs)) (sym same) other)
    (same_or_apart d r.direction)

-- More readings in one live event change no energy if each repeats others.
pub readings_more : (d : Direction) (rs : List MeterReading) (es more : List Entry) (key : KeyName) → AreReadingsMore es more key rs → AreRepeats key.tx es rs → HaveSameEnergies d es more
readings_more d [] es more key m repeats =
    same_live d es more (m.more_live ∙ ap (λ rs. m.front ++ live_under key (record m.event { readings = rs }) ∷ m.back) (sym m.readings) ∙ sym m.less_live)
readings_more d (r ∷ rs) es more key m repeats =
    let P : MeterReading → Type 0 = λ s. IsRepeat s (readings_by Moment s.direction key.tx es) in
    let event : EventContent = record m.event { readings = m.first ++ r ∷ m.last } in
    let mid : List Entry = m.front ++ live_under key event ∷ m.back in
    let mid_live : live mid ≡ mid = live_instead es m.front m.back (live_under key m.event) key event m.less_live in
    let one : IsOneReadingMore es mid key r = record {
      front = m.front;
      back = m.back;
      event = m.event;
      first = m.first;
      last = m.last;
      readings = m.readings;
      less_live = m.less_live;
      more_live = mid_live;
    } in
    let repeat : P r = All-head P r rs repeats in
    let rest : AreReadingsMore mid more key rs = record {
      front = m.front;
      back = m.back;
      event = event;
      first = m.first ++ r ∷ [];
      last = m.last;
      readings = sym (append_assoc m.first (r ∷ []) m.last);
      less_live = mid_live;
      more_live = m.more_live ∙ ap (λ l. m.front ++ live_under key (record m.event { readings = l }) ∷ m.back) (sym (append_assoc m.first (r ∷ []) (rs ++ m.last)));
    } in
    let Q : MeterReading → Type 0 = λ s. IsRepeat s (readings_by Moment s.direction key.tx mid) in
    let others : AreRepeats key.tx mid rs = All-weaker P Q (λ s other. repeat_stays es mid key r s one repeat other) rs (All-tail P r rs repeats) in
    and_then d es mid more (one_reading d es mid key r one repeat) (readings_more d rs mid more key rest others)

none_behind : (rs : List MeterReading) → rs ++ [] ≡ rs
none_behind [] = refl
none_behind (r ∷ rs) = ap (λ l. r ∷ l) (none_behind rs)

module _ (es more : List Entry) (e : Entry) (m : IsOneMoreOfRepeats es more e) where
  -- The event, without its readings.
  abbrev without : Entry
  without = live_under e.0 (record e.1.event { readings = [] })

  abbrev bare : List Entry
  bare = m.front ++ without ∷ m.back

  bare_live : live bare ≡ bare
  bare_live = live_instead more m.front m.back e e.0 (record e.1.event { readings = [] }) m.one_more.more_live

  one_bare : IsOneMore es bare m.front without m.back
  one_bare = record { less_live = m.one_more.less_live; more_live = bare_live }

  -- It changes no transaction's readings.
  readings_stay : (d : Direction) (tx : List ℕ) → readings_of d tx bare ≡ readings_of d tx es
  readings_stay d tx = ⊎_elim
      (λ (is : bytes_eq tx e.0.tx ≡ true). subst (λ t. readings_of d t bare ≡ readings_of d t es) (sym (one_text tx e.0.tx is))
      (readings_cut d bare m.front m.back without bare_live
      ∙ sym (flat_map-append (λ (x : Entry). toward d x.1.event.readings) (own_events e.0.tx m.front) (own_events e.0.tx m.back))
      ∙ sym (ap (flat_map (λ (x : Entry). toward d x.1.event.readings)) (live_without es bare m.front without m.back one_bare))))
      (λ (apart : bytes_eq tx e.0.tx ≡ false). ap (flat_map (λ (x : Entry). toward d x.1.event.readings)) (live_else es bare m.front without m.back tx one_bare apart))
      (cases_Bool (bytes_eq tx e.0.tx))

  pairs_stay : (d : Direction) (tx : List ℕ) → pairs_by Moment d tx bare ≡ pairs_by Moment d tx es
  pairs_stay d tx = ap (λ rs. followed (in_time taken_when rs)) (readings_stay d tx)

  -- So it changes no sum over the pairs of the station.
  sums_stay : (d : Direction) (f : Pair → ℕ) → sum_by f (all_pairs_by Moment d bare) ≡ sum_by f (all_pairs_by Moment d es)
  sums_stay d f =
      let g : List ℕ → ℕ = λ tx. sum_by f (pairs_by Moment d tx es) in let h : List ℕ → ℕ = λ tx. sum_by f (pairs_by Moment d tx bare) in
      let sum_of : List Entry → ℕ = λ l. sum_by f (followed (in_time taken_when (flat_map (λ (x : Entry). toward d x.1.event.readings) l))) in
      let none : (l : List Entry) → l ≡ [] → sum_of l ≡ 0 = λ l is. ap sum_of is in
      let all = by_transaction_sums g h es bare m.front without m.back one_bare (λ tx apart. ap (sum_by f) (pairs_stay d tx)) (none (live_of e.0.tx es)) (none (live_of e.0.tx bare)) in
      let own = ap (sum_by f) (pairs_stay d e.0.tx) in
      let less = sum_by-flat_map f (λ tx. pairs_by Moment d tx es) (transactions_of (live es)) in
      let many = sum_by-flat_map f (λ tx. pairs_by Moment d tx bare) (transactions_of (live bare)) in
      omega (arith, all, own, less, many)

  parts_stay : (d : Direction) (f : Part → ℕ) (period : Periods) (q : ℕ)
      → sum_by f (filter (λ t. t.0 == q) (parts_over period (all_pairs_by Moment d bare))) ≡ sum_by f (filter (λ t. t.0 == q) (parts_over period (all_pairs_by Moment d es)))
  parts_stay d f period q = passed (all_pairs_by Moment d bare) ∙ sums_stay d (λ p. sum_by (λ t. taken (t.0 == q) (f t)) (parts_of period p)) ∙ sym (passed (all_pairs_by Moment d es))
    where
      passed : (ps : List Pair) → sum_by f (filter (λ t. t.0 == q) (parts_over period ps)) ≡ sum_by (λ p. sum_by (λ t. taken (t.0 == q) (f t)) (parts_of period p)) ps
      passed ps = passed_sum f (λ (t : Part). t.0 == q) (parts_over period ps) ∙ sum_by-flat_map (λ (t : Part). taken (t.0 == q) (f t)) (parts_of period) ps

  bare_sums : (d : Direction) → HaveSameSums d es bare
  bare_sums d = record {
    transaction = λ tx. ap energy_over (pairs_stay d tx);
    quarter = λ period q. same_energy _ _ (parts_stay d (λ t. t.1.up) period q) (parts_stay d (λ t. t.1.down) period q);
    station = same_energy _ _ (sums_stay d (λ p. (difference p).up)) (sums_stay d (λ p. (difference p).down));
  }

  -- Then its readings are put in; all repeat others.
  is_live : e ≡ live_under e.0 e.1.event
  is_live =
      let all = are_live more (m.front ++ e ∷ m.back) m.one_more.more_live in
      let voided = not_true e.1.voided (back_all (λ x. not x.1.voided ≡ true) m.front (e ∷ m.back) all).0 in
      λ i. (e.0, record { event = e.1.event; voided = voided i })

  its_readings : AreReadingsMore bare more e.0 e.1.event.readings
  its_readings = record {
    front = m.front;
    back = m.back;
    event = record e.1.event { readings = [] };
    first = [];
    last = [];
    readings = refl;
    less_live = bare_live;
    more_live = m.one_more.more_live ∙ ap (λ x. m.front ++ x ∷ m.back) is_live
        ∙ ap (λ rs. m.front ++ live_under e.0 (record e.1.event { readings = rs }) ∷ m.back) (sym (none_behind e.1.event.readings));
  }

  its_repeats : AreRepeats e.0.tx bare e.1.event.readings
  its_repeats = All-weaker (λ r. IsRepeat r (readings_by Moment r.direction e.0.tx es)) (λ r. IsRepeat r (readings_by Moment r.direction e.0.tx bare))
      (λ r repeat. subst (λ rs. IsRepeat r (in_time taken_when rs)) (sym (readings_stay r.direction e.0.tx)) repeat) e.1.event.readings m.repeats

  -- One more live event changes no sum if each of its readings repeats others.
  pub event_more : (d : Direction) → HaveSameSums d es more
  event_more d =
      let one = bare_sums d in let other = readings_more d e.1.event.readings bare more e.0 its_readings its_repeats in
      record {
        transaction = λ tx. other.transaction tx ∙ one.transaction tx;
        quarter = λ period q. other.quarter period q ∙ one.quarter period q;
        station = other.station ∙ one.station;
      }

  -- And none of an EVSE, where the transaction keeps its EVSE.
  pub event_more_at : (d : Direction) → evse_of e.0.tx more ≡ evse_of e.0.tx es → HaveSameEnergies d es more
  event_more_at d stays =
      let sums = event_more d in
      record {
        transaction = sums.transaction;
        evse = λ evse. at_evse evse;
        quarter = sums.quarter;
        station = sums.station;
      }
    where
      at_evse : (evse : ℕ) → energy_at_by Moment d evse more ≡ energy_at_by Moment d evse es
      at_evse evse =
          let moved = energy_at_more Moment d evse es more m.front e m.back m.one_more in
          let was : Energy = flow_if (evse_of e.0.tx es == evse) (energy_of_by Moment d e.0.tx es) in
          let is : flow_if (evse_of e.0.tx more == evse) (energy_of_by Moment d e.0.tx more) ≡ was = λ i. flow_if (stays i == evse) ((event_more d).transaction e.0.tx i) in
          let all : plus (energy_at_by Moment d evse more) was ≡ plus (energy_at_by Moment d evse es) was = moved ∙ ap (plus (energy_at_by Moment d evse es)) is in
          let up = ap (λ (x : Energy). x.up) all in let down = ap (λ (x : Energy). x.down) all in
          same_energy _ _ (omega (arith, up)) (omega (arith, down))

-- So it is with the delivery of such an event.
pub delivery_more : (d : Direction) (es : List Entry) (key : KeyName) (event : EventContent) → BringsRepeats es key event → HaveSameSums d es (entries_after es (Deliver key event))
delivery_more d es key event m =
    let one_more = delivered_more es key event m.rising m.new in
    event_more es (entries_after es (Deliver key event)) (live_under key event) (record { front = before_key key es; back = behind_key key es; one_more = one_more; repeats = m.repeats }) d
