-- An event's readings that come or go, run by run.
use Rattle.std.{proofs.Common.{◌≡◌, ℕ, ◌+◌, ◌*◌, ◌<◌, ◌≤◌, true, false, cond, nat_lt, eqb, List, [], ◌∷◌, ◌++◌, Option, None, Some, length, take, drop, get_or, refl, sym, ap, subst, ◌∙◌, arith, append_assoc, length-append, IfSome}, specs.List.{AllByRecursion, sum_by}, proofs.lemmas.List.Sums.sum_by-append, proofs.lemmas.Bool.Decides.nat_tests, proofs.lemmas.Bool.lt-ltb, proofs.lemmas.List.{append-nil, length-map}}
use Rattle.energy_flow.specs.Flow.{CanPlus, Energy, no_energy, plus}
use Rattle.ledger_model.{specs.Periods.Periods, specs.Board.Flowed, specs.Deltas.{pairs_between, first_reading, last_reading}, specs.declared.reading.Direction.Direction, specs.Energy.{Pair, difference, energy_over}, specs.Event.MeterReading, specs.InTime.{put_in_time, runs}, specs.Ranges.{greatest_reading, most_event_readings, most_readings}, proofs.Callers.{AreForeign, AreFrom, AreOwn, few_between}}
use Rattle.event_chain.specs.declared.around.Sides.{Sides}
use Rattle.quarter_table.{specs.Pairs.{rows_of, rows_with}, specs.Table.Table, proofs.Several.made_with}
use Rattle.reading_index.{specs.Ranks.{number_of, owner_of}, specs.Timed.{Timed, first_of, from_on, in_front, last_of, owned, AreAbove, AreRising, AreBelow}, proofs.Listed.filter-ranked}
use Rattle.key_index.proofs.Orders.{above_less, rising_parts, below_more, below_both}
use Rattle.station_ledger.{specs.ByMoment.{bare, bare_one, beyond, fits, fitting, put_each}, specs.Quarters.{HoldsPairs, IsTableMoved, IsWork, quartered, IsSumOf}, specs.declared.by_moment.Moved.Moved, specs.declared.pairs.Way.Way, specs.declared.pairs.Way.TheVariants.{Coming, Going}, specs.Runs.{came_of, gap_of, gone_of, own_timed, pairs_among, run_pairs, AreApart, AreExchanged, AreFew, AreSwapped, HasRoomWithout, by_way}, proofs.MomentRanks.{at, length-put_each, parted}, proofs.MomentWalks.{AreInFront, AreOver, FirstFails, LastFails, few_more, fitting-beyond, fitting-front, followed_fewer, first_bare, foreign_first, foreign_last, foreign_parts, has_room, in_front-append, in_front-under, last-append, last_bare, moved_in, one_run_more, over-one, own_parts, put_each-append, put_each-before, put_each-row, put_each-under, ranked-apart, with_run}, proofs.Rows.rows_less, proofs.Walks.first_and_rest}

-- Below a rank stay those below it.
under-put : (n : ℕ) (x : Timed) (ts : List Timed) → x.0 < n → AreBelow n ts → AreBelow n (put_in_time at x ts)
under-put n x [] lt h = (lt, tt)
under-put n x (t ∷ ts) lt h = grind (arith, under-put n x ts lt h.1)

under-put_each : (n : ℕ) (xs ts : List Timed) → AreBelow n xs → AreBelow n ts → AreBelow n (put_each xs ts)
under-put_each n [] ts h k = k
under-put_each n (x ∷ xs) ts h k = under-put_each n xs (put_in_time at x ts) h.1 (under-put n x ts h.0 k)

from-rising : (n : ℕ) (ts : List Timed) → AreAbove n ts → AreFrom at n ts
from-rising n [] h = tt
from-rising n (t ∷ ts) h = (omega (arith, h.0), from-rising n ts h.1)

from-parts : (n : ℕ) (ts us : List Timed) → AreFrom at n (ts ++ us) → AreFrom at n ts × AreFrom at n us
from-parts n [] us h = (tt, h)
from-parts n (t ∷ ts) us h = let rest = from-parts n ts us h.1 in ((h.0, rest.0), rest.1)

over-under : (n : ℕ) (ts xs : List Timed) → AreBelow n ts → AreFrom at n xs → AreOver ts xs
over-under n ts [] h k = tt
over-under n ts (x ∷ xs) h k = (below_more n x.0 ts k.0 h, over-under n ts xs h k.1)

above-from : (m n : ℕ) (us : List Timed) → m < n → AreFrom at n us → AreAbove m us
above-from m n [] lt h = tt
above-from m n (u ∷ us) lt h = (omega (arith, lt, h.0), above-from m n us lt h.1)

front-of : (n : ℕ) (xs us : List Timed) → AreBelow n xs → AreFrom at n us → AreInFront xs us
front-of n [] us h k = tt
front-of n (x ∷ xs) us h k = (above-from x.0 n us h.0 k, front-of n xs us h.1 k)

under-first : (xs us : List Timed) (u : Timed) → AreInFront xs (u ∷ us) → AreBelow u.0 xs
under-first [] us u h = tt
under-first (x ∷ xs) us u h = (h.0.0, under-first xs us u h.1)

-- An event's reading is no other's.
apart : (seq : ℕ) (x y : Timed) → own_timed seq x ≡ true → own_timed seq y ≡ false → x.0 ≡ y.0 → ⊥
apart seq x y mine other same = let e : true ≡ false = sym mine ∙ ap (λ n. eqb (number_of n) seq) same ∙ other in cc

-- The others from an event's reading on are behind it.
from_on-behind : (seq : ℕ) (x : Timed) (ts : List Timed) → own_timed seq x ≡ true → AreForeign (own_timed seq) ts → AreAbove x.0 (from_on x.0 ts)
from_on-behind seq x [] mine h = tt
from_on-behind seq x (t ∷ ts) mine h = grind (arith, nat_tests, from_on-behind seq x ts mine h.1, apart seq x t mine h.0)

-- Those that are beyond another reading are behind it.
beyond-behind : (seq : ℕ) (y : Timed) (xs : List Timed) → own_timed seq y ≡ false → AreOwn (own_timed seq) xs → AreRising xs → AreAbove y.0 (beyond (Some y) xs)
beyond-behind seq y [] other mine up = tt
beyond-behind seq y (x ∷ xs) other mine up = grind (arith, nat_tests, beyond-behind seq y xs other mine.1 up.1, apart seq x y mine.0 other, above_less y.0 x.0 xs)

none_beyond : (xs : List Timed) → beyond None xs ≡ []
none_beyond [] = refl
none_beyond (x ∷ xs) = none_beyond xs

-- The first one fits.
fits-first : (x : Timed) (us : List Timed) → AreAbove x.0 us → fits (first_of us) x ≡ true
fits-first x [] h = refl
fits-first x (u ∷ us) h = lt-ltb x.0 u.0 h.0

-- Fewer than readings, if there may be a reading.
pairs-fewer : (ts : List Timed) (n : ℕ) → length ts ≤ n → 1 ≤ n → length (pairs_among ts) + 1 ≤ n
pairs-fewer [] n le some = omega (arith, le, some)
pairs-fewer (t ∷ ts) n le some = omega (arith, followed_fewer t.1 (bare ts), length-map ts (λ (u : Timed). u.1), le)

abbrev rise : Pair → ℕ
rise p = (difference p).up

abbrev fall : Pair → ℕ
fall p = (difference p).down

-- How many readings go and come.
pub length-parts : (way : Way) (ts : List Timed) → length (gone_of way ts) + length (came_of way ts) ≡ length ts
length-parts way ts = grind arith

-- A run among others, which comes or goes: what is in front of it and behind it, now and next.
pub record IsRun (way : Way) (seq : ℕ) (before after : Option MeterReading) (run now next : List Timed) : Type 0 where
  pub front : List Timed
  pub back : List Timed
  pub first : Timed
  pub more : List Timed
  pub run_is : run ≡ first ∷ more
  pub now_is : now ≡ front ++ (gone_of way run ++ back)
  pub next_is : next ≡ front ++ (came_of way run ++ back)
  pub before_is : before ≡ last_reading (bare front)
  pub after_is : after ≡ first_reading (bare back)
  pub last_fails : LastFails (own_timed seq) front
  pub first_fails : FirstFails (own_timed seq) back
  pub own : AreOwn (own_timed seq) run

module _ {way : Way} {seq : ℕ} {before after : Option MeterReading} {run now next : List Timed} (r : IsRun way seq before after run now next) where
  abbrev pub fa : List Pair
  fa = pairs_among r.front

  abbrev pub fb : List Pair
  fb = pairs_among r.back

  -- the pairs that some readings make in the gap
  abbrev pub made : List Timed → List Pair
  made ts = pairs_between before (bare ts) after

  pub run_some : 1 ≤ length run
  run_some = omega (arith, ap length r.run_is)

  -- there is one run more with it
  pub one_run : runs (own_timed seq) (r.front ++ (run ++ r.back)) ≡ runs (own_timed seq) (r.front ++ r.back) + 1
  one_run =
      let mine : AreOwn (own_timed seq) (r.first ∷ r.more) = subst (AreOwn (own_timed seq)) r.run_is r.own in
      ap (λ l. runs (own_timed seq) (r.front ++ (l ++ r.back))) r.run_is ∙ one_run_more (own_timed seq) r.front r.first r.more r.back r.last_fails mine r.first_fails

  -- how many readings go and come
  pub parts_few : (length (gone_of way run) ≤ length run) × (length (came_of way run) ≤ length run)
  parts_few = omega (arith, length-parts way run)

  pub made_few : (ts : List Timed) → length (made ts) ≤ length ts + 1
  made_few ts = omega (arith, few_between before (bare ts) after, length-map ts (λ (t : Timed). t.1))

  -- all pairs, with some readings there
  module _ {all : List Timed} (ts : List Timed) (is : all ≡ r.front ++ (ts ++ r.back)) where
    pub all_pairs : pairs_among all ≡ fa ++ (made ts ++ fb)
    all_pairs = ap pairs_among is ∙ with_run r.front ts r.back ∙ sym (λ i. fa ++ (pairs_between (r.before_is i) (bare ts) (r.after_is i) ++ fb))

    pub all_sum : (f : Pair → ℕ) → sum_by f (pairs_among all) ≡ sum_by f (fa ++ fb) + sum_by f (made ts)
    all_sum f = omega (arith, ap (sum_by f) all_pairs, sum_by-append f fa (made ts ++ fb), sum_by-append f (made ts) fb, sum_by-append f fa fb)

  -- no more of them than the run makes
  pub all_few : (ts : List Timed) → length ts ≤ length run → length (fa ++ fb) + length (made ts) + 1 ≤ length (r.front ++ r.back) + length run
  all_few ts le =
      let few = pairs-fewer (r.front ++ (ts ++ r.back)) (length (r.front ++ r.back) + length run)
      (omega (arith, length-append r.front (ts ++ r.back), length-append ts r.back, length-append r.front r.back, le)) (omega (arith, run_some)) in
      omega (arith, ap length (all_pairs ts refl), length-append fa (made ts ++ fb), length-append (made ts) fb, length-append fa fb, few)

  module _ (period : Periods) (d : Direction) (rest : List Flowed) where
    abbrev pub beside : List Flowed
    beside = quartered period d (fa ++ fb) ++ rest

    pub all_rows : {all : List Timed} (ts : List Timed) → all ≡ r.front ++ (ts ++ r.back) → rows_of (quartered period d (pairs_among all) ++ rest) ≡ rows_of (quartered period d (made ts) ++ beside)
    all_rows ts is = ap (λ ps. rows_of (quartered period d ps ++ rest)) (all_pairs ts is) ∙ moved_in period d fa (made ts) fb rest

-- At most one difference for each reading that is no longer left, and two for each run that came, or went: by the runs
-- that are there now, and by all of them.
pub record IsSpent (way : Way) (w left now most total : ℕ) : Type 0 where
  pub within : w + left + 2 * by_way way 0 now ≤ most + 2 * by_way way now total

spent_more : {way : Way} {seq : ℕ} {before after : Option MeterReading} {run now next : List Timed} (r : IsRun way seq before after run now next) {w v left rest most total : ℕ}
    → IsSpent way w left (runs (own_timed seq) now) most total → v + rest ≤ w + left + 2 → IsSpent way v rest (runs (own_timed seq) next) most total
spent_more {seq = seq} r h more = record { within = grind (arith, h.within, more, ap (runs (own_timed seq)) r.now_is, ap (runs (own_timed seq)) r.next_is, one_run r) }

-- Of the readings that were moved, and those that are left: the ones that are there.
abbrev pub still : Way → List Timed → List Timed → List Timed
still Coming done left = done
still Going done left = left

-- Of the readings that are left the first is in a gap of the others that those that came have left as it was.
abbrev pub IsGapKept : List Timed → List Timed → List Timed → Type 0
IsGapKept done left others = (x : Timed) (xs : List Timed) → left ≡ x ∷ xs → last_of (put_each done (in_front x.0 others)) ≡ last_of (in_front x.0 others)

-- The next run of an event's readings.
module _ (seq : ℕ) (others done : List Timed) (x : Timed) (xs : List Timed) (own : AreOwn (own_timed seq) (done ++ x ∷ xs)) (rising : AreRising (done ++ x ∷ xs))
    (foreign : AreForeign (own_timed seq) others) (sorted : AreRising others) where
  abbrev F : List Timed
  F = in_front x.0 others

  abbrev B : List Timed
  B = from_on x.0 others

  abbrev run : List Timed
  run = fitting (first_of B) (x ∷ xs)

  abbrev rest : List Timed
  rest = beyond (first_of B) (x ∷ xs)

  others_are : others ≡ F ++ B
  others_are = parted x.0 others sorted

  left_own : AreOwn (own_timed seq) (x ∷ xs)
  left_own = (own_parts (own_timed seq) done (x ∷ xs) own).1

  left_rising : AreRising (x ∷ xs)
  left_rising = (rising_parts done (x ∷ xs) rising).1

  B_behind : AreAbove x.0 B
  B_behind = from_on-behind seq x others left_own.0 foreign

  parts_foreign : AreForeign (own_timed seq) F × AreForeign (own_timed seq) B
  parts_foreign = foreign_parts (own_timed seq) F B (subst (AreForeign (own_timed seq)) others_are foreign)

  done_under : AreBelow x.0 done
  done_under = under-first done xs x (ranked-apart done (x ∷ xs) rising)

  left_parts : run ++ rest ≡ x ∷ xs
  left_parts = fitting-beyond (first_of B) (x ∷ xs)

  parts_rising : AreRising (run ++ rest)
  parts_rising = subst AreRising (sym left_parts) left_rising

  run_in_front : AreInFront run B
  run_in_front = fitting-front B (x ∷ xs) (rising_parts F B (subst AreRising others_are sorted)).1

  from_run : AreFrom at x.0 run × AreFrom at x.0 rest
  from_run = from-parts x.0 run rest (subst (AreFrom at x.0) (sym left_parts) (omega arith, from-rising x.0 xs left_rising.0))

  -- a reading of another is in front of those that are left
  rest_behind : (bs : List Timed) → B ≡ bs → (z : Timed) (zs : List Timed) → rest ≡ z ∷ zs → (y : Timed) × (ys : List Timed) × (B ≡ y ∷ ys) × AreAbove y.0 rest
  rest_behind [] none z zs some = let e : [] ≡ z ∷ zs = sym (ap (λ l. beyond (first_of l) (x ∷ xs)) none ∙ none_beyond (x ∷ xs)) ∙ some in cc
  rest_behind (y ∷ ys) is z zs some =
      let fore : AreForeign (own_timed seq) (y ∷ ys) = subst (AreForeign (own_timed seq)) is parts_foreign.1 in
      (y, ys, is, subst (λ o. AreAbove y.0 (beyond o (x ∷ xs))) (sym (ap first_of is)) (beyond-behind seq y (x ∷ xs) fore.0 left_own left_rising))

  -- so the run leaves the next gap as it was
  pub next_gap : IsGapKept (done ++ run) rest others
  next_gap z zs some =
      let b = rest_behind B refl z zs some in let y = b.0 in let ys = b.1 in let is = b.2 in
      let behind : AreAbove y.0 (z ∷ zs) = subst (AreAbove y.0) some b.3 in
      let f = in_front z.0 F in let g = in_front z.0 ys in
      let gap : in_front z.0 others ≡ f ++ y ∷ g = ap (in_front z.0) (others_are ∙ ap (λ l. F ++ l) is) ∙ in_front-append z.0 F (y ∷ ys) ∙ ap (λ c. f ++ cond c (y ∷ g) g) (lt-ltb y.0 z.0 behind.0) in
      let tail : AreRising (y ∷ g) = (rising_parts f (y ∷ g) (subst AreRising gap (filter-ranked (λ t. nat_lt t.0 z.0) others sorted))).1 in
      let fore : AreInFront (done ++ run) (y ∷ g) = front-of y.0 (done ++ run) (y ∷ g)
      (below_both y.0 done run (below_more x.0 y.0 done (let b : AreAbove x.0 (y ∷ ys) = subst (AreAbove x.0) is B_behind in omega (arith, b.0)) done_under)
      (under-first run ys y (subst (AreInFront run) is run_in_front)))
      (omega arith, from-rising y.0 g tail.0) in
      ap (λ l. last_of (put_each (done ++ run) l)) gap ∙ ap last_of (put_each-before (done ++ run) f (y ∷ g) fore)
      ∙ last-append (put_each (done ++ run) f) g y ∙ sym (last-append f g y) ∙ sym (ap last_of gap)

  -- readings in front of the run, those of the run or none, and readings behind it, among the others
  threaded : (ds mid es : List Timed) → AreBelow x.0 ds → AreRising mid → AreInFront mid B → AreOver mid es → AreFrom at x.0 mid → AreFrom at x.0 es
      → put_each es (put_each mid (put_each ds others)) ≡ put_each ds F ++ (mid ++ put_each es B)
  threaded ds mid es low up fore over from beyond =
      let front = put_each ds F in let under = under-put_each x.0 ds F low (in_front-under x.0 others) in
      ap (λ l. put_each es (put_each mid l)) (ap (put_each ds) others_are ∙ put_each-before ds F B (front-of x.0 ds B low (from-rising x.0 B B_behind)))
      ∙ ap (put_each es) (put_each-under mid front B (over-under x.0 front mid under from) ∙ ap (λ l. front ++ l) (put_each-row mid B up fore))
      ∙ put_each-under es front (mid ++ B) (over-under x.0 front es under beyond) ∙ ap (λ l. front ++ l) (put_each-under es mid B over)

  -- what is there now, and next
  now_is : (way : Way) → put_each (still way done (x ∷ xs)) others ≡ put_each (by_way way done []) F ++ (gone_of way run ++ put_each (by_way way [] rest) B)
  now_is Coming = threaded done [] [] done_under tt tt tt tt tt
  now_is Going =
      ap (λ l. put_each l others) (sym left_parts) ∙ put_each-append run rest others
      ∙ threaded [] run rest tt (rising_parts run rest parts_rising).0 run_in_front (over_run run rest parts_rising) from_run.0 from_run.1
    where
      over_run : (ts us : List Timed) → AreRising (ts ++ us) → AreOver ts us
      over_run ts [] h = tt
      over_run ts (u ∷ us) h = over-under u.0 ts (u ∷ us) (under-first ts us u (ranked-apart ts (u ∷ us) h)) (omega arith, from-rising u.0 us (rising_parts ts (u ∷ us) h).1.0)

  then_is : (way : Way) → put_each (still way (done ++ run) rest) others ≡ put_each (by_way way done []) F ++ (came_of way run ++ put_each (by_way way [] rest) B)
  then_is Coming = put_each-append done run others ∙ threaded done run [] done_under (rising_parts run rest parts_rising).0 run_in_front tt from_run.0 tt
  then_is Going = threaded [] [] rest tt tt tt (over-under x.0 [] rest tt from_run.1) tt from_run.1

  -- the gap has the ends that it has among the others
  last_is : (way : Way) → IsGapKept done (x ∷ xs) others → last_of (put_each (by_way way done []) F) ≡ last_of F
  last_is Coming gap = gap x xs refl
  last_is Going gap = refl

  first_is : (way : Way) → first_of (put_each (by_way way [] rest) B) ≡ first_of B
  first_is Coming = refl
  first_is Going = begins rest refl
    where
      begins : (zs : List Timed) → rest ≡ zs → first_of (put_each rest B) ≡ first_of B
      begins [] none = ap (λ l. first_of (put_each l B)) none
      begins (z ∷ zs) some =
          let b = rest_behind B refl z zs some in
          ap (λ l. first_of (put_each rest l)) b.2 ∙ ap first_of (put_each-under rest (b.0 ∷ []) b.1 (over-one b.0 rest b.3)) ∙ sym (ap first_of b.2)

  -- a run that comes or goes
  pub next_run : (way : Way) → IsGapKept done (x ∷ xs) others
      → IsRun way seq (bare_one (last_of F)) (bare_one (first_of B)) run (put_each (still way done (x ∷ xs)) others) (put_each (still way (done ++ run) rest) others)
  next_run way gap = record {
    front = put_each (by_way way done []) F;
    back = put_each (by_way way [] rest) B;
    first = x;
    more = fitting (first_of B) xs;
    run_is = ap (λ b. cond b (x ∷ fitting (first_of B) xs) []) (fits-first x B B_behind);
    now_is = now_is way;
    next_is = then_is way;
    before_is = ap bare_one (sym (last_is way gap)) ∙ last_bare (put_each (by_way way done []) F);
    after_is = ap bare_one (sym (first_is way)) ∙ first_bare (put_each (by_way way [] rest) B);
    last_fails = subst (λ o. IfSome o (λ t. own_timed seq t ≡ false)) (sym (last_is way gap)) (foreign_last (own_timed seq) F parts_foreign.0);
    first_fails = subst (λ o. IfSome o (λ t. own_timed seq t ≡ false)) (sym (first_is way)) (foreign_first (own_timed seq) B parts_foreign.1);
    own = (own_parts (own_timed seq) run rest (subst (AreOwn (own_timed seq)) (sym left_parts) left_own)).0;
  }

-- What holds of a gap and two runs holds of equal ones.
pub at_turn : (P : Sides → List Timed → List Timed → Type 0) {g h : Sides} {a b x y : List Timed} → g ≡ h → a ≡ b → x ≡ y → P g a x → P h b y
at_turn P e f k holds = subst (λ (t : Sides × List Timed × List Timed). P t.0 t.1 t.2) (λ i. (e i, f i, k i)) holds

-- A run's pairs in the periods: those that go are there, and the others are left.
module _ (period : Periods) (d : Direction) {way : Way} {seq : ℕ} {before after : Option MeterReading} {run now next : List Timed}
    (r : IsRun way seq before after run now next) (rest : List Flowed) (t : Table) (rows : t.rows ≡ rows_of (quartered period d (pairs_among now) ++ rest)) where
  all_there : t.rows ≡ rows_of (quartered period d (made r (gone_of way run)) ++ beside r period d rest)
  all_there = rows ∙ all_rows r period d rest (gone_of way run) r.now_is

  pub gone_left : {left : Table} → IsTableMoved Going (quartered period d (made r (gone_of way run))) t left → left.rows ≡ rows_of (beside r period d rest)
  gone_left taken = rows_less (beside r period d rest) all_there taken

-- How energies that went and came compare with those from the start, and how large they are.
pub record AreBalanced (all left : List Timed) (from now less more : Energy) : Type 0 where
  pub up : now.up + less.up ≡ from.up + more.up
  pub down : now.down + less.down ≡ from.down + more.down
  pub less_up : less.up + greatest_reading * (2 * length left) ≤ greatest_reading * (2 * length all)
  pub less_down : less.down + greatest_reading * (2 * length left) ≤ greatest_reading * (2 * length all)
  pub more_up : more.up + greatest_reading * (2 * length left) ≤ greatest_reading * (2 * length all)
  pub more_down : more.down + greatest_reading * (2 * length left) ≤ greatest_reading * (2 * length all)

-- The state of the walk over an event's readings: the pairs of the owner that are in the periods
-- now, and the energies that went and came.
pub record IsMoving (period : Periods) (d : Direction) (all left from now : List Timed) (rest : List Flowed) (t : Table) (less more : Energy) : Type 0 where
  pub rows : t.rows ≡ rows_of (quartered period d (pairs_among now) ++ rest)
  pub sums : AreBalanced all left (energy_over (pairs_among from)) (energy_over (pairs_among now)) less more

-- A sum of pairs, by rises and falls.
summed : {ps : List Pair} {e : Energy} → IsSumOf ps e → (e.up ≡ sum_by rise ps) × (e.down ≡ sum_by fall ps)
summed s = (ap (λ (e : Energy). e.up) s.is, ap (λ (e : Energy). e.down) s.is)

-- A run came, or went, and so much is left.
module _ {way : Way} {seq : ℕ} {period : Periods} {d : Direction} {before after : Option MeterReading} {run now next : List Timed}
    (r : IsRun way seq before after run now next) {all left beyond from : List Timed} {rest : List Flowed} {t then : Table}
    {less more : Energy} {w v : ℕ} {m : Moved} (long : length left ≡ length run + length beyond) where
  pub run_moved : IsMoving period d all left from now rest t less more
      → AreSwapped period d (made r (gone_of way run)) (made r (came_of way run)) t then w v m
      → IsMoving period d all beyond from next rest then (plus less m.less) (plus more m.more)
  run_moved h s =
      let gone = all_sum r (gone_of way run) r.now_is in let came = all_sum r (came_of way run) r.next_is in let less_is = summed s.taken.sum in let more_is = summed s.added.sum in
      let gone_rise = gone rise in let gone_fall = gone fall in let came_rise = came rise in let came_fall = came fall in
      let few_gone = made_few r (gone_of way run) in let few_came = made_few r (came_of way run) in
      record {
        rows = s.added.quarters.rows ∙ ap (rows_with (quartered period d (made r (came_of way run)))) (gone_left period d r rest t h.rows s.taken.quarters)
            ∙ made_with (quartered period d (made r (came_of way run))) (beside r period d rest) ∙ sym (all_rows r period d rest (came_of way run) r.next_is);
        sums = omega (arith, h.sums, s.taken.sum.up, s.taken.sum.down, s.added.sum.up, s.added.sum.down, parts_few r, long, run_some r);
      }

-- What is known of an event's readings while some are left.
pub record IsTurning (way : Way) (seq : ℕ) (period : Periods) (d : Direction) (all left others : List Timed) (rest : List Flowed) (t : Table) (start w : ℕ) (less more : Energy) : Type 0 where
  pub done : List Timed
  pub split : all ≡ done ++ left
  pub gap : IsGapKept done left others
  pub moving : IsMoving period d all left (put_each (gone_of way all) others) (put_each (still way done left) others) rest t less more
  pub spent : IsSpent way w (length left) (runs (own_timed seq) (put_each (still way done left) others)) (start + length all) (runs (own_timed seq) (put_each all others))
  pub grows : start ≤ w

-- What is so of all is so of one among them.
pub one_of : (P : Timed → Type 0) (done : List Timed) (x : Timed) (xs : List Timed) → AllByRecursion P (done ++ x ∷ xs) → P x
one_of P [] x xs h = h.0
one_of P (d ∷ ds) x xs h = one_of P ds x xs h.1

-- One turn: the readings that fit into the gap at the first of those that are left, and those beyond.
pub record IsTurn (others left run next_left : List Timed) (before behind : Option Timed) : Type 0 where
  pub x : Timed
  pub xs : List Timed
  pub left_is : left ≡ x ∷ xs
  pub before_is : before ≡ last_of (in_front x.0 others)
  pub behind_is : behind ≡ first_of (from_on x.0 others)
  pub run_is : run ≡ fitting (first_of (from_on x.0 others)) (x ∷ xs)
  pub next_is : next_left ≡ beyond (first_of (from_on x.0 others)) (x ∷ xs)

module _ {others left run next_left : List Timed} {before behind : Option Timed} (turn : IsTurn others left run next_left before behind) where
  parts : left ≡ run ++ next_left
  parts = turn.left_is ∙ sym (fitting-beyond (first_of (from_on turn.x.0 others)) (turn.x ∷ turn.xs)) ∙ sym (λ i. turn.run_is i ++ turn.next_is i)

  pub long_left : length left ≡ length run + length next_left
  long_left = ap length parts ∙ length-append run next_left

  module _ {o seq : ℕ} {period : Periods} {d : Direction} {all : List Timed} {rest : List Flowed} {base : Table} {ps : List Pair} (a : AreApart o seq period d all others ps base rest) where
    module _ {way : Way} {t : Table} {start w : ℕ} {less more : Energy} (cap : t.capacity ≡ base.capacity)
        (same : ps ≡ pairs_among (put_each (gone_of way all) others))
        (h : IsTurning way seq period d all left others rest t start w less more) where
      abbrev gap : Sides
      gap = gap_of before behind

      all_is : all ≡ h.done ++ turn.x ∷ turn.xs
      all_is = h.split ∙ ap (λ l. h.done ++ l) turn.left_is

      own : AreOwn (own_timed seq) (h.done ++ turn.x ∷ turn.xs)
      own = subst (AreOwn (own_timed seq)) all_is a.own

      up : AreRising (h.done ++ turn.x ∷ turn.xs)
      up = subst AreRising all_is a.rising

      the_run : IsRun way seq (bare_one before) (bare_one behind) run (put_each (still way h.done left) others) (put_each (still way (h.done ++ run) next_left) others)
      the_run =
          subst (λ (t : Option Timed × Option Timed × List Timed × List Timed × List Timed).
          IsRun way seq (bare_one t.0) (bare_one t.1) t.2 (put_each (still way h.done t.3) others) (put_each (still way (h.done ++ t.2) t.4) others))
          (sym (λ i. (turn.before_is i, turn.behind_is i, turn.run_is i, turn.left_is i, turn.next_is i)))
          (next_run seq others h.done turn.x turn.xs own up a.foreign a.sorted way (subst (λ l. IsGapKept h.done l others) turn.left_is h.gap))

      all_long : length all ≡ length h.done + length left
      all_long = ap length h.split ∙ length-append h.done left

      gone_small : length (run_pairs gap (gone_of way run)) ≤ length all + 1
      gone_small = omega (arith, made_few the_run (gone_of way run), parts_few the_run, all_long, long_left)

      came_small : length (run_pairs gap (came_of way run)) ≤ length all + 1
      came_small = omega (arith, made_few the_run (came_of way run), parts_few the_run, all_long, long_left)

      pub turn_smaller : length next_left < length left
      turn_smaller = omega (arith, long_left, run_some the_run)

      pub turn_held : HoldsPairs period d (run_pairs gap (gone_of way run)) t
      turn_held = (beside the_run period d rest, all_there period d the_run rest t h.moving.rows)

      pub turn_few : length (run_pairs gap (gone_of way run)) ≤ most_readings
      turn_few = omega (arith, gone_small, a.small)

      few_now : AreFew (most_readings + 2 * most_event_readings) d (energy_over (fa the_run ++ fb the_run)) rest
      few_now =
          let from = put_each (gone_of way all) others in let gone = all_sum the_run (gone_of way run) the_run.now_is in let sums = h.moving.sums in
          few_more most_readings (2 * most_event_readings) d (energy_over (pairs_among from)) (energy_over (fa the_run ++ fb the_run)) rest
          (subst (λ qs. AreFew most_readings d (energy_over qs) rest) same a.few)
          (omega (arith, sums.up, sums.more_up, gone rise, a.small)) (omega (arith, sums.down, sums.more_down, gone fall, a.small))

      pub turn_room : HasRoomWithout period d (run_pairs gap (gone_of way run)) (length (run_pairs gap (came_of way run))) t
      turn_room gone taken =
          let few = all_few the_run (came_of way run) (parts_few the_run).1 in let n = whole way the_run in let left_rows = gone_left period d the_run rest t h.moving.rows taken in
          has_room period d (fa the_run ++ fb the_run) rest (length (run_pairs gap (came_of way run))) (most_readings + 2 * most_event_readings) _ left_rows
          (omega (arith, few, n, all_long, long_left, a.room, cap, taken.capacity)) (omega (arith, a.few_rows, cap, taken.capacity)) few_now (omega (arith, came_small, a.small))
        where
          whole : (way : Way) (r : IsRun way seq (bare_one before) (bare_one behind) run (put_each (still way h.done left) others) (put_each (still way (h.done ++ run) next_left) others))
              → length (r.front ++ r.back) + length run ≤ length others + length h.done + length left
          whole Coming r = omega (arith, ap length r.now_is, length-put_each h.done others, long_left)
          whole Going r = omega (arith, ap length r.next_is, length-put_each next_left others, long_left)

      module _ {then : Table} {v : ℕ} {m : Moved} (s : AreSwapped period d (run_pairs gap (gone_of way run)) (run_pairs gap (came_of way run)) t then w v m) where
        pub turn_less : CanPlus less m.less
        turn_less = omega (arith, h.moving.sums, s.taken.sum.up, s.taken.sum.down, gone_small, a.small)

        pub turn_more : CanPlus more m.more
        turn_more = omega (arith, h.moving.sums, s.added.sum.up, s.added.sum.down, came_small, a.small)

        pub turn_next : IsTurning way seq period d all next_left others rest then start v (plus less m.less) (plus more m.more)
        turn_next =
            let few_gone = made_few the_run (gone_of way run) in let few_came = made_few the_run (came_of way run) in
            record {
              done = h.done ++ run;
              split = h.split ∙ ap (λ l. h.done ++ l) parts ∙ sym (append_assoc h.done run next_left);
              gap = subst (λ (t : List Timed × List Timed). IsGapKept (h.done ++ t.0) t.1 others) (sym (λ i. (turn.run_is i, turn.next_is i)))
                  (next_gap seq others h.done turn.x turn.xs own up a.foreign a.sorted);
              moving = run_moved the_run long_left h.moving s;
              spent = spent_more the_run h.spent (omega (arith, s.taken.work.bound, s.added.work.bound, few_gone, few_came, length-parts way run, long_left));
              grows = omega (arith, h.grows, s.taken.work.grows, s.added.work.grows);
            }

-- The turn that a look into the index finds.
pub turn_of : (o count : ℕ) (entries : List Timed) {all left run next_left : List Timed} {x : Timed} {before behind : Option Timed} (done : List Timed)
    → AllByRecursion (λ r. owner_of r.0 ≡ o) all → all ≡ done ++ left → 1 ≤ length left → x ≡ get_or left 0 x
    → before ≡ last_of (in_front x.0 (owned (owner_of x.0) entries)) → behind ≡ first_of (from_on x.0 (owned (owner_of x.0) entries))
    → take count left ≡ fitting behind left → drop count left ≡ beyond behind left → run ≡ take count left
    → next_left ≡ drop count left
    → IsTurn (owned o entries) left run next_left before behind
turn_of o count entries {left = left} {x = x} done owned_by split some x_is before_is behind_is fit past run_is next_is =
    let left_is : left ≡ x ∷ drop 1 left = first_and_rest left (drop 1 left) x x some x_is refl in
    let own : owner_of x.0 ≡ o = one_of (λ r. owner_of r.0 ≡ o) done x (drop 1 left) (subst (AllByRecursion (λ r. owner_of r.0 ≡ o)) (split ∙ ap (λ l. done ++ l) left_is) owned_by) in
    let behind_at = behind_is ∙ ap (λ n. first_of (from_on x.0 (owned n entries))) own in
    record {
      x = x;
      xs = drop 1 left;
      left_is = left_is;
      before_is = before_is ∙ ap (λ n. last_of (in_front x.0 (owned n entries))) own;
      behind_is = behind_at;
      run_is = run_is ∙ fit ∙ (λ i. fitting (behind_at i) (left_is i));
      next_is = next_is ∙ past ∙ (λ i. beyond (behind_at i) (left_is i));
    }

-- At first all are there that go, and none that come.
still_all : (way : Way) (all : List Timed) → gone_of way all ≡ still way [] all
still_all way all = grind arith

none_spent : (way : Way) (seq w : ℕ) (all others : List Timed)
    → IsSpent way w (length all) (runs (own_timed seq) (put_each (still way [] all) others)) (w + length all) (runs (own_timed seq) (put_each all others))
none_spent way seq w all others = record { within = grind arith }

pub turning_start : (way : Way) {o seq : ℕ} {period : Periods} {d : Direction} {all others : List Timed} {base : Table} {rest : List Flowed} {w : ℕ}
    → AreApart o seq period d all others (pairs_among (put_each (gone_of way all) others)) base rest
    → IsTurning way seq period d all all others rest base w w no_energy no_energy
turning_start way {seq = seq} {period = period} {d = d} {all = all} {others = others} {base = base} {rest = rest} a = record {
  done = [];
  split = refl;
  gap = λ x xs is. refl;
  moving = subst (λ l. IsMoving period d all all (put_each (gone_of way all) others) (put_each l others) rest base no_energy no_energy) (still_all way all)
      (record { rows = a.rows; sums = omega arith });
  spent = none_spent way _ _ all others;
  grows = omega arith;
}

-- The energies by other names.
pub turning_by : {way : Way} {seq : ℕ} {period : Periods} {d : Direction} {all left others : List Timed} {rest : List Flowed} {t : Table} {start w : ℕ} {less more l m : Energy}
    → l ≡ less → m ≡ more → IsTurning way seq period d all left others rest t start w less more
    → IsTurning way seq period d all left others rest t start w l m
turning_by {way} {seq} {period} {d} {all} {left} {others} {rest} {t} {start} {w} e f h =
    subst (λ (p : Energy × Energy). IsTurning way seq period d all left others rest t start w p.0 p.1) (sym (λ i. (e i, f i))) h

-- At the end all are there that come, and none that go.
all_moved : (way : Way) (all done left : List Timed) → all ≡ done ++ left → left ≡ [] → still way done left ≡ came_of way all
all_moved Coming all done left split none = sym (append-nil done) ∙ ap (λ l. done ++ l) (sym none) ∙ sym split
all_moved Going all done left split none = none

all_spent : {way : Way} {w left now most total : ℕ} → IsSpent way w left now most total → (way ≡ Coming → now ≡ total) → w ≤ most + 2 * total
all_spent h same = grind (arith, h.within, same)

-- What occurs once all runs came, or went.
module _ {o seq : ℕ} {period : Periods} {d : Direction} {all others : List Timed} {ps : List Pair} {base : Table}
    {rest : List Flowed} (a : AreApart o seq period d all others ps base rest) {way : Way} {left : List Timed} {t : Table}
    {start w : ℕ} {less more : Energy} (h : IsTurning way seq period d all left others rest t start w less more)
    (none : left ≡ []) where
  then : still way h.done left ≡ came_of way all
  then = all_moved way all h.done left h.split none

  pub turning_end : AreExchanged period d (pairs_among (put_each (gone_of way all) others)) (pairs_among (put_each (came_of way all) others)) rest t (record { less = less; more = more })
  turning_end =
      let m : IsMoving period d all left (put_each (gone_of way all) others) (put_each (came_of way all) others) rest t less more =
      subst (λ l. IsMoving period d all left (put_each (gone_of way all) others) (put_each l others) rest t less more) then h.moving in
      record { rows = m.rows; up = m.sums.up; down = m.sums.down; more_up = omega (arith, m.sums.more_up, a.small); more_down = omega (arith, m.sums.more_down, a.small) }

  pub turning_work : IsWork (length all + 2 * runs (own_timed seq) (put_each all others)) start w
  turning_work =
      let few = all_spent h.spent (λ comes. ap (λ l. runs (own_timed seq) (put_each l others)) (then ∙ ap (λ x. came_of x all) comes)) in
      record { bound = omega (arith, few); grows = h.grows }
