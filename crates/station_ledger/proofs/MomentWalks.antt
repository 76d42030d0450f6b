-- Readings put into the gaps of others, run by run: what their pairs do to the periods, and to sums.
use Rattle.std.{proofs.Common.{◌≡◌, ℕ, ◌+◌, ◌-◌, ◌*◌, ◌≤◌, Bool, true, false, nat_lt, List, [], ◌∷◌, ◌++◌, Option, length, slice_get, refl, sym, ap, ◌∙◌, arith, length-append, subst, IfSome}, specs.List.{AllByRecursion, sum_by}, proofs.lemmas.Bool.Decides.nat_tests, proofs.lemmas.List.{map-append, length-map}, proofs.lemmas.List.Elements.filter-append, proofs.lemmas.List.Sums.sum_by-append, proofs.lemmas.Option.slice_get-map}
use Rattle.energy_flow.specs.Flow.{Energy}
use Rattle.ledger_model.{specs.Periods.Periods, specs.Board.Flowed, specs.Deltas.{pairs_between, first_reading, last_reading}, specs.Energy.{Pair, energy_over, followed}, specs.declared.reading.Direction.Direction, specs.Event.MeterReading, specs.InTime.{put_in_time, runs, runs_behind}, specs.Ranges.{greatest_reading, most_readings}, proofs.Callers.{AreForeign, AreOwn, followed_cut, put-behind, put-front, runs_own, runs_foreign}}
use Rattle.quarter_table.{specs.Table.Table, specs.Pairs.rows_of, proofs.Made.made_alike}
use Rattle.key_index.proofs.Orders.{above_parts, above_less, last_cons}
use Rattle.reading_index.specs.Timed.{Timed, first_of, in_front, last_of, AreAbove, AreRising, AreBelow}
use Rattle.station_ledger.{specs.ByMoment.{bare, bare_one, beyond, fitting, put_each}, specs.Runs.AreFew, specs.Quarters.{HasRoom, quartered}, proofs.MomentRanks.at, proofs.Rows.{long, up_append, down_append, up_quartered, down_quartered}, proofs.Walks.quartered-append}

-- The pairs of readings, with a run of some in a gap and without.
pub with_run : (front run back : List Timed)
    → followed (bare (front ++ (run ++ back))) ≡ followed (bare front) ++ (pairs_between (last_reading (bare front)) (bare run) (first_reading (bare back)) ++ followed (bare back))
with_run front run back =
    ap followed (map-append (λ (t : Timed). t.1) front (run ++ back) ∙ ap (λ rs. bare front ++ rs) (map-append (λ (t : Timed). t.1) run back))
    ∙ followed_cut (bare front) (bare run) (bare back)

-- Rows of pairs, with some between others.
pub moved_in : (period : Periods) (d : Direction) (a x b : List Pair) (rest : List Flowed)
    → rows_of (quartered period d (a ++ (x ++ b)) ++ rest) ≡ rows_of (quartered period d x ++ (quartered period d (a ++ b) ++ rest))
moved_in period d a x b rest =
    let q = quartered period d in
    made_alike (q (a ++ (x ++ b)) ++ rest) (q x ++ (q (a ++ b) ++ rest)) (λ measure.
    let parts = λ (ps qs : List Pair). ap (sum_by measure) (quartered-append period d ps qs) ∙ sum_by-append measure (q ps) (q qs) in
    omega (arith, sum_by-append measure (q (a ++ (x ++ b))) rest, parts a (x ++ b), parts x b, sum_by-append measure (q x) (q (a ++ b) ++ rest), sum_by-append measure (q (a ++ b)) rest, parts a b))

pub followed_fewer : (r : MeterReading) (rs : List MeterReading) → length (followed (r ∷ rs)) ≡ length rs
followed_fewer r [] = refl
followed_fewer r (s ∷ rs) = let rest = followed_fewer s rs in omega (arith, rest)

-- A little more of it.
pub few_more : (most more : ℕ) (d : Direction) (e f : Energy) (rest : List Flowed) → AreFew most d e rest
    → f.up ≤ e.up + greatest_reading * more → f.down ≤ e.down + greatest_reading * more → AreFew (most + more) d f rest
few_more most more d e f rest few up down = record { up = λ k. grind (arith, few.up k, up); down = λ k. grind (arith, few.down k, down) }

-- There is room for pairs beside these.
pub has_room : (period : Periods) (d : Direction) (ps : List Pair) (rest : List Flowed) (n most : ℕ) (t : Table)
    → t.rows ≡ rows_of (quartered period d ps ++ rest) → length ps + length rest + n ≤ t.capacity → t.capacity ≤ most_readings
    → AreFew most d (energy_over ps) rest → most + n ≤ 2 * most_readings → HasRoom n t
has_room period d ps rest n most t rows room few_rows few small =
    let mine = quartered period d ps in (
      mine ++ rest,
      record {
        rows = rows;
        room = omega (arith, room, length-append mine rest, long period d ps);
        up = λ k. omega (arith, up_append k mine rest, up_quartered k period d ps, few.up k, small);
        down = λ k. omega (arith, down_append k mine rest, down_quartered k period d ps, few.down k, small);
        few = few_rows;
      },
    )

-- Each of the second is above all of the first.
abbrev pub AreOver : List Timed → List Timed → Type 0
AreOver ts xs = AllByRecursion (λ x. AreBelow x.0 ts) xs

-- Each of the first is below all of the second.
abbrev pub AreInFront : List Timed → List Timed → Type 0
AreInFront xs us = AllByRecursion (λ x. AreAbove x.0 us) xs

-- One that is behind all of a front.
put-under : (x : Timed) (ts us : List Timed) → AreBelow x.0 ts → put_in_time at x (ts ++ us) ≡ ts ++ put_in_time at x us
put-under x [] us h = refl
put-under x (t ∷ ts) us h = put-behind at x t (ts ++ us) h.0 ∙ ap (λ l. t ∷ l) (put-under x ts us h.1)

-- One that is in front of all.
put-over : (x : Timed) (us : List Timed) → AreAbove x.0 us → put_in_time at x us ≡ x ∷ us
put-over x [] h = refl
put-over x (u ∷ us) h = put-front at x u us (let a = h.0 in omega (arith, a))

-- One that is in front of all of a back.
put-before : (x : Timed) (ts us : List Timed) → AreAbove x.0 us → put_in_time at x (ts ++ us) ≡ put_in_time at x ts ++ us
put-before x [] us h = put-over x us h
put-before x (t ∷ ts) us h = grind (arith, nat_tests, put-before x ts us h)

pub put_each-under : (xs ts us : List Timed) → AreOver ts xs → put_each xs (ts ++ us) ≡ ts ++ put_each xs us
put_each-under [] ts us h = refl
put_each-under (x ∷ xs) ts us h = ap (put_each xs) (put-under x ts us h.0) ∙ put_each-under xs ts (put_in_time at x us) h.1

pub put_each-before : (xs ts us : List Timed) → AreInFront xs us → put_each xs (ts ++ us) ≡ put_each xs ts ++ us
put_each-before [] ts us h = refl
put_each-before (x ∷ xs) ts us h = ap (put_each xs) (put-before x ts us h.0) ∙ put_each-before xs (put_in_time at x ts) us h.1

pub put_each-append : (xs ys ts : List Timed) → put_each (xs ++ ys) ts ≡ put_each ys (put_each xs ts)
put_each-append [] ys ts = refl
put_each-append (x ∷ xs) ys ts = put_each-append xs ys (put_in_time at x ts)

pub over-one : (x : Timed) (xs : List Timed) → AreAbove x.0 xs → AreOver (x ∷ []) xs
over-one x [] h = tt
over-one x (y ∷ ys) h = ((h.0, tt), over-one x ys h.1)

-- Several that rise, in front of all.
pub put_each-row : (xs us : List Timed) → AreRising xs → AreInFront xs us → put_each xs us ≡ xs ++ us
put_each-row [] us up h = refl
put_each-row (x ∷ xs) us up h = ap (put_each xs) (put-over x us h.0) ∙ put_each-under xs (x ∷ []) us (over-one x xs up.0) ∙ ap (λ l. x ∷ l) (put_each-row xs us up.1 h.1)

-- A front of what rises is in front of the rest.
pub ranked-apart : (ts us : List Timed) → AreRising (ts ++ us) → AreInFront ts us
ranked-apart [] us h = tt
ranked-apart (t ∷ ts) us h = ((above_parts t.0 ts us h.0).1, ranked-apart ts us h.1)

-- Those in front of a rank are below it, and those from it on are not.
pub in_front-under : (k : ℕ) (ts : List Timed) → AreBelow k (in_front k ts)
in_front-under k [] = tt
in_front-under k (t ∷ ts) = grind (arith, nat_tests, in_front-under k ts)

pub in_front-append : (k : ℕ) (ts us : List Timed) → in_front k (ts ++ us) ≡ in_front k ts ++ in_front k us
in_front-append k ts us = filter-append (λ t. nat_lt t.0 k) ts us

-- The first readings that fit, and those beyond.
pub fitting-beyond : (a : Option Timed) (xs : List Timed) → fitting a xs ++ beyond a xs ≡ xs
fitting-beyond a [] = refl
fitting-beyond a (x ∷ xs) = grind (arith, fitting-beyond a xs)

-- All that fit are in front of a row that begins there.
pub fitting-front : (us xs : List Timed) → AreRising us → AreInFront (fitting (first_of us) xs) us
fitting-front [] [] up = tt
fitting-front [] (x ∷ xs) up = (tt, fitting-front [] xs up)
fitting-front (u ∷ us) [] up = tt
fitting-front (u ∷ us) (x ∷ xs) up = grind (arith, nat_tests, fitting-front (u ∷ us) xs up, above_less x.0 u.0 us)

-- A run in the gap between a front and a back: the front's last reading and the back's first do not pass a test that
-- the run does.
abbrev pub LastFails : (Timed → Bool) → List Timed → Type 0
LastFails own xs = IfSome (last_of xs) (λ x. own x ≡ false)

abbrev pub FirstFails : (Timed → Bool) → List Timed → Type 0
FirstFails own xs = IfSome (first_of xs) (λ x. own x ≡ false)

module _ (own : Timed → Bool) where
  pub foreign_last : (xs : List Timed) → AreForeign own xs → LastFails own xs
  foreign_last [] h = tt
  foreign_last (x ∷ []) h = h.0
  foreign_last (x ∷ y ∷ xs) h = subst (λ o. IfSome o (λ t. own t ≡ false)) (sym (last_cons x y xs)) (foreign_last (y ∷ xs) h.1)

  pub foreign_first : (xs : List Timed) → AreForeign own xs → FirstFails own xs
  foreign_first [] h = tt
  foreign_first (x ∷ xs) h = h.0

  pub foreign_parts : (xs ys : List Timed) → AreForeign own (xs ++ ys) → AreForeign own xs × AreForeign own ys
  foreign_parts [] ys h = (tt, h)
  foreign_parts (x ∷ xs) ys h = let rest = foreign_parts xs ys h.1 in ((h.0, rest.0), rest.1)

  pub own_parts : (xs ys : List Timed) → AreOwn own (xs ++ ys) → AreOwn own xs × AreOwn own ys
  own_parts [] ys h = (tt, h)
  own_parts (x ∷ xs) ys h = let rest = own_parts xs ys h.1 in ((h.0, rest.0), rest.1)

  -- the run ends at what follows
  run_ends : (xs back : List Timed) → AreOwn own xs → FirstFails own back → runs_behind true own (xs ++ back) ≡ runs_behind false own back
  run_ends [] [] mine h = refl
  run_ends [] (y ∷ ys) mine h = runs_foreign own true y ys h ∙ sym (runs_foreign own false y ys h)
  run_ends (x ∷ xs) back mine h = let one = runs_own own true x (xs ++ back) mine.0 in let rest = run_ends xs back mine.1 h in omega (arith, one, rest)

  front_runs : (b : Bool) (x : Timed) (front ys zs : List Timed) → LastFails own (x ∷ front)
      → runs_behind false own ys ≡ runs_behind false own zs + 1
      → runs_behind b own (x ∷ (front ++ ys)) ≡ runs_behind b own (x ∷ (front ++ zs)) + 1
  front_runs b x [] ys zs fails one = runs_foreign own b x ys fails ∙ one ∙ ap (λ n. n + 1) (sym (runs_foreign own b x zs fails))
  front_runs b x (y ∷ front) ys zs fails one =
      let rest = front_runs (own x) y front ys zs (subst (λ o. IfSome o (λ t. own t ≡ false)) (last_cons x y front) fails) one in
      omega (arith, rest)

  -- there is one run more
  pub one_run_more : (front : List Timed) (x : Timed) (xs back : List Timed) → LastFails own front → AreOwn own (x ∷ xs)
      → FirstFails own back → runs own (front ++ ((x ∷ xs) ++ back)) ≡ runs own (front ++ back) + 1
  one_run_more [] x xs back fails mine first = omega (arith, runs_own own false x (xs ++ back) mine.0, run_ends xs back mine.1 first)
  one_run_more (y ∷ front) x xs back fails mine first =
      front_runs false y front ((x ∷ xs) ++ back) back fails (omega (arith, runs_own own false x (xs ++ back) mine.0, run_ends xs back mine.1 first))

-- The last reading, without its rank.
pub last_bare : (ts : List Timed) → bare_one (last_of ts) ≡ last_reading (bare ts)
last_bare ts = sym (slice_get-map (λ (t : Timed). t.1) ts (length ts - 1)) ∙ ap (λ n. slice_get (bare ts) (n - 1)) (sym (length-map ts (λ (t : Timed). t.1)))

pub first_bare : (ts : List Timed) → bare_one (first_of ts) ≡ first_reading (bare ts)
first_bare [] = refl
first_bare (t ∷ ts) = refl

pub last-append : (xs ys : List Timed) (y : Timed) → last_of (xs ++ y ∷ ys) ≡ last_of (y ∷ ys)
last-append [] ys y = refl
last-append (x ∷ []) ys y = last_cons x y ys
last-append (x ∷ z ∷ xs) ys y = last_cons x z (xs ++ y ∷ ys) ∙ last-append (z ∷ xs) ys y
