-- The readings of an event listed by rank, one after the other.
use Rattle.std.{proofs.Common.{◌≡◌, ℕ, zero, suc, ◌+◌, ◌^◌, ◌<◌, ◌≤◌, List, [], ◌∷◌, ◌++◌, length, take, drop, get_or, refl, sym, ap, ◌∙◌, arith}, specs.List.AllByRecursion, proofs.lemmas.Bool.Decides.nat_tests, proofs.lemmas.List.take-append-drop}
use Rattle.ledger_model.{specs.Event.MeterReading, specs.InTime.put_in_time, specs.Ranges.most_event_readings, proofs.Callers.AreFrom}
use Rattle.reading_index.{specs.Ranks.rank, specs.Timed.{Timed, from_on, in_front, AreAbove, AreRising, AreBelow}}
use Rattle.station_ledger.{specs.ByMoment.ranked_from, proofs.Each.each_put, proofs.MomentLists.{from_after, none_has, AreApart, IsAfter}, proofs.MomentRanks.{at, length-put, put-ranked}}

-- Where those in front of a place are below a rank and the others are not, the place is the rank's.
cut : (k : ℕ) (front back : List Timed) → AreBelow k front → AreFrom at k back → (front ≡ in_front k (front ++ back)) × (back ≡ from_on k (front ++ back))
cut k [] [] under from = (refl, refl)
cut k [] (t ∷ ts) under from = grind (arith, nat_tests, cut k [] ts tt from.1)
cut k (t ∷ ts) back under from = grind (arith, nat_tests, cut k ts back under.1 from)

pub placed : (k n : ℕ) (ts : List Timed) → AreBelow k (take n ts) → AreFrom at k (drop n ts) → (take n ts ≡ in_front k ts) × (drop n ts ≡ from_on k ts)
placed k n ts under from =
    let parts = cut k (take n ts) (drop n ts) under from in
    (parts.0 ∙ ap (in_front k) (take-append-drop n ts), parts.1 ∙ ap (from_on k) (take-append-drop n ts))

behind_at : (n p : ℕ) (ts : List Timed) (d : Timed) → AreAbove n ts → p < length ts → n < (get_or ts p d).0
behind_at n p [] d behind lt = absurd (omega (arith, lt))
behind_at n zero (t ∷ ts) d behind lt = behind.0
behind_at n (suc p) (t ∷ ts) d behind lt = behind_at n p ts d behind.1 (omega (arith, lt))

-- Ranks rise, so that all in front of one that is below another are.
pub under_at : (k p : ℕ) (ts : List Timed) (d : Timed) → AreRising ts → p < length ts → (get_or ts p d).0 < k → AreBelow k (take (suc p) ts)
under_at k p [] d up lt below = absurd (omega (arith, lt))
under_at k zero (t ∷ ts) d up lt below = (below, tt)
under_at k (suc p) (t ∷ ts) d up lt below =
    let on = behind_at t.0 p ts d up.0 (omega (arith, lt)) in
    (omega (arith, on, below), under_at k p ts d up.1 (omega (arith, lt)) below)

-- A list by rank, and the readings to come: their ranks are new.
pub record IsListing (o number place : ℕ) (left : List MeterReading) (listed : List Timed) (capacity : ℕ) : Type 0 where
  pub ranked : AreRising listed
  pub new : AllByRecursion (λ (x : Timed). AreApart x.0 listed) (ranked_from o number place left)
  pub few : length listed + length left ≤ most_event_readings
  pub places : place + length left ≤ most_event_readings
  pub room : most_event_readings ≤ capacity

all_new : (us : List Timed) → AllByRecursion (λ (x : Timed). AreApart x.0 []) us
all_new [] = tt
all_new (u ∷ us) = (tt, all_new us)

pub listing-start : (o number : ℕ) (left : List MeterReading) (capacity : ℕ) → length left ≤ most_event_readings → most_event_readings ≤ capacity → IsListing o number 0 left [] capacity
listing-start o number left capacity few room = record {
  ranked = tt;
  new = all_new (ranked_from o number 0 left);
  few = omega (arith, few);
  places = omega (arith, few);
  room = room;
}

still_new : (x : Timed) (ts us : List Timed) → AllByRecursion (IsAfter x) us → AllByRecursion (λ (u : Timed). AreApart u.0 ts) us
    → AllByRecursion (λ (u : Timed). AreApart u.0 (put_in_time at x ts)) us
still_new x ts [] after new = tt
still_new x ts (u ∷ us) after new =
    let behind : IsAfter x u = after.0 in
    (each_put (λ t. t.0 ≡ u.0 → ⊥) at x ts (λ same. behind.apart (sym same)) new.0, still_new x ts us after.1 new.1)

pub listing-more : (o number place : ℕ) (r : MeterReading) (left : List MeterReading) (listed : List Timed) (capacity more : ℕ)
    → number < 2 ^ 31 → capacity ≤ more → IsListing o number place (r ∷ left) listed capacity
    → IsListing o number (place + 1) left (put_in_time at (rank o r.moment number place, r) listed) more
listing-more o number place r left listed capacity more small le was =
    let x : Timed = (rank o r.moment number place, r) in
    let long = length-put x listed in
    record {
      ranked = put-ranked x listed was.ranked (none_has x.0 listed was.new.0);
      new = still_new x listed (ranked_from o number (place + 1) left)
          (from_after o number place number (place + 1) r left small (omega (arith, was.places)) small (omega (arith, was.places)) (omega arith))
          was.new.1;
      few = omega (arith, was.few, long);
      places = omega (arith, was.places);
      room = omega (arith, was.room, le);
    }
