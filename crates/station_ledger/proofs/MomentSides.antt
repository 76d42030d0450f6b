-- One live event that comes or goes, its readings by rank: an index with them, and its pairs of each direction beside the
-- others of the station.
use Rattle.std.{proofs.Common.{◌≡◌, ℕ, ◌+◌, ◌*◌, ◌≤◌, Bool, true, false, cond, not, ◌&&◌, List, [], ◌∷◌, ◌++◌, length, map, refl, sym, ap, subst, ◌∙◌, arith, length-append}, specs.List.{AllByRecursion, filter, flat_map, list_any, sum_by}, specs.Str.bytes_eq, proofs.lemmas.List.length-map, proofs.lemmas.List.Sums.sum_by-append}
use Rattle.energy_flow.specs.Flow.{Energy, plus}
use Rattle.event_chain.specs.Chains.{Chained}
use Rattle.ledger_model.{proofs.EnergyLemmas.same_energy, specs.Periods.Periods, specs.declared.order.Order.TheVariants.Moment, specs.declared.reading.Direction.Direction, specs.declared.reading.Direction.TheVariants.{Import, Export}, specs.Board.Flowed, specs.ByDirection.flows_toward, specs.Content.{Entry, live, transactions_of}, specs.Deltas.{before_key, behind_key}, specs.Energy.{Pair, all_pairs_by, difference, energy_by, energy_of_by, energy_over, followed, pairs_by, quarter_of}, specs.Event.{MeterReading, toward}, specs.InTime.{in_time, runs, runs_behind}, specs.Key.KeyName, specs.Ranges.{greatest_reading, most_event_readings, most_readings}, specs.ReadingOrder.{is_own, numbered_by}, proofs.Callers.{IsEntry, few_toward, own_numbered, station_moves, sum_by-flat_map, sum_by-map, transaction_moves}, proofs.SumsByTransaction.sum_by_one, proofs.TransactionLemmas.any-map}
use Rattle.quarter_table.{specs.Pairs.rows_of, specs.Table.Table, proofs.Made.made_alike}
use Rattle.reading_index.{specs.Ranks.{number_of, owner}, specs.Timed.{Timed, TimedReadings, AreRising, owned}}
use Rattle.station_ledger.{specs.declared.by_moment.ByMoment.ByMoment, specs.declared.by_moment.Moved.Moved, specs.ByMoment.{live_readings, listed_of, put_each, ranked, ranked_from, take_each, timed_of}, specs.Exchange.IsMove, specs.Quarters.{IsWork, quartered, readings_at}, specs.declared.pairs.Way.Way, specs.declared.pairs.Way.TheVariants.{Coming, Going}, specs.Runs.{AreApart, AreExchanged, AreFew, AreMoved, AreToMove, CanMove, HaveMoved, HavePlace, by_way, came_of, gone_of, moved_each, moved_index, own_timed, pairs_among, side}, specs.Spent.most_by_moment, proofs.Bounded.{both_ways, few_pairs, few_station, part_le, IsUpTo}, proofs.MomentIndexes.{AreOf, fewer-take_each, own_puttable, owned-put_each, owned-put_each_else, owned-take_each, owned-take_each_else, ranked-put_each, ranked-take_each}, proofs.MomentLists.{bare-timed, come, foreign, go, it_in_range, length-listed, listed-owned, listed-own, listed-ranked, listed_each, live_readings-more, numbered-timed, stand_foreign, timed-ranked}, proofs.MomentRanks.{length-put_each, owner-apart}, proofs.MomentWalks.followed_fewer, proofs.Moved.none_live, proofs.Rows.{long, other, up_append, down_append, up_quartered, down_quartered}, proofs.Trades.ones}

-- The pairs of a direction of the transactions other than one.
abbrev pub others_in : Direction → List ℕ → List Entry → List Pair
others_in d tx es = flat_map (λ u. pairs_by Moment d u es) (filter (λ u. not (bytes_eq tx u)) (transactions_of (live es)))

-- What is in the periods beside pairs of a direction: others of it, and those of the other direction.
abbrev pub rest_of : Periods → Direction → List Pair → List Pair → List Flowed
rest_of period d ps others = quartered period d others ++ quartered period (other d) ps

-- Some pairs add up as two parts do.
abbrev IsSplit : List Pair → List Pair → List Pair → Type 0
IsSplit all mine others = (f : Pair → ℕ) → sum_by f all ≡ sum_by f mine + sum_by f others

split_quarters : (period : Periods) (d : Direction) (all mine others : List Pair) → IsSplit all mine others
    → (measure : Flowed → ℕ) → sum_by measure (quartered period d all) ≡ sum_by measure (quartered period d mine) + sum_by measure (quartered period d others)
split_quarters period d all mine others split measure =
    let shown : Pair → Flowed = λ p. (quarter_of period p, flows_toward d (difference p)) in
    omega (arith, sum_by-map measure shown all, sum_by-map measure shown mine, sum_by-map measure shown others, split (λ p. measure (shown p)))

-- The pairs of a direction, and those of the other.
abbrev pub two_ways : Periods → Direction → List Pair → List Pair → List Flowed
two_ways period Import mine theirs = quartered period Import mine ++ quartered period Export theirs
two_ways period Export mine theirs = quartered period Import theirs ++ quartered period Export mine

beside : (period : Periods) (d : Direction) (mine theirs : List Pair) (measure : Flowed → ℕ)
    → sum_by measure (two_ways period d mine theirs) ≡ sum_by measure (quartered period d mine) + sum_by measure (quartered period (other d) theirs)
beside period Import mine theirs measure = sum_by-append measure (quartered period Import mine) (quartered period Export theirs)
beside period Export mine theirs measure = omega (arith, sum_by-append measure (quartered period Import theirs) (quartered period Export mine))

both_alike : (period : Periods) (d : Direction) (all mine others theirs : List Pair) → IsSplit all mine others
    → rows_of (two_ways period d all theirs) ≡ rows_of (quartered period d mine ++ rest_of period d theirs others)
both_alike period d all mine others theirs split =
    made_alike (two_ways period d all theirs) (quartered period d mine ++ rest_of period d theirs others) (λ measure.
    let one = sum_by-append measure (quartered period d mine) (rest_of period d theirs others) in
    let two = sum_by-append measure (quartered period d others) (quartered period (other d) theirs) in
    omega (arith, beside period d all theirs measure, split_quarters period d all mine others split measure, one, two))

few_beside : (period : Periods) (most : ℕ) (d : Direction) (mine others ps : List Pair)
    → (energy_over mine).up + (energy_over others).up ≤ greatest_reading * most
    → (energy_over mine).down + (energy_over others).down ≤ greatest_reading * most
    → IsUpTo (greatest_reading * most) (energy_over ps) → AreFew most d (energy_over mine) (rest_of period d ps others)
few_beside period most d mine others ps up down small =
    let a = quartered period d others in let b = quartered period (other d) ps in
    record {
      up = λ k. grind (arith, up, small.up, up_append k a b, up_quartered k period d others, up_quartered k period (other d) ps);
      down = λ k. grind (arith, down, small.down, down_append k a b, down_quartered k period d others, down_quartered k period (other d) ps);
    }

readings_few : (rs : List MeterReading) → length rs ≤ length (followed rs) + 1
readings_few [] = omega arith
readings_few (r ∷ rs) = omega (arith, followed_fewer r rs)

followed_grows : (rs ss : List MeterReading) → length rs ≤ length ss → length (followed rs) ≤ length (followed ss)
followed_grows [] ss le = omega arith
followed_grows (r ∷ rs) ss le = omega (arith, followed_fewer r rs, readings_few ss, le)

-- Runs by rank are runs of the numbers of events.
runs_shown : (seq : ℕ) (front : Bool) (ts : List Timed) → runs_behind front (own_timed seq) ts ≡ runs_behind front (is_own seq) (map (λ (t : Timed). (number_of t.0, t.1)) ts)
runs_shown seq front [] = refl
runs_shown seq front (t ∷ ts) = ap (λ n. cond {A = ℕ} (own_timed seq t && not front) 1 0 + n) (runs_shown seq (own_timed seq t) ts)

-- The pairs of a direction are those of a transaction and those of the others.
split_one : (d : Direction) (tx : List ℕ) (es : List Entry) → IsSplit (all_pairs_by Moment d es) (pairs_by Moment d tx es) (others_in d tx es)
split_one d tx es f =
    let g : List ℕ → ℕ = λ u. sum_by f (pairs_by Moment d u es) in
    let absent : list_any (bytes_eq tx) (map (λ (e : Entry). e.0.tx) (live es)) ≡ false → g tx ≡ 0 = λ none.
    ap (λ (xs : List Entry). sum_by f (followed (in_time (λ (r : MeterReading). r.moment) (flat_map (λ (e : Entry). toward d e.1.event.readings) xs))))
    (none_live tx es (sym (any-map tx (live es)) ∙ none)) in
    let whole = sum_by-flat_map f (λ u. pairs_by Moment d u es) (transactions_of (live es)) in
    let rest = sum_by-flat_map f (λ u. pairs_by Moment d u es) (filter (λ u. not (bytes_eq tx u)) (transactions_of (live es))) in
    omega (arith, whole, rest, sum_by_one g tx (map (λ (e : Entry). e.0.tx) (live es)) absent)

-- The directions of a slot have other owners.
pub sides_apart : (slot : ℕ) → owner slot Import ≡ owner slot Export → ⊥
sides_apart slot same = let e : Import ≡ Export = (owner-apart slot slot Import Export same).1 in cc

-- How long a list is once so many came or went.
abbrev pub IsLong : Way → ℕ → ℕ → ℕ → Type 0
IsLong Coming n old new = new ≡ old + n
IsLong Going n old new = new + n ≤ old

-- A live event that comes or goes, its readings under a slot.
module _ {way : Way} {less more : List Entry} {chains : Chained} {key : KeyName} {b : ByMoment} {period : Periods} {start : Table}
    (is : IsMove way less more chains key b period start) (slot : ℕ) where
  abbrev e : Entry
  e = (key, is.event)

  -- the events before, and those then
  abbrev pub was : List Entry
  was = by_way way less more

  abbrev pub will : List Entry
  will = by_way way more less

  -- its readings, those of its transaction without it, and all
  abbrev pub its : Direction → List Timed
  its d = put_each (ranked slot d e) []

  abbrev pub standing : Direction → List Timed
  standing d = timed_of slot d key.tx less

  abbrev pub together : Direction → List Timed
  together d = put_each (its d) (standing d)

  abbrev others : Direction → List Pair
  others d = others_in d key.tx less

  abbrev all : Direction → List Entry → List Pair
  all d es = all_pairs_by Moment d es

  it : IsEntry e
  it = it_in_range slot Import less more e is.one is.large.in_range

  listed_is : (d : Direction) → listed_of slot d chains key ≡ its d
  listed_is d = ap (λ rs. put_each (ranked_from (owner slot d) key.seq 0 rs) []) (is.readings d)

  pub few_listed : (d : Direction) → length (readings_at d chains key) ≤ most_event_readings
  few_listed d = omega (arith, ap length (is.readings d), few_toward d is.event.event.readings, is.few)

  up : (d : Direction) → AreRising (its d)
  up d = listed-ranked slot d e it

  mine : (d : Direction) → AreOf (owner slot d) (its d)
  mine d = listed-owned slot d e it

  own : (d : Direction) → AllByRecursion (λ t. own_timed key.seq t ≡ true) (its d)
  own d = listed_each slot d e it

  others_foreign : (d : Direction) → AllByRecursion (λ t. own_timed key.seq t ≡ false) (standing d)
  others_foreign d = stand_foreign slot d less more e is.one is.large.in_range

  together_is : (d : Direction) → together d ≡ timed_of slot d key.tx more
  together_is d = come slot d less more e is.one is.large.in_range

  -- how many they are
  pub long_both : length (its Import) + length (its Export) ≡ length is.event.event.readings
  long_both = omega (arith, length-listed slot Import e, length-listed slot Export e, both_ways is.event.event.readings)

  pub room_more : live_readings more ≤ chains.limits.readings
  room_more = omega (arith, part_le (λ (f : Entry). length f.1.event.readings) (λ f. not f.1.voided) more, is.large.readings_within)

  pub grown : live_readings more ≡ live_readings less + length is.event.event.readings
  grown = live_readings-more less more (before_key key less) e (behind_key key less) is.one

  pairs_standing : (d : Direction) → pairs_among (standing d) ≡ pairs_by Moment d key.tx less
  pairs_standing d = ap followed (bare-timed slot d key.tx less is.small.in_range (is.small.rising key.tx))

  pairs_together : (d : Direction) → pairs_among (together d) ≡ pairs_by Moment d key.tx more
  pairs_together d = ap pairs_among (together_is d) ∙ ap followed (bare-timed slot d key.tx more is.large.in_range (is.large.rising key.tx))

  split_less : (d : Direction) → IsSplit (all d less) (pairs_among (standing d)) (others d)
  split_less d f = omega (arith, split_one d key.tx less f, ap (sum_by f) (pairs_standing d))

  split_more : (d : Direction) → IsSplit (all d more) (pairs_among (together d)) (others d)
  split_more d f = omega (arith, split_one d key.tx less f, ap (sum_by f) (pairs_together d), station_moves d less more e is.one Moment f, transaction_moves d less more e is.one Moment f)

  long_together : (d : Direction) → length (map (λ (t : Timed). t.1) (together d)) ≡ length (standing d) + length (its d)
  long_together d = omega (arith, length-map (together d) (λ (t : Timed). t.1), length-put_each (its d) (standing d))

  all_long : (d : Direction) → length (all d more) ≡ length (pairs_among (together d)) + length (others d)
  all_long d = omega (arith, split_more d (λ p. 1), ones (all d more), ones (pairs_among (together d)), ones (others d))

  all_grow : (d : Direction) → length (all d less) ≤ length (all d more)
  all_grow d =
      let grows = followed_grows (map (λ (t : Timed). t.1) (standing d)) (map (λ (t : Timed). t.1) (together d)) (omega (arith, length-map (standing d) (λ (t : Timed). t.1), long_together d)) in
      omega (arith, split_less d (λ p. 1), ones (all d less), ones (pairs_among (standing d)), ones (others d), all_long d, grows)

  both_few : (d : Direction) → length (all d more) + length (all (other d) more) ≤ chains.limits.readings
  both_few d = grind (arith, few_pairs Moment more, is.large.readings_within)

  -- the station's pairs of a direction: few, and small
  pub record IsSide (d : Direction) (es : List Entry) : Type 0 where
    count : length (all d es) ≤ length (all d more)
    sum : IsUpTo (greatest_reading * most_readings) (energy_over (all d es))

  -- and those of some readings of the transaction among them
  pub record AreParts (d : Direction) (ts : List Timed) (es : List Entry) : Type 0 where
    pairs : pairs_among ts ≡ pairs_by Moment d key.tx es
    split : IsSplit (all d es) (pairs_among ts) (others d)
    pub whole : IsSide d es

  -- then, and before its readings come or go
  pub parts_will : (w : Way) (d : Direction) → AreParts d (put_each (came_of w (its d)) (standing d)) (by_way w more less)
  parts_will Coming d = record {
    pairs = pairs_together d;
    split = split_more d;
    whole = record { count = omega arith; sum = few_station Moment d chains.limits more is.large };
  }
  parts_will Going d = record {
    pairs = pairs_standing d;
    split = split_less d;
    whole = record { count = all_grow d; sum = few_station Moment d chains.limits less is.small };
  }

  pub parts_was : (w : Way) (d : Direction) → AreParts d (put_each (gone_of w (its d)) (standing d)) (by_way w less more)
  parts_was Coming d = parts_will Going d
  parts_was Going d = parts_will Coming d

  -- an index with its readings of a direction put in, or taken out
  pub have_place : (w : Way) (d : Direction) (index : TimedReadings)
      → side slot d index ≡ timed_of slot d key.tx (by_way w less more)
      → (w ≡ Coming → length index.entries + length (its d) ≤ index.capacity) → HavePlace w (its d) index
  have_place Coming d index at room =
      (room refl, own_puttable (owner slot d) key.seq (its d) index.entries (up d) (mine d) (own d) (subst (AllByRecursion (λ r. own_timed key.seq r ≡ false)) (sym at) (others_foreign d)))
  have_place Going d index at room = tt

  pub record IsNext (w : Way) (d : Direction) (index next : TimedReadings) : Type 0 where
    pub rising : AreRising next.entries
    pub own : side slot d next ≡ timed_of slot d key.tx (by_way w more less)
    pub others : (o : ℕ) → (owner slot d ≡ o → ⊥) → owned o next.entries ≡ owned o index.entries
    pub long : IsLong w (length (its d)) (length index.entries) (length next.entries)
    bare : side slot d (by_way w index next) ≡ standing d

  next_index : (w : Way) (d : Direction) (index next : TimedReadings) → AreRising index.entries
      → side slot d index ≡ timed_of slot d key.tx (by_way w less more) → HavePlace w (its d) index
      → next.entries ≡ moved_each w (its d) index.entries → IsNext w d index next
  next_index Coming d index next rising at place entries = record {
    rising = subst AreRising (sym entries) (ranked-put_each (its d) index.entries place.1 rising);
    own = ap (owned (owner slot d)) entries ∙ owned-put_each (owner slot d) (its d) index.entries place.1 rising (mine d) ∙ ap (put_each (its d)) at ∙ together_is d;
    others = λ o apart. ap (owned o) entries ∙ owned-put_each_else (owner slot d) o (its d) index.entries apart place.1 rising (mine d);
    long = ap length entries ∙ length-put_each (its d) index.entries;
    bare = at;
  }
  next_index Going d index next rising at place entries =
      let left = ap (owned (owner slot d)) entries ∙ owned-take_each (owner slot d) (its d) index.entries ∙ ap (take_each (its d)) at ∙ go slot d less more e is.one is.large.in_range in
      let fewer = fewer-take_each (owner slot d) key.seq (its d) (standing d) index.entries (up d) (mine d) (own d) (others_foreign d) (at ∙ sym (together_is d)) in
      record {
        rising = subst AreRising (sym entries) (ranked-take_each (its d) index.entries rising);
        own = left;
        others = λ o apart. ap (owned o) entries ∙ owned-take_each_else (owner slot d) o (its d) index.entries apart (mine d);
        long = omega (arith, fewer, ap length entries);
        bare = left;
      }

  -- its readings of a direction are to be moved in an index, and their pairs in the periods, which have those of the other
  -- direction of these events
  pub record IsStep (d : Direction) (theirs : List Entry) (index : TimedReadings) (t : Table) : Type 0 where
    pub rising : AreRising index.entries
    pub at : side slot d index ≡ timed_of slot d key.tx was
    pub rows : t.rows ≡ rows_of (two_ways period d (all d was) (all (other d) theirs))
    pub room : t.capacity ≡ chains.limits.readings
    pub beyond : IsSide (other d) theirs
    pub place : HavePlace way (its d) index

  -- the energies of a direction that went and came, of the station and of the transaction
  pub record IsSummed (d : Direction) (less_of more_of : Energy) : Type 0 where
    pub station : plus (energy_by Moment d will) less_of ≡ plus (energy_by Moment d was) more_of
    pub own : plus (energy_of_by Moment d key.tx will) less_of ≡ plus (energy_of_by Moment d key.tx was) more_of
    pub up_few : more_of.up ≤ greatest_reading * most_readings
    pub down_few : more_of.down ≤ greatest_reading * most_readings

  module _ {d : Direction} {theirs : List Entry} {index : TimedReadings} {t : Table} (step : IsStep d theirs index t) where
    abbrev rest : List Flowed
    rest = rest_of period d (all (other d) theirs) (others d)

    apart : AreApart (owner slot d) key.seq period d (its d) (standing d) (pairs_among (put_each (gone_of way (its d)) (standing d))) t rest
    apart =
        let parts = parts_was way d in let split = parts.split in
        let n = length-append (quartered period d (others d)) (quartered period (other d) (all (other d) theirs)) in
        let readings_long = readings_few (map (λ (x : Timed). x.1) (together d)) in
        record {
          owned_by = mine d;
          own = listed-own slot d e it;
          foreign = foreign slot d less more e is.one is.large.in_range;
          rising = up d;
          sorted = timed-ranked slot d key.tx less is.small.in_range (is.small.rising key.tx);
          small = omega (arith, length-listed slot d e, is.few, few_toward d is.event.event.readings);
          rows = step.rows ∙ both_alike period d (all d was) (pairs_among (put_each (gone_of way (its d)) (standing d))) (others d) (all (other d) theirs) split;
          room = omega (arith, n, long period d (others d), long period (other d) (all (other d) theirs), readings_long, long_together d, all_long d, both_few d, step.beyond.count, step.room);
          few_rows = omega (arith, step.room, is.large.most_readings_within);
          few = few_beside period most_readings d (pairs_among (put_each (gone_of way (its d)) (standing d))) (others d) (all (other d) theirs)
              (omega (arith, split (λ p. (difference p).up), parts.whole.sum.up)) (omega (arith, split (λ p. (difference p).down), parts.whole.sum.down)) step.beyond.sum;
        }

    to_move : (next : TimedReadings) → next.entries ≡ moved_each way (its d) index.entries → AreToMove way (owner slot d) key.seq period d (its d) (by_way way index next) t rest
    to_move next entries =
        subst (λ l. AreApart (owner slot d) key.seq period d (its d) l (pairs_among (put_each (gone_of way (its d)) l)) t rest)
        (sym (next_index way d index next step.rising step.at step.place entries).bare) apart

    pub can_move : {l : List Timed} → l ≡ listed_of slot d chains key → CanMove way period d l index t
    can_move l_is = subst (λ l. CanMove way period d l index t) (sym (l_is ∙ listed_is d))
        (record { o = owner slot d; seq = key.seq; rest = rest; apart = to_move (moved_index way (its d) index) refl; place = step.place })

    module _ {l : List Timed} (l_is : l ≡ listed_of slot d chains key) {next : TimedReadings} {u : Table} {w v : ℕ} {m : Moved} (move : AreMoved way period d l index next t u w v m) where
      moved : AreMoved way period d (its d) index next t u w v m
      moved = subst (λ l. AreMoved way period d l index next t u w v m) (l_is ∙ listed_is d) move

      pub then : IsNext way d index next
      then = next_index way d index next step.rising step.at step.place moved.entries

      have : HaveMoved way (owner slot d) key.seq period d (its d) (by_way way index next) rest u w v m
      have = moved.moved (owner slot d) key.seq rest (to_move next moved.entries)

      exchanged : AreExchanged period d (pairs_among (put_each (gone_of way (its d)) (standing d))) (pairs_among (put_each (came_of way (its d)) (standing d))) rest u m
      exchanged = subst (λ l. AreExchanged period d (pairs_among (put_each (gone_of way (its d)) l)) (pairs_among (put_each (came_of way (its d)) l)) rest u m) then.bare have.moved

      pub rows_next : u.rows ≡ rows_of (two_ways period d (all d will) (all (other d) theirs))
      rows_next = exchanged.rows ∙ sym (both_alike period d (all d will) (pairs_among (put_each (came_of way (its d)) (standing d))) (others d) (all (other d) theirs) (parts_will way d).split)

      -- what came and went of the energies
      pub sums_moved : IsSummed d m.less m.more
      sums_moved =
          let rise : Pair → ℕ = λ p. (difference p).up in let fall : Pair → ℕ = λ p. (difference p).down in
          let old = parts_was way d in let new = parts_will way d in record {
            station = same_energy _ _ (omega (arith, exchanged.up, old.split rise, new.split rise)) (omega (arith, exchanged.down, old.split fall, new.split fall));
            own = same_energy _ _ (omega (arith, exchanged.up, ap (sum_by rise) old.pairs, ap (sum_by rise) new.pairs))
                (omega (arith, exchanged.down, ap (sum_by fall) old.pairs, ap (sum_by fall) new.pairs));
            up_few = omega (arith, exchanged.more_up);
            down_few = omega (arith, exchanged.more_down);
          }

      -- the work of a direction, by the runs of the order
      pub work_next : IsWork (most_by_moment d key more) w v
      work_next =
          let work = subst (λ l. IsWork (length (its d) + 2 * runs (own_timed key.seq) (put_each (its d) l)) w v) then.bare have.work in
          let r : runs (own_timed key.seq) (together d) ≡ runs (is_own key.seq) (numbered_by Moment d key.tx more) =
          ap (runs (own_timed key.seq)) (together_is d) ∙ runs_shown key.seq false (timed_of slot d key.tx more)
          ∙ ap (runs (is_own key.seq)) (numbered-timed slot d key.tx more is.large.in_range (is.large.rising key.tx)) in
          record { bound = omega (arith, work.bound, own_numbered d less more e is.one Moment, length-listed slot d e, r); grows = work.grows }
