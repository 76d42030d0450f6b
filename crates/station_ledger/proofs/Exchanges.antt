-- A live event that comes or goes where the readings are by sequence, and where they are by moment.
use Rattle.energy_flow.specs.Flow.{Energy}
use Rattle.std.{proofs.Common.{arith, ◌≡◌, ◌≤◌, ℕ, Bool, true, false, List, [], ◌∷◌, ◌++◌, Option, Some, None, IfSome, refl, sym, ap, subst, ◌∙◌}, specs.List.filter, specs.Ordering.is_lt, specs.declared.cmp.Ordering.TheVariants.Less, proofs.lemmas.List.append-nil, proofs.lemmas.List.Elements.filter-append}
use Rattle.ledger_model.{specs.declared.by_direction.ByDirection.ByDirection, specs.declared.order.Order.TheVariants.{Moment, Sequence}, specs.declared.reading.Direction.TheVariants.{Import, Export}, specs.Ranges.most_readings, specs.Content.{Entry, Stored, live}, specs.Deltas.{IsOneMore, before_key, behind_key}, specs.Key.{KeyName, key_cmp}, specs.Limits.Bounds, proofs.Callers.turned}
use Rattle.event_chain.{specs.Chains.{Chained, stored}, specs.Room.readings_under, specs.declared.around.Sides.Sides}
use Rattle.quarter_table.specs.Table.{Table}
use Rattle.station_ledger.{specs.declared.by_moment.ByMoment.ByMoment, specs.declared.sums.Sums.Sums, specs.declared.pairs.Way.Way, specs.declared.pairs.Way.TheVariants.{Coming, Going}, specs.ByMoment.AreByMoment, specs.Exchange.IsMove, specs.Moved.IsExchanged, specs.Quarters.{DidMoveBoth, HasRoom, HoldsBoth, IsWork, both_length}, specs.Spent.{most_at, most_turned}, specs.Runs.by_way, specs.Sums.{AreAllowed, AreQuarterRows, AreTurning, IsTurning, order_in, order_of}, proofs.Changes.{came_sides, gone_sides, turned_pairs}, proofs.Trades.{IsChange, came_room, exchanged, gone_held, table_filled}}

-- what passes a test passes it again
again : {X : Type 0} (p : X → Bool) (xs : List X) → filter p (filter p xs) ≡ filter p xs
again p [] = refl
again p (x ∷ xs) = grind (arith, again p xs)

-- and not one that it rules out
ruled_out : {X : Type 0} (p q : X → Bool) → ((x : X) → p x ≡ true → q x ≡ false) → (xs : List X) → filter q (filter p xs) ≡ []
ruled_out p q apart [] = refl
ruled_out p q apart (x ∷ xs) = grind (arith, ruled_out p q apart xs, apart x)

-- no key is both in front of another and behind it
one_side : (a b : KeyName) → is_lt (key_cmp a b) ≡ true → is_lt (key_cmp b a) ≡ false
one_side a b h = grind (arith, h, turned a b Less)

-- a live event that came or went, by the keys of the others
other_keys : (way : Way) (es new : List Entry) (key : KeyName) (s : Stored) → IsOneMore (by_way way es new) (by_way way new es) (before_key key es) (key, s) (behind_key key es)
    → IsOneMore (by_way way es new) (by_way way new es) (before_key key (by_way way es new)) (key, s) (behind_key key (by_way way es new))
other_keys Coming es new key s one = one
other_keys Going all less key s one =
    let p = λ (e : Entry). is_lt (key_cmp e.0 key) in let q = λ (e : Entry). is_lt (key_cmp key e.0) in
    let front : before_key key less ≡ before_key key all =
    ap (filter p) one.less_live ∙ filter-append p (before_key key all) (behind_key key all)
    ∙ (λ i. again p (live all) i ++ ruled_out q p (λ e. one_side key e.0) (live all) i) ∙ append-nil (before_key key all) in
    let back : behind_key key less ≡ behind_key key all =
    ap (filter q) one.less_live ∙ filter-append q (before_key key all) (behind_key key all) ∙ (λ i. ruled_out p q (λ e. one_side e.0 key) (live all) i ++ again q (live all) i) in
    let fore = sym front in let rear = sym back in
    record { less_live = one.less_live ∙ (λ i. fore i ++ rear i); more_live = one.more_live ∙ (λ i. fore i ++ (key, s) ∷ rear i) }

-- what holds of both holds of either
either : (way : Way) (P : List Entry → Type 0) {es fs : List Entry} → P es → P fs → P (by_way way es fs)
either Coming P first second = first
either Going P first second = second

-- the events before, by those without the event and those with it
pub were : (way : Way) (es new : List Entry) → by_way way (by_way way es new) (by_way way new es) ≡ es
were Coming es new = refl
were Going es new = refl

-- what is allowed and what the rows are, by what is known of the order
allowed_by : {limits : Bounds} {es : List Entry} (sums : Sums) {b : Option ByMoment} → sums.by_moment ≡ b → AreAllowed (order_in sums) limits es → AreAllowed (order_of b) limits es
allowed_by {limits = limits} {es = es} sums is h = subst (λ o. AreAllowed (order_of o) limits es) is h

rows_by : {limits : Bounds} {es : List Entry} (sums : Sums) {b : Option ByMoment} → sums.by_moment ≡ b
    → AreQuarterRows (order_in sums) limits es sums.period sums.quarters
    → AreQuarterRows (order_of b) limits es sums.period sums.quarters
rows_by {limits = limits} {es = es} sums is h = subst (λ o. AreQuarterRows (order_of o) limits es sums.period sums.quarters) is h

module _ {way : Way} {es : List Entry} {chains : Chained} {key : KeyName} {place : ByDirection Sides} {sums : Sums}
    (after : AreAllowed (order_in sums) chains.limits (stored chains)) (h : AreTurning way es chains key place sums) where
  -- an event comes to readings by moment, or goes from them
  pub turned_in_time : {b : ByMoment} → sums.by_moment ≡ Some b → IsMove way (by_way way es (stored chains)) (by_way way (stored chains) es) chains key b sums.period sums.quarters
  turned_in_time {b = b} is =
      let same = sym (were way es (stored chains)) in
      record {
        event = h.turning.event;
        one = other_keys way es (stored chains) key h.turning.event h.turning.one;
        now_are = were way (stored chains) es;
        readings = λ d. ap (readings_under d) h.turning.there;
        few = h.turning.few;
        small = either way (AreAllowed Moment chains.limits) (allowed_by sums is h.allowed) (allowed_by sums is after);
        large = either way (AreAllowed Moment chains.limits) (allowed_by sums is after) (allowed_by sums is h.allowed);
        timed = subst (λ l. AreByMoment chains.limits l b) same (subst (λ o. IfSome o (AreByMoment chains.limits es)) is h.summed.timed);
        rows = subst (λ l. AreQuarterRows Moment chains.limits l sums.period sums.quarters) same (rows_by sums is h.summed.by_quarter);
      }

  -- or to readings by sequence, and it is known which
  module _ {to : Way} (is : sums.by_moment ≡ None) (way_is : way ≡ to) where
    change : IsChange chains.limits key.tx es (stored chains) (gone_sides to place chains key) (came_sides to place chains key) (most_at chains key)
    change = turned_pairs refl (allowed_by sums is h.allowed) (allowed_by sums is after) to (subst (λ w. IsTurning w es chains key place) way_is h.turning)

    rows : AreQuarterRows Sequence chains.limits es sums.period sums.quarters
    rows = rows_by sums is h.summed.by_quarter

    pub held : HoldsBoth sums.period (gone_sides to place chains key) sums.quarters
    held = gone_held change rows

    pub few_go : both_length (gone_sides to place chains key) ≤ most_readings
    few_go = omega (arith, change.few_gone Import, change.few_gone Export)

    pub few_come : both_length (came_sides to place chains key) ≤ most_readings
    few_come = omega (arith, change.few_came Import, change.few_came Export)

    module _ {left : Table} {w v : ℕ} {less : ByDirection Energy} (gone : DidMoveBoth Going sums.period (gone_sides to place chains key) sums.quarters left w v less) where
      pub room_left : HasRoom (both_length (came_sides to place chains key)) left
      room_left = came_room change rows gone.quarters

      module _ {next : Table} {u : ℕ} {more : ByDirection Energy} (came : DidMoveBoth Coming sums.period (came_sides to place chains key) left next v u more) where
        pub rows_then : AreQuarterRows (order_in sums) chains.limits (stored chains) sums.period next
        rows_then = subst (λ b. AreQuarterRows (order_of b) chains.limits (stored chains) sums.period next) (sym is) (table_filled change rows gone.quarters came.quarters)

        pub all_then : IsExchanged (order_in sums) key.tx es (stored chains) less more
        all_then = subst (λ b. IsExchanged (order_of b) key.tx es (stored chains) less more) (sym is) (exchanged change gone.sums came.sums)

        pub work_then : IsWork (most_turned (order_in sums) way chains key es) w u
        work_then = subst (λ b. IsWork (most_turned (order_of b) way chains key es) w u) (sym is) (omega (arith, gone.work, came.work, change.few))
