-- What an event that comes or goes changes: the pairs of each direction that go and come, and what its transaction
-- counts for.
use Rattle.std.proofs.Common.{◌≡◌, ℕ, ◌+◌, ◌≤◌, zero, suc, List, length, sym, ap, subst, ◌∙◌, arith}
use Rattle.ledger_model.{specs.declared.order.Order.Order, specs.declared.order.Order.TheVariants.Sequence, specs.declared.reading.Direction.Direction, specs.declared.reading.Direction.TheVariants.{Import, Export}, specs.Content.{Entry, Stored}, specs.ByDirection.in_direction, specs.declared.by_direction.ByDirection.ByDirection, specs.Deltas.{across, pairs_between, before_key, behind_key, came_by, gone_by, kept_by, most_for}, specs.Energy.Pair, specs.Event.toward, specs.Key.KeyName, specs.Ranges.most_event_readings, proofs.Callers.{few_moved, few_toward}}
use Rattle.event_chain.{specs.Chains.{Chained, stored}, specs.Room.readings_under, specs.Sides.AreSides, specs.declared.around.Sides.Sides}
use Rattle.station_ledger.{specs.declared.pairs.Way.Way, specs.declared.pairs.Way.TheVariants.{Coming, Going}, specs.Moved.IsMoved, specs.Quarters.readings_at, specs.Runs.by_way, specs.Spent.most_at, specs.Sides.{has_some, sides_across, sides_between}, specs.Sums.{AreAllowed, IsTurning}, proofs.Moved.{moved_more, moved_back}, proofs.Trades.{IsChange, IsTraded, traded}}

most_le : (n : ℕ) → most_for n ≤ n + 2
most_le zero = omega arith
most_le (suc n) = omega arith

-- the pairs of the event that go and come, by its readings; it is known in which directions there are any
across_then : {key : KeyName} {es : List Entry} (place : ByDirection Sides) (event : Stored) (d : Direction) → AreSides d (has_some (toward d event.event.readings)) key es (in_direction d place)
    → sides_across place d ≡ gone_by d (before_key key es) (key, event) (behind_key key es)
across_then place event d is = (λ i. across (is.before i) (is.behind i)) ∙ grind arith

between_then : {key : KeyName} {es : List Entry} (chains : Chained) (place : ByDirection Sides) (event : Stored) (d : Direction)
    → AreSides d (has_some (toward d event.event.readings)) key es (in_direction d place)
    → readings_at d chains key ≡ toward d event.event.readings
    → sides_between place chains key d ≡ came_by d (before_key key es) (key, event) (behind_key key es)
between_then chains place event d is own = (λ i. pairs_between (is.before i) (own i) (is.behind i)) ∙ grind arith

-- at most so many
few_each : {key : KeyName} {es : List Entry} (chains : Chained) (place : ByDirection Sides) (event : Stored) (d : Direction)
    → AreSides d (has_some (toward d event.event.readings)) key es (in_direction d place)
    → readings_at d chains key ≡ toward d event.event.readings
    → length (sides_across place d) + length (sides_between place chains key d) ≤ most_for (length (readings_at d chains key))
few_each {key = key} {es = es} chains place event d is own =
    let gone = ap length (across_then place event d is) in let came = ap length (between_then chains place event d is own) in
    omega (arith, few_moved d (before_key key es) (key, event) (behind_key key es), gone, came, ap (λ rs. most_for (length rs)) own)

-- The pairs of each direction that go with an event that comes or goes.
abbrev pub gone_sides : Way → ByDirection Sides → Chained → KeyName → Direction → List Pair
gone_sides way place chains key d = by_way way (sides_across place d) (sides_between place chains key d)

-- And those that come.
abbrev pub came_sides : Way → ByDirection Sides → Chained → KeyName → Direction → List Pair
came_sides way place chains key d = by_way way (sides_between place chains key d) (sides_across place d)

both_long : (way : Way) (ps qs : List Pair) → length (by_way way ps qs) + length (by_way way qs ps) ≡ length ps + length qs
both_long way ps qs = grind arith

module _ {tx : List ℕ} {es : List Entry} {chains : Chained} {key : KeyName} {place : ByDirection Sides} (tx_is : tx ≡ key.tx) where
  -- only the live events of the transaction change
  pub turned_moved : (order : Order) (way : Way) → IsTurning way es chains key place → IsMoved order tx es (stored chains)
  turned_moved order Coming h =
      subst (λ t. IsMoved order t es (stored chains)) (sym tx_is) (moved_more order es (stored chains) (before_key key es) (key, h.event) (behind_key key es) h.one)
  turned_moved order Going h =
      subst (λ t. IsMoved order t es (stored chains)) (sym tx_is)
      (moved_back order key.tx (stored chains) es (moved_more order (stored chains) es (before_key key es) (key, h.event) (behind_key key es) h.one))

  -- the readings come or go
  pub turned_pairs : AreAllowed Sequence chains.limits es → AreAllowed Sequence chains.limits (stored chains) → (way : Way) → IsTurning way es chains key place
      → IsChange chains.limits tx es (stored chains) (gone_sides way place chains key) (came_sides way place chains key) (most_at chains key)
  turned_pairs before after way h =
      let new = stored chains in let front = before_key key es in let back = behind_key key es in let e : Entry = (key, h.event) in
      let own : (d : Direction) → readings_at d chains key ≡ toward d h.event.event.readings = λ d. ap (readings_under d) h.there in
      let few = λ (d : Direction). few_each chains place h.event d (h.sides d) (own d) in
      let each : (d : Direction) → length (sides_across place d) + length (sides_between place chains key d) ≤ most_event_readings + 2 =
      λ d. let rs = toward d h.event.event.readings in omega (arith, few d, ap (λ rs. most_for (length rs)) (own d), most_le (length rs), few_toward d h.event.event.readings, h.few) in
      let long = λ (d : Direction). both_long way (sides_across place d) (sides_between place chains key d) in
      let across = λ (d : Direction). across_then place h.event d (h.sides d) in
      let between = λ (d : Direction). between_then chains place h.event d (h.sides d) (own d) in
      let kept = λ (d : Direction). kept_by d (by_way way es new) front e back in
      record {
        before = before;
        after = after;
        kept = kept;
        traded = λ d. subst (λ t. IsTraded d t es new (gone_sides way place chains key d) (came_sides way place chains key d) (kept d)) (sym tx_is)
            (subst (λ ps. IsTraded d key.tx es new (by_way way ps (sides_between place chains key d)) (by_way way (sides_between place chains key d) ps) (kept d)) (sym (across d))
            (subst (λ ps. IsTraded d key.tx es new (by_way way (gone_by d front e back) ps) (by_way way ps (gone_by d front e back)) (kept d)) (sym (between d))
            (traded way d es new front e back h.one)));
        few_gone = λ d. omega (arith, each d, long d);
        few_came = λ d. omega (arith, each d, long d);
        few = omega (arith, few Import, few Export, long Import, long Export);
      }
