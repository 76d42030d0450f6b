-- Pairs that go and pairs that come, while the others are kept, and what they move.
use Rattle.std.{proofs.Common.{◌≡◌, ℕ, ◌+◌, ◌*◌, ◌≤◌, List, [], ◌∷◌, ◌++◌, length, refl, sym, ap, ◌∙◌, arith, length-append}, specs.List.sum_by, proofs.lemmas.List.Sums.{sum_by-append, sum_by-cons}}
use Rattle.energy_flow.specs.Flow.{Energy, plus, minus, CanPlus, CanMinus}
use Rattle.ledger_model.{proofs.EnergyLemmas.same_energy, specs.ByDirection.in_direction, specs.Periods.Periods, specs.Content.Entry, specs.Deltas.{IsOneMore, came_by, gone_by, kept_by}, specs.Energy.{Pair, difference, energy_by, energy_over, pairs, pairs_of}, specs.declared.order.Order.Order, specs.declared.order.Order.TheVariants.Sequence, specs.declared.reading.Direction.Direction, specs.declared.reading.Direction.TheVariants.{Import, Export}, specs.Limits.Bounds, specs.Ranges.{greatest_reading, most_readings, most_event_readings}, proofs.Callers.{less_kept, more_kept, transaction_moved}, specs.Board.Flowed, specs.declared.by_direction.ByDirection.ByDirection}
use Rattle.quarter_table.{specs.Table.Table, specs.Pairs.{rows_of, rows_with, total}, proofs.Several.{made_with, one_side, both_sides}, proofs.Made.made_alike}
use Rattle.station_ledger.{specs.declared.pairs.Way.Way, specs.declared.pairs.Way.TheVariants.{Coming, Going}, specs.Quarters.{HasRoom, HoldsBoth, IsTableMoved, both_length, both_quartered, quartered, IsSumOf}, specs.Runs.by_way, specs.Sums.{AreAllowed, AreQuarterRows}, proofs.Bounded.{few_energy, few_pairs, few_station, IsUpTo, IsWithin}, proofs.Rows.{long, rows_less, up_append, down_append, up_quartered, down_quartered}, specs.Moved.IsExchanged}

-- The pairs of a direction before and after, and those of one transaction.
pub record IsTraded (d : Direction) (tx : List ℕ) (es new : List Entry) (gone came kept : List Pair) : Type 0 where
  pub old_sum : (f : Pair → ℕ) → sum_by f (pairs d es) ≡ sum_by f (gone ++ kept)
  pub new_sum : (f : Pair → ℕ) → sum_by f (pairs d new) ≡ sum_by f (came ++ kept)
  pub own : (f : Pair → ℕ) → sum_by f (pairs_of d tx new) + sum_by f gone ≡ sum_by f (pairs_of d tx es) + sum_by f came

-- one live event came or went
pub traded : (way : Way) (d : Direction) (es new front : List Entry) (e : Entry) (back : List Entry) → IsOneMore (by_way way es new) (by_way way new es) front e back
    → IsTraded d e.0.tx es new (by_way way (gone_by d front e back) (came_by d front e back)) (by_way way (came_by d front e back) (gone_by d front e back))
    (kept_by d (by_way way es new) front e back)
traded Coming d es new front e back one = record {
  old_sum = λ f. less_kept d f es new front e back one;
  new_sum = λ f. more_kept d f es new front e back one;
  own = λ f. transaction_moved d f es new front e back one;
}
traded Going d es new front e back one = record {
  old_sum = λ f. more_kept d f new es front e back one;
  new_sum = λ f. less_kept d f new es front e back one;
  own = λ f. sym (transaction_moved d f new es front e back one);
}

pub ones : (ps : List Pair) → sum_by (λ p. 1) ps ≡ length ps
ones [] = refl
ones (p ∷ ps) = omega (arith, sum_by-cons (λ (q : Pair). 1) p ps, ones ps)

-- what pairs that go and come move of the energy of others
swapped : (a b gone came : List Pair) {less more : Energy} → ((f : Pair → ℕ) → sum_by f b + sum_by f gone ≡ sum_by f a + sum_by f came)
    → less ≡ energy_over gone → more ≡ energy_over came → plus (energy_over b) less ≡ plus (energy_over a) more
swapped a b gone came sums less_is more_is = same_energy _ _
    (omega (arith, sums (λ p. (difference p).up), ap (λ (e : Energy). e.up) less_is, ap (λ (e : Energy). e.up) more_is))
    (omega (arith, sums (λ p. (difference p).down), ap (λ (e : Energy). e.down) less_is, ap (λ (e : Energy). e.down) more_is))

-- what goes is in an energy of the station with what comes
pub exchanged_once : (order : Order) (d : Direction) (limits : Bounds) (es : List Entry) → AreAllowed order limits es → {flow was : Energy} (is less more : Energy)
    → flow ≡ was → IsWithin was (energy_by order d es) → plus is less ≡ plus was more → more.up ≤ greatest_reading * most_readings → more.down ≤ greatest_reading * most_readings
    → (CanPlus flow more × CanMinus (plus flow more) less) × (minus (plus flow more) less ≡ is)
exchanged_once order d limits es before {flow} {was} is less more flow_is most exchanged up_few down_few =
    let few = few_station order d limits es before in
    let ups = ap (λ (e : Energy). e.up) flow_is in let downs = ap (λ (e : Energy). e.down) flow_is in
    let rises = ap (λ (e : Energy). e.up) exchanged in let falls = ap (λ (e : Energy). e.down) exchanged in
    (omega (arith, few, ups, downs, rises, falls), same_energy _ _ (omega (arith, ups, rises)) (omega (arith, downs, falls)))

-- pairs of both directions add up in each as those of that direction
total_both : (k : Direction) (period : Periods) (ps : Direction → List Pair)
    → ((in_direction k (total (both_quartered period ps))).up ≡ (energy_over (ps k)).up) × ((in_direction k (total (both_quartered period ps))).down ≡ (energy_over (ps k)).down)
total_both k period ps =
    let q : Direction → List Flowed = λ d. quartered period d (ps d) in
    let ups = λ (d : Direction). up_quartered k period d (ps d) in let downs = λ (d : Direction). down_quartered k period d (ps d) in
    grind (arith, up_append k (q Import) (q Export), down_append k (q Import) (q Export), ups Import, ups Export, downs Import, downs Export)

-- pairs of both directions that add up as those that go or come and those that are kept
parted : (period : Periods) (all some rest : Direction → List Pair)
    → ((d : Direction) (f : Pair → ℕ) → sum_by f (all d) ≡ sum_by f (some d ++ rest d))
    → rows_of (both_quartered period all) ≡ rows_of (both_quartered period some ++ both_quartered period rest)
parted period all some rest same =
    let side = λ (d : Direction). one_side period d (all d) (some d) (rest d) (same d) in
    made_alike (both_quartered period all) (both_quartered period some ++ both_quartered period rest) (λ measure.
    both_sides measure (quartered period Import (all Import)) (quartered period Import (some Import))
    (quartered period Import (rest Import)) (quartered period Export (all Export)) (quartered period Export (some Export))
    (quartered period Export (rest Export)) (side Import measure) (side Export measure))

-- A change of a transaction's live events, with the pairs of each direction that go and come by sequence.
pub record IsChange (limits : Bounds) (tx : List ℕ) (es new : List Entry) (gone came : Direction → List Pair) (most : ℕ) : Type 0 where
  pub before : AreAllowed Sequence limits es
  pub after : AreAllowed Sequence limits new
  pub kept : Direction → List Pair
  pub traded : (d : Direction) → IsTraded d tx es new (gone d) (came d) (kept d)
  pub few_gone : (d : Direction) → length (gone d) ≤ most_event_readings + 2
  pub few_came : (d : Direction) → length (came d) ≤ most_event_readings + 2
  pub few : both_length gone + both_length came ≤ most

module _ {limits : Bounds} {tx : List ℕ} {es new : List Entry} {gone came : Direction → List Pair} {most : ℕ} (ch : IsChange limits tx es new gone came most) where
  count : (d : Direction) → length (pairs d new) ≡ length (came d) + length (ch.kept d)
  count d = sym (ones (pairs d new)) ∙ (ch.traded d).new_sum (λ p. 1) ∙ ones (came d ++ ch.kept d) ∙ length-append (came d) (ch.kept d)

  kept_few : (d : Direction) → IsUpTo (greatest_reading * limits.readings) (energy_over (ch.kept d))
  kept_few d =
      let f = λ (p : Pair). (difference p).up in let g = λ (p : Pair). (difference p).down in let sum = (ch.traded d).old_sum in
      omega (arith, few_energy Sequence d limits es ch.before, sum f, sum_by-append f (gone d) (ch.kept d), sum g, sum_by-append g (gone d) (ch.kept d))

  -- what the pairs add up to is what the energies exchange
  pub exchanged : {less more : ByDirection Energy} → ((d : Direction) → IsSumOf (gone d) (in_direction d less))
      → ((d : Direction) → IsSumOf (came d) (in_direction d more)) → IsExchanged Sequence tx es new less more
  exchanged less_is more_is = record {
    station = λ d. let t = ch.traded d in swapped (pairs d es) (pairs d new) (gone d) (came d)
        (λ f. omega (arith, t.old_sum f, t.new_sum f, sum_by-append f (gone d) (ch.kept d), sum_by-append f (came d) (ch.kept d))) (less_is d).is (more_is d).is;
    own = λ d. swapped (pairs_of d tx es) (pairs_of d tx new) (gone d) (came d) (ch.traded d).own (less_is d).is (more_is d).is;
    up_few = λ d. omega (arith, (more_is d).up, ch.few_came d);
    down_few = λ d. omega (arith, (more_is d).down, ch.few_came d);
  }

  module _ {period : Periods} {t : Table} (rows : AreQuarterRows Sequence limits es period t) where
    old_rows : t.rows ≡ rows_of (both_quartered period gone ++ both_quartered period ch.kept)
    old_rows = rows.rows ∙ parted period (λ d. pairs d es) gone ch.kept (λ d. (ch.traded d).old_sum)

    -- the pairs that go are in the table
    pub gone_held : HoldsBoth period gone t
    gone_held = (both_quartered period ch.kept, old_rows)

    module _ {left : Table} (taken : IsTableMoved Going (both_quartered period gone) t left) where
      left_rows : left.rows ≡ rows_of (both_quartered period ch.kept)
      left_rows = rows_less (both_quartered period ch.kept) old_rows taken

      -- there is room for those that come
      pub came_room : HasRoom (both_length came) left
      came_room =
          let n = length-append (quartered period Import (ch.kept Import)) (quartered period Export (ch.kept Export)) in
          let long_import = long period Import (ch.kept Import) in let long_export = long period Export (ch.kept Export) in
          let few : both_length came ≤ most_readings = omega (arith, ch.few_came Import, ch.few_came Export) in (
            both_quartered period ch.kept,
            record {
              rows = left_rows;
              room = omega (arith, n, long_import, long_export, count Import, count Export, few_pairs Sequence new, ch.after.readings_within, taken.capacity, rows.room);
              up = λ k. omega (arith, total_both k period ch.kept, kept_few k, ch.before.most_readings_within, few);
              down = λ k. omega (arith, total_both k period ch.kept, kept_few k, ch.before.most_readings_within, few);
              few = omega (arith, taken.capacity, rows.room, ch.before.most_readings_within);
            },
          )

      pub table_filled : {next : Table} → IsTableMoved Coming (both_quartered period came) left next → AreQuarterRows Sequence limits new period next
      table_filled put = record {
        rows = put.rows ∙ ap (rows_with (both_quartered period came)) left_rows
            ∙ made_with (both_quartered period came) (both_quartered period ch.kept)
            ∙ sym (parted period (λ d. pairs d new) came ch.kept (λ d. (ch.traded d).new_sum));
        room = put.capacity ∙ taken.capacity ∙ rows.room;
      }
