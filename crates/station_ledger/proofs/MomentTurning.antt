-- One live event that comes or goes: its readings come to those by moment, or go from them.
use Rattle.std.{proofs.Common.{◌≡◌, ◌==◌, ℕ, ◌+◌, ◌<◌, ◌≤◌, false, cond, not, List, ◌∷◌, Option, None, Some, is_some, length, sym, ap, subst, ◌∙◌, ⊎_elim, arith, length-append, vec_capacity}, specs.Str.bytes_eq, specs.Cmp.eq_by_cmp_equiv, proofs.lemmas.Bool.{cases_eq, ne_eqb}, proofs.lemmas.Bool.Decides.nat_tests}
use Rattle.event_chain.{specs.Chains.{Chained, stored}, specs.Table.{Table as Slots, row_of, TxRow, without_row}, specs.declared.row.TableRow.TableRow}
use Rattle.event_chain.specs.Table as table
use Rattle.ledger_model.{proofs.Directions.each_way, specs.Periods.Periods, specs.ByDirection.in_direction, specs.Content.{Entry, live, live_of, transactions_of, has_transaction}, specs.declared.by_direction.ByDirection.ByDirection, specs.declared.order.Order.TheVariants.Moment, specs.declared.reading.Direction.Direction, specs.declared.reading.Direction.TheVariants.{Import, Export}, specs.Deltas.{IsOneMore, before_key, behind_key, own_events}, specs.Key.KeyName, specs.Ranges.most_event_readings, proofs.Callers.{live_else, live_with, transactions_more}}
use Rattle.energy_flow.specs.Flow.{Energy}
use Rattle.quarter_table.specs.Table.{Table}
use Rattle.reading_index.{specs.Ranks.owner, specs.Timed.{Timed, TimedReadings, owned}}
use Rattle.station_ledger.{specs.ByMoment.{timed_of, AreByMoment, IsSlotGiven, live_readings, listed_of}, specs.declared.by_moment.ByMoment.ByMoment, specs.declared.by_moment.Moved.Moved, specs.Moved.IsExchanged, specs.Quarters.IsWork, specs.Spent.most_in_runs, specs.Sums.AreQuarterRows, proofs.MomentEvents.{IsTurned, by_moment_then, side_before, not_tied}, proofs.MomentLists.timed_else, proofs.MomentRanks.owner-apart, proofs.Moved.has_own, specs.declared.pairs.Way.Way, specs.declared.pairs.Way.TheVariants.{Coming, Going}, specs.Exchange.IsMove, specs.Runs.{by_way, AreMoved}, proofs.MomentSides.{IsNext, IsStep, grown, have_place, its, long_both, parts_was, parts_will, room_more, rows_next, sides_apart, IsSummed, sums_moved, then, work_next}}
use Rattle.transaction_map.{proofs.Found.{found_out, length_out}, proofs.Rising.id_total}

-- a transaction with this event has a live one
has_live : (less more : List Entry) (front : List Entry) (e : Entry) (back : List Entry) → IsOneMore less more front e back → 0 < length (live_of e.0.tx more)
has_live less more front e back one = omega (arith, ap length (live_with less more front e back one), length-append (own_events e.0.tx front) (e ∷ own_events e.0.tx back))

-- the rows without that of a transaction
row_gone : (tx : List ℕ) (rows : List TxRow) → row_of tx (without_row tx rows) ≡ None
row_gone tx rows = found_out tx tx rows ∙ ap (λ b. cond b None (row_of tx rows)) ((eq_by_cmp_equiv id_total).refl tx)

row_else : (tx u : List ℕ) (rows : List TxRow) → bytes_eq u tx ≡ false → row_of u (without_row tx rows) ≡ row_of u rows
row_else tx u rows other = found_out u tx rows ∙ ap (λ b. cond b None (row_of u rows)) (not_tied u tx other)

rows_less : (tx : List ℕ) (rows : List TxRow) (row : TableRow) → table.AreRising rows → row_of tx rows ≡ Some row → length (without_row tx rows) + 1 ≡ length rows
rows_less tx rows row rising there = omega (arith, length_out tx rows rising, ap (λ (o : Option TableRow). cond {A = ℕ} (is_some o) 1 0) there)

-- What is the same with an event and without it is so before and then.
same_then : (way : Way) {X Y : Type 0} (f : X → Y) (less more : X) → f more ≡ f less → f (by_way way more less) ≡ f (by_way way less more)
same_then Coming f less more same = same
same_then Going f less more same = sym same

-- What a transaction with a live event has among events with it.
pub room_for_slot : (way : Way) {less more : List Entry} {chains : Chained} {key : KeyName} {b : ByMoment} {period : Periods} {t : Table}
    → IsMove way less more chains key b period t → row_of key.tx b.slots.rows ≡ None → length b.slots.rows < b.slots.capacity
room_for_slot Coming {less = less} {more = more} {key = key} is none =
    let n = transactions_more less more (before_key key less) (key, is.event) (behind_key key less) is.one in let s = is.timed.slots in
    grind (arith, nat_tests, n, has_own key.tx (live less), s.each key.tx, s.number, none, is.large.figures_within.transactions, s.room)
room_for_slot Going {less = less} {more = more} {key = key} is none =
    grind (arith, nat_tests, is.timed.slots.each key.tx, has_live less more (before_key key less) (key, is.event) (behind_key key less) is.one, none)

-- There are as many slots then as transactions of the events with it.
slots_more : (way : Way) {less more : List Entry} {chains : Chained} {key : KeyName} {b : ByMoment} {period : Periods} {t : Table} {slots : Slots} {slot : ℕ}
    → IsMove way less more chains key b period t → IsSlotGiven key.tx b.slots slots slot
    → length slots.rows ≡ length (transactions_of (live more))
slots_more Coming {less = less} {more = more} {key = key} is given =
    let n = transactions_more less more (before_key key less) (key, is.event) (behind_key key less) is.one in
    grind (arith, nat_tests, given.number, n, has_own key.tx (live less), is.timed.slots.each key.tx, is.timed.slots.number)
slots_more Going {less = less} {more = more} {key = key} is given =
    grind (arith, nat_tests, given.number, is.timed.slots.each key.tx, has_live less more (before_key key less) (key, is.event) (behind_key key less) is.one, is.timed.slots.number)

-- With a live event then, there is a slot for each transaction; with none, there is one less.
slots_then : (way : Way) (tx : List ℕ) (less more : List Entry) (n : ℕ) → 0 < length (live_of tx more) → n ≡ length (transactions_of (live more))
    → length (transactions_of (live more)) ≡ cond (has_transaction tx (live less)) (length (transactions_of (live less))) (length (transactions_of (live less)) + 1)
    → n ≡ length (transactions_of (live (by_way way more less))) + cond (length (live_of tx (by_way way more less)) == 0) 1 0
slots_then Coming tx less more n lives number one = grind (arith, nat_tests)
slots_then Going tx less more n lives number one = grind (arith, nat_tests, has_own tx (live less))

module _ {way : Way} {less more : List Entry} {chains : Chained} {key : KeyName} {b : ByMoment} {period : Periods} {t : Table} (is : IsMove way less more chains key b period t) where
  abbrev was : List Entry
  was = by_way way less more

  abbrev will : List Entry
  will = by_way way more less

  abbrev e : Entry
  e = (key, is.event)

  lives : 0 < length (live_of key.tx more)
  lives = has_live less more (before_key key less) e (behind_key key less) is.one

  -- a transaction whose readings come has a live event
  pub some_live : way ≡ Coming → length (live_of key.tx (stored chains)) ≡ 0 → ⊥
  some_live comes none = absurd (omega (arith, lives, ap (λ w. length (live_of key.tx (by_way w more less))) (sym comes) ∙ ap (λ es. length (live_of key.tx es)) is.now_are ∙ none))

  module _ {slots : Slots} {slot : ℕ} (given : IsSlotGiven key.tx b.slots slots slot) where
    abbrev S : Direction → List Timed
    S d = its is slot d

    pub first_step : IsStep is slot Import was b.index t
    first_step = record {
      rising = is.timed.in_order;
      at = side_before is.timed given Import;
      rows = is.rows.rows;
      room = is.rows.room;
      beyond = (parts_was is slot way Export).whole;
      place = have_place is slot way Import b.index (side_before is.timed given Import)
          (λ comes. grind (arith, comes, is.timed.few, long_both is slot, grown is slot, room_more is slot, is.timed.room));
    }

    module _ {l : List Timed} (l_is : l ≡ listed_of slot Import chains key) {index : TimedReadings} {u : Table} {w v : ℕ} {m : Moved}
        (first : AreMoved way period Import l b.index index t u w v m) where
      mid : IsNext is slot way Import b.index index
      mid = then is slot first_step l_is first

      pub second_step : IsStep is slot Export will index u
      second_step =
          let at = mid.others (owner slot Export) (sides_apart slot) ∙ side_before is.timed given Export in
          record {
            rising = mid.rising;
            at = at;
            rows = rows_next is slot first_step l_is first;
            room = first.room ∙ is.rows.room;
            beyond = (parts_will is slot way Import).whole;
            place = have_place is slot way Export index at
                (λ comes. grind (arith, comes, is.timed.few, mid.long, long_both is slot, grown is slot, room_more is slot, is.timed.room, first.capacity));
          }

      module _ {k_of : List Timed} (k_is : k_of ≡ listed_of slot Export chains key) {last : TimedReadings} {x : Table} {y : ℕ}
          {k : Moved} (second : AreMoved way period Export k_of index last u x v y k) where
        end : IsNext is slot way Export index last
        end = then is slot second_step k_is second

        pub rows_then : AreQuarterRows Moment chains.limits (stored chains) period x
        rows_then = subst (λ es. AreQuarterRows Moment chains.limits es period x) is.now_are
            (record { rows = rows_next is slot second_step k_is second; room = second.room ∙ first.room ∙ is.rows.room })

        pub all_then : IsExchanged Moment key.tx was (stored chains) (record { import = m.less; export = k.less }) (record { import = m.more; export = k.more })
        all_then =
            let less_of : ByDirection Energy = record { import = m.less; export = k.less } in let more_of : ByDirection Energy = record { import = m.more; export = k.more } in
            let all = each_way (λ d. IsSummed is slot d (in_direction d less_of) (in_direction d more_of)) (sums_moved is slot first_step l_is first) (sums_moved is slot second_step k_is second) in
            subst (λ es. IsExchanged Moment key.tx was es less_of more_of) is.now_are
            (record { station = λ d. (all d).station; own = λ d. (all d).own; up_few = λ d. (all d).up_few; down_few = λ d. (all d).down_few })

        pub work_then : IsWork (most_in_runs key more) w y
        work_then =
            let a = work_next is slot first_step l_is first in let c = work_next is slot second_step k_is second in
            omega (arith, a, c)

        own_then : (d : Direction) → owned (owner slot d) last.entries ≡ timed_of slot d key.tx will
        own_then Import = end.others (owner slot Import) (λ s. sides_apart slot (sym s)) ∙ mid.own
        own_then Export = end.own

        turned : IsTurned key.tx slot was will b.index.entries last.entries
        turned = record {
          own = own_then;
          others = λ d s apart. end.others (owner s d) (λ same. apart (owner-apart slot s Export d same).0)
              ∙ mid.others (owner s d) (λ same. apart (owner-apart slot s Import d same).0);
          same = λ s d o apart. same_then way (timed_of s d o) less more (timed_else s d less more (before_key key less) e (behind_key key less) o is.one apart);
          alive = λ o apart. same_then way (live_of o) less more (live_else less more (before_key key less) e (behind_key key less) o is.one apart);
          ranked_next = end.rising;
        }

        few_then : length last.entries ≤ live_readings will
        few_then = grind (arith, is.timed.few, mid.long, end.long, long_both is slot, grown is slot)

        slots_will : length slots.rows ≡ length (transactions_of (live will)) + cond (length (live_of key.tx will) == 0) 1 0
        slots_will = slots_then way key.tx less more _ lives (slots_more way is given) (transactions_more less more (before_key key less) e (behind_key key less) is.one)

        -- the transaction has a live event still, or none
        pub timed_then : (after : ByMoment) → table.AreApart slots.rows → table.AreRising slots.rows
            → ((length (live_of key.tx (stored chains)) ≡ 0 → ⊥) → after.slots.rows ≡ slots.rows)
            → (length (live_of key.tx (stored chains)) ≡ 0 → after.slots.rows ≡ without_row key.tx slots.rows)
            → after.slots.capacity ≡ slots.capacity → after.index ≡ last → most_event_readings ≤ vec_capacity after.listed → AreByMoment chains.limits (stored chains) after
        timed_then after apart risen kept gone cap i room =
            let entries = ap (λ (j : TimedReadings). j.entries) i in let index_cap = ap (λ (j : TimedReadings). j.capacity) i ∙ second.capacity ∙ first.capacity in
            subst (λ es. AreByMoment chains.limits es after) is.now_are (⊎_elim
            (λ (none : length (live_of key.tx will) ≡ 0).
            let rows = gone (sym (ap (λ es. length (live_of key.tx es)) is.now_are) ∙ none) in let lacks = ap (row_of key.tx) rows ∙ row_gone key.tx slots.rows in
            by_moment_then is.timed given apart turned after (λ u other. ap (row_of u) rows ∙ row_else key.tx u slots.rows other)
            (ap is_some lacks ∙ sym (ap (λ n. not (n == 0)) none)) (λ row there. let e : None ≡ Some row = sym lacks ∙ there in cc) cap entries index_cap room
            (omega (arith, ap length rows, slots_will, ap (λ n. cond {A = ℕ} (n == 0) 1 0) none, rows_less key.tx slots.rows given.row risen given.there)) few_then)
            (λ (some : length (live_of key.tx will) ≡ 0 → ⊥).
            let rows = kept (λ none. some (ap (λ es. length (live_of key.tx es)) is.now_are ∙ none)) in let still = ne_eqb (length (live_of key.tx will)) 0 some in
            by_moment_then is.timed given apart turned after (λ u other. ap (row_of u) rows) (ap is_some (ap (row_of key.tx) rows ∙ given.there) ∙ sym (ap not still))
            (λ row there. let e : Some given.row ≡ Some row = sym given.there ∙ sym (ap (row_of key.tx) rows) ∙ there in cc) cap entries index_cap room
            (omega (arith, ap length rows, slots_will, ap (λ b. cond {A = ℕ} b 1 0) still)) few_then)
            (cases_eq (length (live_of key.tx will)) 0))
