use Rattle.std.proofs.Common.{ℕ, List, ◌≡◌, ◌+◌, ◌<◌, ◌^◌, None, Some, true, false, refl, IfSome, is_some, option_map, length, sym, ap, ◌∙◌, subst, arith}
use Rattle.event_chain.{specs.declared.row.TableRow.TableRow, specs.Table.{Table, TxRow, row_of, with_row, IsRowAt}, specs.Chains.{Chained, stored}, specs.Kept.{IsEntered, IsKeyed, end_count}, specs.Flat.flat, specs.Sides.AreSides, proofs.Facts.{all_seen, enter_room, event_room, reading_room, counts_few, none_at, places_few, entered_named}, proofs.Used.unused_free, proofs.Changes.change_put, proofs.Looks.turned_named, proofs.Named.named_after, proofs.Ops.{IsDone, chains_done, events_put, moved_more, not_live_at}, proofs.chains.Chains.admit.Goals.After-renew}
use Rattle.ledger_model.{specs.ByDirection.in_direction, specs.Deltas.first_reading, specs.Event.toward, specs.Content.Stored}
use Rattle.std.specs.FinMap as finite
use Rattle.key_index.specs.Key.{rank}
use Rattle.event_chain.proofs.chains.Chains.admit.Goals as goal

-- A transaction that was entered, by the table that was searched and by the key's own id.
known : {old new : Table} {mid : List TxRow} {tx own : List ℕ} {row : TableRow} → new ≡ old → tx ≡ own → IsEntered new.rows mid tx row → IsEntered old.rows mid own row
known {old = old} {mid = mid} {tx = tx} {row = row} same is entered = subst (λ t. IsEntered old.rows mid t row) is (subst (λ (x : Table). IsEntered x.rows mid tx row) same entered)

-- What was done to each part.
done : (c : After-renew) → IsDone c.self.inside.table c.renew.new.table c.self.inside.store c.put-slot.new.self c.self.inside.places c.insert.new.self c.args.key.now c.enter-known.result.0
    c.new-at.result c.put-slot.result None (Some (record { event = c.args.event.now; voided = false }))
done c =
    let m = c.self.inside in let k = c.self.invariant in let key = c.args.key.now in let row = c.enter-known.result.0 in let mid = c.enter-known.new.table.rows in
    let after = c.row_with-after.result in let event = c.args.event.now in let r0 = c.new-at.result in let s0 = c.put-slot.result in
    let entered = known c.seek-found.ensures.same c.tx-tx.ensures c.enter-known.ensures.entered in
    let number : key.seq < 2 ^ 31 = omega (arith, c.seq.ensures.value, c.seq.ensures.range) in let rank_is = c.new-at.ensures ∙ ap (rank row.slot) c.seq.ensures.value in
    let none = none_at k mid key row r0 (ap (λ (x : Chained). finite.get x.events key) c.self.view_is ∙ c.requires.absent) entered number rank_is in
    let places = change_put true r0 s0 (Some s0) m.places.stored c.insert.new.self.stored c.insert.ensures.stored none refl in
    let now : after ≡ record row { live = row.live + 1; ends = row.ends + end_count event.kind } =
    c.row_with-after.ensures ∙ ap (λ k. record row { live = row.live + 1; ends = row.ends + end_count k }) c.kind.ensures in
    record {
      place = record {
        keyed = k.keyed;
        number = number;
        rank_is = rank_is;
        at = none;
        here = c.put-slot.ensures.was_free;
        within = c.put-slot.ensures.within;
        known = (entered_named m.table.rows mid key.tx row entered).known;
      };
      turned = turned_named m.table.rows c.renew.new.table.rows m.places.stored.entries c.insert.new.self.stored.entries key.tx row after r0 s0 None (Some (record { event = event; voided = false }))
          (named_after m.table.rows mid c.renew.new.table.rows key.tx row after entered
          (c.renew.ensures.rows ∙ ap (λ t. with_row t after mid) c.tx-tx.ensures) (ap (λ (r : TableRow). r.slot) now))
          c.renew.ensures.slotted.rising c.renew.ensures.slotted.apart places (omega (arith, number, rank_is))
          (omega (arith, ap (λ (r : TableRow). r.live) now)) (omega (arith, ap (λ (r : TableRow). r.ends) now));
      places = places;
      slots = c.put-slot.ensures.slots;
      moved = moved_more r0 s0 event c.carried_by-carries.result c.is_some-names_evse.result m.places c.insert.new.self c.insert.ensures.lives (not_live_at m.places k none)
          (λ d. c.carried_by-carries.ensures d ∙ ap (λ rs. is_some (first_reading (toward d rs))) c.readings.ensures.value) (c.is_some-names_evse.ensures ∙ ap is_some c.evse.ensures.value);
      transactions = c.renew.ensures.capacity ∙ c.enter-known.ensures.capacity ∙ ap (λ (x : Table). x.capacity) c.seek-found.ensures.same;
      readings = omega (arith, c.put-slot.ensures.readings);
      readings_room = c.put-slot.ensures.capacity;
      stored_room = λ i. (c.insert.ensures.stored i).capacity;
    }

pub around_of-requires-clause-keyed : goal.around_of-requires-clause-keyed
around_of-requires-clause-keyed c = let m = c.self.inside in subst (λ (x : Table). IsKeyed x.rows m.places.stored.entries m.store.slots) (sym c.seek-found.ensures.same) c.self.invariant.keyed

pub around_of-requires-clause-carry : goal.around_of-requires-clause-carry
around_of-requires-clause-carry c d = c.self.invariant.indexed.carry d

pub around_of-requires-clause-row : goal.around_of-requires-clause-row
around_of-requires-clause-row c = c.seek-found.ensures.value ∙ ap (λ t. row_of t c.self.inside.table.rows) c.tx-tx.ensures
    ∙ ap (λ (x : Table). row_of c.args.key.now.tx x.rows) (sym c.seek-found.ensures.same)

pub enter-known-requires-clause-known : goal.enter-known-requires-clause-known
enter-known-requires-clause-known c = c.seek-found.ensures.value ∙ ap (λ (x : Table). row_of c.tx-tx.result.now x.rows) (sym c.seek-found.ensures.same)

pub enter-known-requires-clause-at : goal.enter-known-requires-clause-at
enter-known-requires-clause-at c = subst (λ (x : Table). IfSome c.seek-found.result (λ f. IsRowAt c.tx-tx.result.now x.rows f.0)) (sym c.seek-found.ensures.same) c.seek-found.ensures.at

pub enter-known-requires-clause-room : goal.enter-known-requires-clause-room
enter-known-requires-clause-room c = subst (λ (x : Table). row_of c.tx-tx.result.now x.rows ≡ None → length x.rows < x.capacity) (sym c.seek-found.ensures.same) (λ none.
    enter_room c.self.invariant c.args.key.now.tx (length c.args.event.now.readings) c.self.view_is c.requires.room
    (ap (λ t. row_of t c.self.inside.table.rows) (sym c.tx-tx.ensures) ∙ none))

pub put-slot-requires-clause-free : goal.put-slot-requires-clause-free
put-slot-requires-clause-free c =
    let room = event_room c.self.invariant c.args.key.now.tx (length c.args.event.now.readings) c.self.view_is c.requires.room in
    let k = c.self.invariant in omega (arith, room, k.counted.held_are, k.counted.slots_are)

pub put-slot-requires-clause-room : goal.put-slot-requires-clause-room
put-slot-requires-clause-room c = reading_room c.self.invariant c.args.key.now.tx (length c.args.event.now.readings) c.self.view_is c.requires.room

pub insert-requires : goal.insert-requires
insert-requires c =
    let m = c.self.inside in let k = c.self.invariant in let row = c.enter-known.result.0 in let key = c.args.key.now in
    let number : key.seq < 2 ^ 31 = omega (arith, c.seq.ensures.value, c.seq.ensures.range) in
    record {
      absent = none_at k c.enter-known.new.table.rows key row c.new-at.result
          (ap (λ (x : Chained). finite.get x.events key) c.self.view_is ∙ c.requires.absent) (known c.seek-found.ensures.same c.tx-tx.ensures c.enter-known.ensures.entered) number
          (c.new-at.ensures ∙ ap (rank row.slot) c.seq.ensures.value);
      room = omega (arith, event_room k key.tx (length c.args.event.now.readings) c.self.view_is c.requires.room, k.roomy.for_stored);
      slot_for = record {
        within = omega (arith, c.put-slot.ensures.within, k.counted.slots_are, k.roomy.for_live);
        unused = unused_free k.keyed k.indexed.lives c.put-slot.result c.put-slot.ensures.was_free;
      };
    }

pub row_with-after-requires : goal.row_with-after-requires
row_with-after-requires c =
    let k = c.self.invariant in let most = places_few k in
    let few = counts_few k c.enter-known.new.table.rows c.args.key.now.tx c.enter-known.result.0 (known c.seek-found.ensures.same c.tx-tx.ensures c.enter-known.ensures.entered) in
    (omega (arith, few.0, most, k.counted.events_few), omega (arith, few.1, most, k.counted.events_few))

pub renew-requires-clause-slot : goal.renew-requires-clause-slot
renew-requires-clause-slot c =
    let mid = c.enter-known.new.table.rows in let there = (entered_named c.self.inside.table.rows mid c.args.key.now.tx c.enter-known.result.0
    (known c.seek-found.ensures.same c.tx-tx.ensures c.enter-known.ensures.entered)).there in
    ap (λ t. option_map (λ (r : TableRow). r.slot) (row_of t mid)) c.tx-tx.ensures ∙ ap (option_map (λ (r : TableRow). r.slot)) there
    ∙ ap Some (sym (ap (λ (r : TableRow). r.slot) c.row_with-after.ensures))

pub invariant_of-self : goal.invariant_of-self
invariant_of-self c = chains_done c.self.invariant (done (goal.at.invariant_of-self c).After-renew)

pub returns-clause-events : goal.returns-clause-events
returns-clause-events c = let now : Stored = record { event = c.args.event.now; voided = false } in events_put c.self.invariant (done (goal.at.returns-clause-events c).After-renew) now refl
    ∙ ap (λ (x : Chained). finite.insert x.events c.args.key.now now) c.self.view_is

pub returns-clause-sides : goal.returns-clause-sides
returns-clause-sides c d =
    let m = c.self.inside in let key = c.args.key.now in let slots = m.store.slots in let sides = in_direction d c.around_of.new.around in
    let has = c.carried_by-carries.ensures d ∙ ap (λ rs. is_some (first_reading (toward d rs))) c.readings.ensures.value in
    let same = ap (λ (x : Table). flat x.rows m.places.stored.entries slots) c.seek-found.ensures.same ∙ all_seen c.self.invariant c.self.view_is in
    subst (λ b. AreSides d b key (stored c.args.self.now) sides) has (subst (λ es. AreSides d (in_direction d c.carried_by-carries.result) key es sides) same (c.around_of.ensures d))
