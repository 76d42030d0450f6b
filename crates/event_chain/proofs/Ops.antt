-- What chains keep after an event was put in, marked or taken out.
use Rattle.std.{proofs.lemmas.Grind.common_steps, proofs.Common.{◌≡◌, ℕ, ◌+◌, true, false, Bool, cond, List, Option, Some, None, is_some, length, set, sum_by, refl, sym, ap, ◌∙◌, arith, length-set}, specs.Ordering.{eq_by_cmp, nat_cmp}, specs.Cmp.nat_cmp_total, specs.FinMap.{find, nat_cmp-IsAntisymmetric}, proofs.lemmas.List.Sums.sum_by-set}
use Rattle.std.specs.FinMap as finite
use Rattle.ledger_model.{specs.Deltas.first_reading, specs.declared.by_direction.ByDirection.ByDirection, specs.declared.reading.Direction.Direction, specs.ByDirection.in_direction, specs.Event.{EventContent, toward}, specs.Key.{KeyName, key_cmp}, specs.Limits.Bounds, specs.Content.{Entry, Stored}, specs.Entries.IsRising, proofs.Callers.{key_total, exact_keys}}
use Rattle.event_chain.{specs.Placed.{Placed, carriers_of}, specs.declared.row.TableRow.TableRow, specs.Table.Table, specs.Flat.flat, specs.Edits.{IsLiveLess, IsLiveMore, IsLiveSame, IsNotLive}, specs.Kept.{is_live, is_carrier, is_naming, IsChains, events_of}, proofs.Changes.{one, IsChange, change_put, change_out, change_same, change_length}, proofs.Looks.{held_in, kept_at, slot_if, IsPlace, IsTurned, flat_change, found_was, keyed_change, sub_change}, proofs.Figures.figured_change, proofs.Flats.flat_rising, proofs.Sums.{at_key, sum_change}}
use Rattle.event_store.specs.Slots.{Held, Slots}

-- The indexes of the live events, after one came, went or was none.
pub record AreMoved (r0 s0 : ℕ) (now : Option Stored) (p q : Placed) : Type 0 where
  pub live : IsChange nat_cmp r0 (kept_at is_live s0 now) p.live.entries q.live.entries
  pub carriers : (d : Direction) → IsChange nat_cmp r0 (kept_at (is_carrier d) s0 now) (carriers_of p d).entries (carriers_of q d).entries
  pub naming : IsChange nat_cmp r0 (kept_at is_naming s0 now) p.naming.entries q.naming.entries
  pub live_room : q.live.capacity ≡ p.live.capacity
  pub carriers_room : (d : Direction) → (carriers_of q d).capacity ≡ (carriers_of p d).capacity
  pub naming_room : q.naming.capacity ≡ p.naming.capacity

-- A live event came.
pub moved_more : (r0 s0 : ℕ) (event : EventContent) (carries : ByDirection Bool) (names_evse : Bool) (p q : Placed) → IsLiveMore r0 s0 carries names_evse p q → IsNotLive r0 p
    → ((d : Direction) → in_direction d carries ≡ is_some (first_reading (toward d event.readings))) → names_evse ≡ is_some event.evse
    → AreMoved r0 s0 (Some (record { event = event; voided = false })) p q
moved_more r0 s0 event carries names_evse p q more none carries_is names_is = record {
  live = change_put true r0 s0 _ p.live q.live more.live none.live refl;
  carriers = λ d. change_put (in_direction d carries) r0 s0 _ (carriers_of p d) (carriers_of q d) (more.carriers d) (none.carriers d) (ap (λ b. cond b (Some s0) None) (carries_is d));
  naming = change_put names_evse r0 s0 _ p.naming q.naming more.naming none.naming (ap (λ b. cond b (Some s0) None) names_is);
  live_room = λ i. (more.live i).capacity;
  carriers_room = λ d i. (more.carriers d i).capacity;
  naming_room = λ i. (more.naming i).capacity;
}

-- A key without a place has none among those of the live events.
pub not_live_at : {limits : Bounds} {table : Table} {store : Slots} (p : Placed) {r0 : ℕ} → IsChains limits table store p.stored p.live (carriers_of p) p.naming
    → find nat_cmp r0 p.stored.entries ≡ None → IsNotLive r0 p
not_live_at p {r0 = r0} k none = let i = k.indexed in grind (arith, common_steps)

-- A live event went.
pub moved_less : (r0 s0 : ℕ) (event : EventContent) (p q : Placed) → IsLiveLess r0 p q → AreMoved r0 s0 (Some (record { event = event; voided = true })) p q
moved_less r0 s0 event p q less = record {
  live = change_out r0 None p.live q.live less.live refl;
  carriers = λ d. change_out r0 None (carriers_of p d) (carriers_of q d) (less.carriers d) refl;
  naming = change_out r0 None p.naming q.naming less.naming refl;
  live_room = λ i. (less.live i).capacity;
  carriers_room = λ d i. (less.carriers d i).capacity;
  naming_room = λ i. (less.naming i).capacity;
}

-- None came and none went.
pub moved_none : (r0 s0 : ℕ) (p q : Placed) → IsLiveSame p q → IsNotLive r0 p → AreMoved r0 s0 None p q
moved_none r0 s0 p q same none = record {
  live = change_same r0 None p.live q.live same.live none.live;
  carriers = λ d. change_same r0 None (carriers_of p d) (carriers_of q d) (same.carriers d) (none.carriers d);
  naming = change_same r0 None p.naming q.naming same.naming none.naming;
  live_room = λ i. (same.live i).capacity;
  carriers_room = λ d i. (same.carriers d i).capacity;
  naming_room = λ i. (same.naming i).capacity;
}

-- How many readings an entry has.
abbrev size : Entry → ℕ
size e = length e.1.event.readings

-- What became of each part where the event of a key changed.
pub record IsDone (table t : Table) (store s : Slots) (p q : Placed) (key : KeyName) (row : TableRow) (r0 s0 : ℕ) (was now : Option Stored) : Type 0 where
  pub place : IsPlace table.rows p.stored.entries store.slots key row r0 s0 was
  pub turned : IsTurned table.rows t.rows q.stored.entries key.tx row was now
  pub places : IsChange nat_cmp r0 (slot_if s0 now) p.stored.entries q.stored.entries
  pub slots : s.slots ≡ set store.slots s0 (held_in r0 now)
  pub moved : AreMoved r0 s0 now p q
  pub transactions : t.capacity ≡ table.capacity
  pub readings : s.readings + at_key size key was ≡ store.readings + at_key size key now
  pub readings_room : s.capacity ≡ store.capacity
  pub stored_room : q.stored.capacity ≡ p.stored.capacity

-- An event, its place and its slot are one each.
one_each : (r s0 : ℕ) (o : Option Stored) → (one (slot_if s0 o) ≡ one o) × (one (held_in r o) ≡ one o)
one_each r s0 None = (refl, refl)
one_each r s0 (Some st) = (refl, refl)

module _ {limits : Bounds} {table t : Table} {store s : Slots} {p q : Placed} {key : KeyName} {row : TableRow} {r0 s0 : ℕ} {was now : Option Stored}
    (chains : IsChains limits table store p.stored p.live (carriers_of p) p.naming) (did : IsDone table t store s p q key row r0 s0 was now) where
  abbrev all : List Entry
  all = flat table.rows p.stored.entries store.slots

  abbrev after : List Entry
  after = flat t.rows q.stored.entries s.slots

  rising : IsRising all
  rising = flat_rising table.rows p.stored.entries store.slots chains.keyed.rising chains.keyed.ranks

  change : IsChange key_cmp key now all after
  change = flat_change did.place did.turned did.places did.slots

  found : find key_cmp key all ≡ was
  found = found_was did.place did.turned did.places did.slots

  more : length after ≡ length q.stored.entries
  more = omega (
    arith,
    change_length key_cmp key_total exact_keys key now all after change rising,
    change_length nat_cmp nat_cmp_total nat_cmp-IsAntisymmetric r0 (slot_if s0 now) p.stored.entries q.stored.entries did.places chains.keyed.ranks,
    ap (one {X = Stored}) found,
    ap (one {X = ℕ}) did.place.at,
    (one_each r0 s0 was).0,
    (one_each r0 s0 now).0,
    chains.counted.all_are,
  )

  -- Chains are kept.
  pub chains_done : IsChains limits t s q.stored q.live (carriers_of q) q.naming
  chains_done = let k = chains.counted in record {
    keyed = keyed_change did.place did.turned did.places did.slots;
    indexed = record {
      lives = sub_change did.place did.turned did.places did.slots is_live p.live.entries q.live.entries chains.indexed.lives did.moved.live;
      carry = λ d. sub_change did.place did.turned did.places did.slots (is_carrier d) (carriers_of p d).entries (carriers_of q d).entries (chains.indexed.carry d) (did.moved.carriers d);
      names = sub_change did.place did.turned did.places did.slots is_naming p.naming.entries q.naming.entries chains.indexed.names did.moved.naming;
    };
    figured = figured_change table.rows t.rows p.stored.entries q.stored.entries store.slots after key row was now chains.figured rising did.place.known did.turned found change;
    counted = record {
      all_are = more;
      held_are = omega (
        arith,
        more,
        sum_by-set (one {X = Held}) store.slots s0 (held_in r0 now) None did.place.within,
        ap (sum_by (one {X = Held})) did.slots,
        ap (one {X = Held}) did.place.here,
        (one_each r0 s0 was).1,
        (one_each r0 s0 now).1,
        change_length key_cmp key_total exact_keys key now all after change rising,
        ap (one {X = Stored}) found,
        k.all_are,
        k.held_are,
      );
      readings_are = omega (arith, k.readings_are, did.readings, sum_change size key now all after change rising, ap (at_key size key) found);
      transactions_are = did.transactions ∙ k.transactions_are;
      slots_are = ap length did.slots ∙ length-set store.slots s0 (held_in r0 now) ∙ k.slots_are;
      room_is = did.readings_room ∙ k.room_is;
      events_few = k.events_few;
    };
    roomy = record {
      for_stored = did.stored_room ∙ chains.roomy.for_stored;
      for_live = did.moved.live_room ∙ chains.roomy.for_live;
      for_carriers = λ d. did.moved.carriers_room d ∙ chains.roomy.for_carriers d;
      for_naming = did.moved.naming_room ∙ chains.roomy.for_naming;
    };
  }

  -- What the map has under each key.
  get_done : (x : KeyName) → finite.get (events_of t s q.stored) x ≡ cond (eq_by_cmp key_cmp x key) now (finite.get (events_of table store p.stored) x)
  get_done x = finite.get-from_sorted key_cmp after x (change.rises rising) ∙ change.found x ∙ ap (cond (eq_by_cmp key_cmp x key) now) (sym (finite.get-from_sorted key_cmp all x rising))

  -- The map with an event put in.
  pub events_put : (st : Stored) → now ≡ Some st → events_of t s q.stored ≡ finite.insert (events_of table store p.stored) key st
  events_put st is = let old = events_of table store p.stored in finite.same_map key_total exact_keys (events_of t s q.stored) (finite.insert old key st) (λ x.
      get_done x ∙ ap (λ o. cond (eq_by_cmp key_cmp x key) o (finite.get old x)) is ∙ sym (finite.get-insert key_total old key st x))

  -- The map with one taken out.
  pub events_out : now ≡ None → events_of t s q.stored ≡ finite.remove (events_of table store p.stored) key
  events_out is = let old = events_of table store p.stored in finite.same_map key_total exact_keys (events_of t s q.stored) (finite.remove old key) (λ x.
      get_done x ∙ ap (λ o. cond (eq_by_cmp key_cmp x key) o (finite.get old x)) is ∙ sym (finite.get-remove key_total old key x))
