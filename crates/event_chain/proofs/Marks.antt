-- What a mark or a removal may rely on, and what a mark leaves.
use Rattle.std.{proofs.lemmas.Grind.common_steps, proofs.Common.{◌≡◌, ℕ, zero, suc, ◌+◌, ◌<◌, ◌≤◌, ◌^◌, nat_lt, Bool, true, false, not, cond, ◌&&◌, List, [], ◌∷◌, Option, Some, None, is_some, length, set, refl, sym, ap, ◌∙◌, arith, inl}, specs.FinMap.find}
use Rattle.std.specs.FinMap as finite
use Rattle.ledger_model.{specs.Deltas.first_reading, specs.Event.toward, specs.declared.reading.Direction.Direction, specs.Key.{KeyName, key_cmp}, specs.Limits.Bounds, specs.Content.{Entry, Stored}, specs.Step.{marked, marked_at}}
use Rattle.slot_arena.specs.Arena.{value_at}
use Rattle.key_index.specs.Key.{rank}
use Rattle.event_chain.{specs.Placed.{Index, Placed, carriers_of}, specs.declared.row.TableRow.TableRow, specs.Table.{Table, AreSlotted, row_of, with_row}, specs.Flat.{EventPlace, place_of, stored_in, event_at, flat}, specs.declared.look_ups.EventLocation.EventLocation, specs.Edits.{place_in, place_at, IsLocation, IsNotLive}, specs.Kept.{IsSub, chosen, is_live, is_carrier, is_naming, live_one, end_one, IsChains, events_of}, proofs.Changes.change_same, proofs.Facts.{all_rising, get_place, counts_few, places_few}, proofs.Figures.{live_mine, end_mine}, proofs.Looks.{kept_at, live_in, end_in, IsPlace, turned_named}, proofs.Named.named_after, proofs.Places.place_at_row, proofs.Sums.{at_key, sum_without}, proofs.Ops.{AreMoved, IsDone, events_put}, specs.Chains.Chained, specs.declared.answers.Found.Found, specs.declared.answers.Found.TheVariants.{Live, Voided}, specs.Room.found_of}
use Rattle.event_store.specs.Slots.{Held, Slots, voided_as, voided_at}

-- What is there is in range.
there_within : (xs : List (Option Held)) (i : ℕ) (h : Held) → value_at xs i ≡ Some h → i < length xs
there_within [] i h there = cc
there_within (x ∷ xs) zero h there = omega arith
there_within (x ∷ xs) (suc i) h there = omega (arith, there_within xs i h there)

-- A slot holds one event.
same_held : (o : Option Held) (a b : Held) → o ≡ Some a → o ≡ Some b → a ≡ b
same_held o a b x y = cc

-- What is found live is live.
known_live : (s : Stored) → found_of (Some s) ≡ Some Live → s.voided ≡ false
known_live s h = grind (arith, common_steps)

-- What is found voided is voided.
known_voided : (s : Stored) → found_of (Some s) ≡ Some Voided → s.voided ≡ true
known_voided s h = grind (arith, common_steps)

-- What is found has a place.
some_place : (slots : List (Option Held)) (o : Option ℕ) (f : Found) → found_of (event_at slots o) ≡ Some f → is_some o ≡ true
some_place slots o f h = grind (arith, common_steps)

module _ {limits : Bounds} {table : Table} {store : Slots} (p : Placed) (chains : IsChains limits table store p.stored p.live (carriers_of p) p.naming) (key : KeyName) where
  -- A key that is found has a place.
  pub is_placed : {seen : Chained} {f : Found} → record { limits = limits; events = events_of table store p.stored } ≡ seen
      → found_of (finite.get seen.events key) ≡ Some f → is_some (place_at table.rows p.stored.entries key) ≡ true
  is_placed {f = f} view found = some_place store.slots (place_at table.rows p.stored.entries key) f
      (ap found_of (sym (get_place chains key)) ∙ ap (λ (x : Chained). found_of (finite.get x.events key)) view ∙ found)

  module _ {location : EventLocation} (at : IsLocation table.rows p.stored.entries key location) where
    -- The event of the place.
    abbrev pub location_event : Stored
    location_event = (chains.keyed.homes location.key location.slot at.slot).stored

    -- It is in its slot.
    pub location_here : value_at store.slots location.slot ≡ Some (location.key, location_event)
    location_here = (chains.keyed.homes location.key location.slot at.slot).held_is

    -- Its place and its slot.
    pub location_place : IsPlace table.rows p.stored.entries store.slots key location.row location.key location.slot (Some location_event)
    location_place = record {
      keyed = chains.keyed;
      number = at.number;
      rank_is = at.key_is;
      at = at.slot;
      here = location_here;
      within = there_within store.slots location.slot (location.key, location_event) location_here;
      known = inl at.row;
    }

    -- It is what the map has.
    location_get : finite.get (events_of table store p.stored) key ≡ Some location_event
    location_get =
        get_place chains key ∙ ap (event_at store.slots) (place_at_row table.rows p.stored.entries key location.row at.row at.number ∙ ap (λ r. place_of r p.stored.entries) (sym at.key_is) ∙ at.slot)
        ∙ ap (λ o. Some (stored_in o)) location_here

    module _ {seen : Chained} (view : record { limits = limits; events = events_of table store p.stored } ≡ seen) where
      -- It is live if it is found so.
      pub location_was_live : found_of (finite.get seen.events key) ≡ Some Live → location_event.voided ≡ false
      location_was_live found = known_live location_event (ap found_of (sym location_get) ∙ ap (λ (x : Chained). found_of (finite.get x.events key)) view ∙ found)

      -- It is voided if it is found so.
      pub location_was_voided : found_of (finite.get seen.events key) ≡ Some Voided → location_event.voided ≡ true
      location_was_voided found = known_voided location_event (ap found_of (sym location_get) ∙ ap (λ (x : Chained). found_of (finite.get x.events key)) view ∙ found)

    -- The place in a sub-index.
    pub location_sub : (test : Stored → Bool) (sub : List EventPlace) → IsSub test p.stored.entries store.slots sub → place_of location.key sub ≡ kept_at test location.slot (Some location_event)
    location_sub test sub is = is.each location.key ∙ ap (chosen test store.slots) at.slot ∙ ap (λ o. cond (test (stored_in o)) (Some location.slot) None) location_here

    -- A voided event is in no index of live ones.
    pub location_dark : location_event.voided ≡ true → IsNotLive location.key p
    location_dark void = record {
      live = location_sub is_live p.live.entries chains.indexed.lives ∙ ap (λ v. cond (not v) (Some location.slot) None) void;
      carriers = λ d. location_sub (is_carrier d) (carriers_of p d).entries (chains.indexed.carry d)
          ∙ ap (λ v. cond (not v && is_some (first_reading (toward d location_event.event.readings))) (Some location.slot) None) void;
      naming = location_sub is_naming p.naming.entries chains.indexed.names ∙ ap (λ v. cond (not v && is_some location_event.event.evse) (Some location.slot) None) void;
    }

    abbrev all : List Entry
    all = flat table.rows p.stored.entries store.slots

    find_location : find key_cmp key all ≡ Some location_event
    find_location = sym (finite.get-from_sorted key_cmp all key (all_rising chains)) ∙ location_get

    -- The counts of its transaction are small.
    pub location_few : (location.row.live ≤ 65536) × (location.row.ends ≤ 65536)
    location_few =
        let counts = counts_few chains table.rows key.tx location.row (inl (at.row, refl)) in let few = places_few chains in let most = chains.counted.events_few in
        (omega (arith, counts.0, few, most), omega (arith, counts.1, few, most))

    -- A live event is counted.
    pub location_live : live_in (Some location_event) ≤ location.row.live
    location_live =
        let figures = chains.figured key.tx location.row at.row in let f = live_one key.tx in
        omega (arith, figures.live, sum_without f key all (all_rising chains), ap (at_key f key) find_location, live_mine key (Some location_event))

    -- As an end too.
    pub location_ends : end_in (Some location_event) ≤ location.row.ends
    location_ends =
        let figures = chains.figured key.tx location.row at.row in let f = end_one key.tx in
        omega (arith, figures.ends, sum_without f key all (all_rising chains), ap (at_key f key) find_location, end_mine key (Some location_event))

    -- What its slot shows.
    pub location_is : (h : Held) → value_at store.slots location.slot ≡ Some h → h.1 ≡ location_event
    location_is h is = let e : h ≡ (location.key, location_event) = same_held (value_at store.slots location.slot) h (location.key, location_event) is location_here in ap (λ (x : Held). x.1) e

    -- The event as it is marked.
    abbrev now : Bool → Stored
    now voided = record { event = location_event.event; voided = voided }

    module _ {t : Table} {s : Slots} {q : Placed} {voided : Bool} where
      -- What a mark does to each part.
      pub marked_done : (after : TableRow) → t.rows ≡ with_row key.tx after table.rows → t.capacity ≡ table.capacity → AreSlotted t → after.slot ≡ location.row.slot
          → s.slots ≡ voided_at store.slots location.slot voided → s.readings ≡ store.readings → s.capacity ≡ store.capacity
          → q.stored ≡ p.stored → AreMoved location.key location.slot (Some (now voided)) p q
          → after.live + live_in (Some location_event) ≡ location.row.live + live_in (Some (now voided)) → after.ends + end_in (Some location_event) ≡ location.row.ends + end_in (Some (now voided))
          → IsDone table t store s p q key location.row location.key location.slot (Some location_event) (Some (now voided))
      marked_done after rows transactions slotted same slots readings room stored moved live ends =
          let places = change_same location.key (Some location.slot) p.stored q.stored stored at.slot in record {
            place = location_place;
            turned = turned_named table.rows t.rows p.stored.entries q.stored.entries key.tx location.row after location.key location.slot (Some location_event) (Some (now voided))
                (named_after table.rows table.rows t.rows key.tx location.row after (inl (at.row, refl)) rows same) slotted.rising slotted.apart
                places (omega (arith, at.key_is, at.number)) live ends;
            places = places;
            slots = slots ∙ ap (λ o. set store.slots location.slot (voided_as voided o)) location_here;
            moved = moved;
            transactions = transactions;
            readings = ap (λ n. n + length location_event.event.readings) readings;
            readings_room = room;
            stored_room = ap (λ (x : Index). x.capacity) stored;
          }

      -- The map then.
      pub marked_events : IsDone table t store s p q key location.row location.key location.slot (Some location_event) (Some (now voided))
          → events_of t s q.stored ≡ marked (events_of table store p.stored) key voided
      marked_events did = events_put chains did (now voided) refl ∙ sym (ap (marked_at (events_of table store p.stored) key voided) location_get)

module _ {limits : Bounds} {table : Table} {store : Slots} {stored live : Index} {carriers : Direction → Index} {naming : Index}
    (chains : IsChains limits table store stored live carriers naming) (key : KeyName) (s0 : ℕ) where
  -- The slot of a key's place holds an event.
  pub held_place : place_at table.rows stored.entries key ≡ Some s0 → is_some (value_at store.slots s0) ≡ true
  held_place is = found (row_of key.tx table.rows) is where
    found : (o : Option TableRow) → place_in stored.entries key.seq o ≡ Some s0 → is_some (value_at store.slots s0) ≡ true
    found None h = cc
    found (Some row) h = elim (nat_lt key.seq (2 ^ 31)) as (λ b. cond b (place_of (rank row.slot key.seq) stored.entries) None ≡ Some s0 → is_some (value_at store.slots s0) ≡ true) [
      | true ↦ λ at. ap is_some (chains.keyed.homes (rank row.slot key.seq) s0 at).held_is
      | false ↦ λ f. cc
    ] h
