-- What chains know before an operation.
use Rattle.std.{proofs.lemmas.Grind.common_steps, proofs.Common.{◌≡◌, ℕ, zero, suc, ◌+◌, ◌<◌, ◌≤◌, ◌^◌, nat_lt, nat_le, Bool, true, false, not, cond, ◌&&◌, List, [], ◌∷◌, Option, None, is_some, length, sum_by, replicate, refl, sym, ap, ◌∙◌, arith, inl, inr, le-leb}, proofs.lemmas.List.Sums.{count_by-le-length, sum_by-cons}, specs.FinMap.FinMap, proofs.lemmas.Bool.cases_lt, proofs.lemmas.List.{length-map, length-replicate}, proofs.lemmas.Bool.Decides.{Decides-ltb, nat_tests}}
use Rattle.std.specs.FinMap as finite
use Rattle.ledger_model.{specs.declared.reading.Direction.Direction, specs.Key.{KeyName, key_cmp}, specs.Limits.Bounds, specs.Content.{Entry, Stored, has_transaction, transactions_of}, specs.Step.readings_stored, specs.Entries.IsRising}
use Rattle.slot_arena.specs.Arena.{held_count}
use Rattle.key_index.specs.Key.{rank}
use Rattle.event_chain.{specs.Placed.{Index, index}, specs.declared.row.TableRow.TableRow, specs.Table.{Table, TxRow, row_of}, specs.declared.answers.Room.Room, specs.declared.answers.Room.TheVariants.{Fits, NoTransaction, NoEvent, NoReading}, specs.Room.room_of, specs.Flat.{EventPlace, place_of, event_at, flat, look}, specs.Edits.place_at, specs.Kept.{IsChains, IsNamed, IsEntered, events_of}, proofs.Flats.{find_flat, flat_rising}, proofs.Looks.look_known, proofs.Named.{row_here, row_other}, proofs.Figures.known_figures, proofs.Ids.{ids_flat, has_flat}, specs.Chains.{Chained, stored as stored_of}}
use Rattle.event_store.specs.Slots.{Held, Slots}

-- Chains of equal parts.
pub seal : (limits : Bounds) (t : Table) (s : Slots) (st l : Index) (c : Direction → Index) (n : Index) (rows : List TxRow)
    (transactions : ℕ) (slots : List (Option Held)) (readings room : ℕ) (es le : List EventPlace) (ce : Direction → List EventPlace)
    (ne : List EventPlace) (events : ℕ)
    → t.rows ≡ rows → t.capacity ≡ transactions → s.slots ≡ slots → s.readings ≡ readings → s.capacity ≡ room → st.entries ≡ es
    → l.entries ≡ le → ((d : Direction) → (c d).entries ≡ ce d) → n.entries ≡ ne → st.capacity ≡ events → l.capacity ≡ events
    → ((d : Direction) → (c d).capacity ≡ events) → n.capacity ≡ events
    → IsChains limits (record { rows = rows; capacity = transactions })
    (record { slots = slots; readings = readings; capacity = room }) (index es events) (index le events) (λ d. index (ce d) events)
    (index ne events)
    → IsChains limits t s st l c n
seal limits t s st l c n rows transactions slots readings room es le ce ne events tr tc ss sr sc ste le_is ce_is ne_is stc lc cc_is nc h = grind (arith, common_steps)

-- No limit is reached.
fits_all : (a b c : Bool) → cond a NoTransaction (cond b NoEvent (cond c NoReading Fits)) ≡ Fits → (a ≡ false) × ((b ≡ false) × (c ≡ false))
fits_all a b c h = grind (arith, common_steps)

-- What is not at most another is more.
more_than : (a b : ℕ) → nat_le a b ≡ false → b < a
more_than a b h = elim (cases_lt b a) [ inl lt ↦ lt | inr le ↦ let f : true ≡ false = sym (le-leb a b le) ∙ h in cc ]

-- What is not less than another is at least it.
at_least : (a b : ℕ) → nat_lt a b ≡ false → b ≤ a
at_least a b h = elim (cases_lt a b) [ inl lt ↦ let f : true ≡ false = sym ((Decides-ltb a b).1 lt) ∙ h in cc | inr le ↦ le ]

-- A count of at most one each is at most the length.
sum_few : (f : Entry → ℕ) (es : List Entry) → ((e : Entry) → f e ≤ 1) → sum_by f es ≤ length es
sum_few f [] each = omega arith
sum_few f (e ∷ es) each = omega (arith, sum_by-cons f e es, each e, sum_few f es each)

-- A test counts at most one.
one_at_most : (b : Bool) → cond b 1 0 ≤ 1
one_at_most b = grind (arith, common_steps)

-- An entered transaction is named.
pub entered_named : (rows mid : List TxRow) (tx : List ℕ) (row : TableRow) → IsEntered rows mid tx row → IsNamed rows mid tx row row
entered_named rows mid tx row entered = record {
  there = elim entered [ inl was ↦ ap (row_of tx) was.1 ∙ was.0 | inr fresh ↦ ap (row_of tx) fresh.1 ∙ row_here tx row rows ];
  same = refl;
  others = λ q other. elim entered [ inl was ↦ ap (row_of q) was.1 | inr fresh ↦ ap (row_of q) fresh.1 ∙ row_other q tx row rows other ];
  known = elim entered [ inl was ↦ inl was.0 | inr fresh ↦ inr fresh.0 ];
}

module _ {limits : Bounds} {table : Table} {store : Slots} {stored live : Index} {carriers : Direction → Index} {naming : Index}
    (chains : IsChains limits table store stored live carriers naming) where
  -- All events.
  abbrev all : List Entry
  all = flat table.rows stored.entries store.slots

  -- The map of them.
  abbrev events : FinMap key_cmp Stored
  events = events_of table store stored

  pub all_rising : IsRising all
  all_rising = flat_rising table.rows stored.entries store.slots chains.keyed.rising chains.keyed.ranks

  -- The entries of the map are all events.
  pub entries_all : finite.entries events ≡ all
  entries_all = finite.entries-from_sorted key_cmp all all_rising

  -- They are what callers see.
  pub all_seen : {seen : Chained} → record { limits = limits; events = events } ≡ seen → all ≡ stored_of seen
  all_seen view = sym entries_all ∙ ap (λ (x : Chained). stored_of x) view

  -- The map finds what the tables have.
  pub get_look : (q : KeyName) → finite.get events q ≡ look table.rows stored.entries store.slots q
  get_look q = finite.get-from_sorted key_cmp all q all_rising ∙ find_flat q table.rows stored.entries store.slots chains.keyed.rising

  -- The event of a key is that of its place.
  pub get_place : (q : KeyName) → finite.get events q ≡ event_at store.slots (place_at table.rows stored.entries q)
  get_place q = grind (arith, common_steps, get_look)

  -- As many transactions as the table has rows.
  pub ids_count : length (transactions_of all) ≡ length table.rows
  ids_count = ap length (ids_flat table.rows stored.entries store.slots chains.keyed.rising chains.keyed.filled) ∙ length-map table.rows (λ (r : TxRow). r.0)

  module _ (tx : List ℕ) (readings : ℕ) {seen : Chained} (view : record { limits = limits; events = events } ≡ seen) (fits : room_of seen.limits (stored_of seen) tx readings ≡ Fits) where
    parts : (not (has_transaction tx all) && nat_le limits.transactions (length (transactions_of all)) ≡ false)
        × ((nat_le limits.events (length all) ≡ false) × (nat_lt limits.readings (readings_stored all + readings) ≡ false))
    parts = fits_all _ _ _ (ap (λ es. room_of limits es tx readings) (sym entries_all) ∙ ap (λ (x : Chained). room_of x.limits (stored_of x) tx readings) view ∙ fits)

    -- There is room for a new transaction.
    pub enter_room : row_of tx table.rows ≡ None → length table.rows < table.capacity
    enter_room absent = grind (arith, common_steps, has_flat, more_than, parts, ids_count)

    -- For an event.
    pub event_room : length stored.entries < limits.events
    event_room = omega (arith, more_than limits.events (length all) parts.1.0, chains.counted.all_are)

    -- And for its readings.
    pub reading_room : store.readings + readings ≤ store.capacity
    reading_room = omega (arith, at_least limits.readings (readings_stored all + readings) parts.1.1, chains.counted.readings_are, chains.counted.room_is)

  -- A new key has no place.
  pub none_at : (mid : List TxRow) (key : KeyName) (row : TableRow) (r0 : ℕ) → finite.get events key ≡ None
      → IsEntered table.rows mid key.tx row → key.seq < 2 ^ 31 → r0 ≡ rank row.slot key.seq → place_of r0 stored.entries ≡ None
  none_at mid key row r0 absent entered number is =
      no_event (place_of r0 stored.entries) (sym (look_known table.rows stored.entries store.slots key row r0 chains.keyed (entered_named table.rows mid key.tx row entered).known number is)
      ∙ sym (get_look key) ∙ absent) where
        no_event : (o : Option ℕ) → event_at store.slots o ≡ None → o ≡ None
        no_event o h = grind (arith, common_steps)

  -- The counts of a transaction that was entered are small.
  pub counts_few : (mid : List TxRow) (tx : List ℕ) (row : TableRow) → IsEntered table.rows mid tx row → (row.live ≤ length stored.entries) × (row.ends ≤ length stored.entries)
  counts_few mid tx row entered =
      let figures = known_figures table.rows stored.entries store.slots tx row (entered_named table.rows mid tx row entered).known chains.figured in
      grind (arith, common_steps, sum_few, one_at_most)

  -- There are no more places than events may be.
  pub places_few : length stored.entries ≤ limits.events
  places_few = omega (arith, chains.counted.held_are, chains.counted.slots_are, count_by-le-length (is_some {T = Held}) store.slots)

  -- Three tests decide the room.
  module _ (tx : List ℕ) (n : ℕ) {seen : Chained} (view : record { limits = limits; events = events } ≡ seen) {limit : ℕ} {lacks : Bool} (limit_is : limit ≡ limits.transactions)
      (lacks_is : lacks ≡ (not (is_some (row_of tx table.rows)) && nat_le limit (length table.rows))) where
    abbrev room : Room
    room = room_of seen.limits (stored_of seen) tx n

    room_is : room ≡ cond lacks NoTransaction (cond (nat_le limits.events (length stored.entries)) NoEvent (cond (nat_lt limits.readings (store.readings + n)) NoReading Fits))
    room_is = sym (ap (λ (x : Chained). room_of x.limits (stored_of x) tx n) view) ∙ grind (arith, common_steps, entries_all, has_flat, ids_count)

    pub no_transaction : lacks ≡ true → NoTransaction ≡ room
    no_transaction lacking = grind (arith, common_steps, room_is)

    pub no_event : lacks ≡ false → limits.events ≤ length stored.entries → NoEvent ≡ room
    no_event placed full = grind (arith, nat_tests, room_is)

    pub no_reading : lacks ≡ false → length stored.entries < limits.events → limits.readings < store.readings + n → NoReading ≡ room
    no_reading placed some full = grind (arith, nat_tests, room_is)

    pub all_fits : lacks ≡ false → length stored.entries < limits.events → store.readings + n ≤ limits.readings → Fits ≡ room
    all_fits placed some few = grind (arith, nat_tests, room_is)

-- No place, no slot.
none_held : (n : ℕ) → held_count (replicate {A = Option Held} n None) ≡ 0
none_held zero = refl
none_held (suc n) = omega (arith, sum_by-cons (λ (o : Option Held). cond {A = ℕ} (is_some o) 1 0) None (replicate n None), none_held n)

-- Chains without events.
pub opened_chains : (limits : Bounds) → limits.events ≤ 65536
    → IsChains limits (record { rows = []; capacity = limits.transactions })
    (record { slots = replicate limits.events None; readings = 0; capacity = limits.readings }) (index [] limits.events)
    (index [] limits.events) (λ _. index [] limits.events) (index [] limits.events)
opened_chains limits few = grind (arith, common_steps, none_held, length-replicate)

-- No event is stored.
pub opened_events : (es : List Entry) → es ≡ [] → finite.from_sorted {R = key_cmp} es ≡ finite.empty
opened_events es is = ap (λ (xs : List Entry). finite.from_sorted {R = key_cmp} xs) is
    ∙ finite.empty_of_len (finite.from_sorted {R = key_cmp} []) (finite.len-entries (finite.from_sorted {R = key_cmp} []) ∙ ap length (finite.entries-from_sorted key_cmp [] tt))
