-- The readings on either side of a key's place, by the places of the live events that have readings.
use Rattle.std.{proofs.lemmas.Grind.common_steps, proofs.Common.{◌≡◌, ℕ, ◌<◌, ◌/◌, ◌%◌, ◌^◌, ◌==◌, nat_lt, Bool, true, false, not, cond, ◌&&◌, List, [], ◌∷◌, ◌++◌, Option, Some, None, is_some, length, map, slice_get, refl, sym, ap, ◌∙◌, arith, append-nil, length-append}, specs.List.{filter, flat_map}, specs.Str.bytes_eq}
use Rattle.slot_arena.specs.Arena.{IsHeld}
use Rattle.key_index.{specs.Entries.last_of, specs.Key.{rank, slot_back}, proofs.Orders.last_cons}
use Rattle.ledger_model.{specs.Key.KeyName, specs.declared.reading.Direction.Direction, specs.Event.{MeterReading, toward}, specs.Content.{Entry, Stored}, specs.Deltas.{first_reading, last_reading, own_readings, before_key, behind_key}, proofs.Callers.{own_before_key, own_behind_key}}
use Rattle.event_store.specs.Slots.{Held}
use Rattle.event_chain.{specs.declared.row.TableRow.TableRow, specs.Table.{TxRow, row_of}, specs.Flat.{EventPlace, place_of, stored_at, entry_of, segment, flat}, specs.Kept.{IsSub, IsKeyed, is_live, is_carrier}, specs.Edits.{places_before, places_behind, IsStored, first_at, last_at}, proofs.Lives.{passing_of, live_of_is, segment_passing, none_passing}, proofs.Members.{AllPlaces, all_found, all_left, chosen_test, all_held, stored_first, stored_last}, proofs.Cuts.{map_cut, less_rank, more_rank}}

module _ (d : Direction) where
  -- The readings of an entry.
  abbrev readings_of : Entry → List MeterReading
  readings_of e = toward d e.1.event.readings

  -- The event of the place has a reading.
  abbrev HasReading : List (Option Held) → EventPlace → Type 0
  HasReading slots p = 0 < length (toward d (stored_at slots p.1).event.readings)

  -- Readings with a first one are not none.
  some_there : (rs : List MeterReading) → is_some (first_reading rs) ≡ true → 0 < length rs
  some_there rs is = grind (arith, common_steps)

  -- An event that carries has a reading.
  carries_some : (s : Stored) → is_carrier d s ≡ true → 0 < length (toward d s.event.readings)
  carries_some s is = grind (arith, common_steps, some_there)

  -- The first reading of two lists is that of the first, where it has one.
  first_front : (xs ys : List MeterReading) → 0 < length xs → first_reading (xs ++ ys) ≡ first_reading xs
  first_front [] ys some = absurd (omega arith)
  first_front (x ∷ xs) ys some = refl

  -- The last reading is that of the rest, where it has one.
  last_rest : (x : MeterReading) (xs : List MeterReading) → 0 < length xs → last_reading (x ∷ xs) ≡ last_reading xs
  last_rest x xs some = grind (arith, common_steps)

  -- The last reading of two lists is that of the second, where it has one.
  last_back : (xs ys : List MeterReading) → 0 < length ys → last_reading (xs ++ ys) ≡ last_reading ys
  last_back [] ys some = refl
  last_back (x ∷ xs) ys some = last_rest x (xs ++ ys) (omega (arith, length-append xs ys)) ∙ last_back xs ys some

  -- The first reading of events that have one each.
  first_flat : (tx : List ℕ) (slots : List (Option Held)) (ps : List EventPlace) → AllPlaces (HasReading slots) ps
      → first_reading (flat_map readings_of (map (entry_of tx slots) ps)) ≡ first_at slots d (slice_get ps 0)
  first_flat tx slots [] h = refl
  first_flat tx slots (p ∷ ps) h = first_front (toward d (stored_at slots p.1).event.readings) (flat_map readings_of (map (entry_of tx slots) ps)) h.0

  -- The last one.
  last_flat : (tx : List ℕ) (slots : List (Option Held)) (ps : List EventPlace) → AllPlaces (HasReading slots) ps
      → last_reading (flat_map readings_of (map (entry_of tx slots) ps)) ≡ last_at slots d (last_of ps)
  last_flat tx slots [] h = refl
  last_flat tx slots (p ∷ []) h = ap last_reading (append-nil (toward d (stored_at slots p.1).event.readings))
  last_flat tx slots (p ∷ q ∷ ps) h =
      let more = flat_map readings_of (map (entry_of tx slots) ps) in let own = toward d (stored_at slots q.1).event.readings in
      last_back (toward d (stored_at slots p.1).event.readings) (own ++ more) (omega (arith, length-append own more, h.1.0))
      ∙ last_flat tx slots (q ∷ ps) h.1 ∙ ap (last_at slots d) (sym (last_cons p q ps))

  -- One event more, which has no reading or carries.
  one_carrying : (f : Entry → Bool) (e : Entry) (mine voided : Bool) (rs : List MeterReading) → toward d e.1.event.readings ≡ rs
      → (lives carries : List Entry) → flat_map readings_of (filter f lives) ≡ flat_map readings_of (filter f carries)
      → flat_map readings_of (filter f (cond (mine && not voided) (e ∷ lives) lives))
      ≡ flat_map readings_of (filter f (cond (mine && (not voided && is_some (first_reading rs))) (e ∷ carries) carries))
  one_carrying f e false voided rs is lives carries rest = rest
  one_carrying f e true true rs is lives carries rest = rest
  one_carrying f e true false [] is lives carries rest = grind (arith, common_steps)
  one_carrying f e true false (r ∷ rs) is lives carries rest = grind (arith, common_steps)

  -- The readings of live events are those of the events that have any.
  carrying : (f : Entry → Bool) (tx : List ℕ) (es : List Entry) → flat_map readings_of (filter f (passing_of is_live tx es)) ≡ flat_map readings_of (filter f (passing_of (is_carrier d) tx es))
  carrying f tx [] = refl
  carrying f tx (e ∷ es) = one_carrying f e (bytes_eq tx e.0.tx) e.1.voided (toward d e.1.event.readings) refl (passing_of is_live tx es) (passing_of (is_carrier d) tx es) (carrying f tx es)

  module _ (rows : List TxRow) (es carriers : List EventPlace) (slots : List (Option Held)) (keyed : IsKeyed rows es slots) (sub : IsSub (is_carrier d) es slots carriers) (key : KeyName) where
    -- All events.
    abbrev all : List Entry
    all = flat rows es slots

    -- Live events that pass a test of their numbers, by their readings.
    abbrev left : (ℕ → Bool) → List Entry → List MeterReading
    left f xs = flat_map readings_of (filter (λ e. f e.0.seq) xs)

    -- The readings in front of the key are those of live events of smaller numbers.
    own_before : own_readings d key.tx (before_key key all) ≡ left (λ n. nat_lt n key.seq) (passing_of is_live key.tx all)
    own_before = ap (flat_map readings_of) (own_before_key key all) ∙ ap (left (λ n. nat_lt n key.seq)) (live_of_is key.tx all)

    -- Those behind it are of greater ones.
    own_behind : own_readings d key.tx (behind_key key all) ≡ left (λ n. nat_lt key.seq n) (passing_of is_live key.tx all)
    own_behind = ap (flat_map readings_of) (own_behind_key key all) ∙ ap (left (λ n. nat_lt key.seq n)) (live_of_is key.tx all)

    module _ (absent : row_of key.tx rows ≡ None) where
      -- Of an absent transaction there is no reading in front.
      pub none_before : last_reading (own_readings d key.tx (before_key key all)) ≡ None
      none_before = ap last_reading (own_before ∙ ap (left (λ n. nat_lt n key.seq)) (none_passing rows es slots keyed.rising keyed.ranks is_live key.tx absent))

      -- And none behind.
      pub none_behind : first_reading (own_readings d key.tx (behind_key key all)) ≡ None
      none_behind = ap first_reading (own_behind ∙ ap (left (λ n. nat_lt key.seq n)) (none_passing rows es slots keyed.rising keyed.ranks is_live key.tx absent))

    module _ (row : TableRow) (r : ℕ) (row_is : row_of key.tx rows ≡ Some row) (number : key.seq < 2 ^ 31) (is : r ≡ rank row.slot key.seq) where
      home : r / 2 ^ 31 ≡ row.slot
      home = ap (λ k. k / 2 ^ 31) is ∙ slot_back row.slot key.seq number

      -- What holds of all places holds of those of the transaction that a test leaves.
      on_side : (P : EventPlace → Type 0) (g : ℕ → Bool) → AllPlaces P carriers → AllPlaces P (filter (λ e. g e.0) (segment (r / 2 ^ 31) carriers))
      on_side P g h = all_left P (λ e. g e.0) (segment (r / 2 ^ 31) carriers) (all_left P (λ e. e.0 / 2 ^ 31 == r / 2 ^ 31) carriers h)

      -- All places are those of events with readings.
      carry : AllPlaces (HasReading slots) carriers
      carry = all_found (HasReading slots) carriers sub.rising (λ p at. carries_some (stored_at slots p.1) (chosen_test (is_carrier d) slots (place_of p.0 es) p.1 (sym (sub.each p.0) ∙ at)))

      -- All are those of events.
      held : AllPlaces (λ p. IsHeld slots p.1) carriers
      held = all_held (is_carrier d) rows es carriers slots keyed sub

      -- The last place in front of the key is that of an event.
      pub before_stored : IsStored slots (last_of (places_before r carriers))
      before_stored = stored_last slots (places_before r carriers) (on_side (λ p. IsHeld slots p.1) (λ x. nat_lt x r) held)

      -- The first place behind it is.
      pub behind_stored : IsStored slots (slice_get (places_behind r carriers) 0)
      behind_stored = stored_first slots (places_behind r carriers) (on_side (λ p. IsHeld slots p.1) (λ x. nat_lt r x) held)

      -- Events cut by their numbers, by the places cut at the key's rank.
      cut : (f g : ℕ → Bool) → ((x : ℕ) → x / 2 ^ 31 ≡ row.slot → f (x % 2 ^ 31) ≡ g x)
          → left f (passing_of is_live key.tx all) ≡ flat_map readings_of (map (entry_of key.tx slots) (filter (λ e. g e.0) (segment (r / 2 ^ 31) carriers)))
      cut f g same =
          carrying (λ e. f e.0.seq) key.tx all ∙ ap (left f) (segment_passing rows es slots keyed.rising keyed.ranks (is_carrier d) carriers sub key.tx row row_is)
          ∙ ap (flat_map readings_of) (map_cut (entry_of key.tx slots) (λ e. f e.0.seq) g row.slot carriers (λ e at. same e.0 at))
          ∙ ap (λ t. flat_map readings_of (map (entry_of key.tx slots) (filter (λ (e : EventPlace). g e.0) (segment t carriers)))) (sym home)

      -- The last reading in front of the key.
      pub before_is : last_reading (own_readings d key.tx (before_key key all)) ≡ last_at slots d (last_of (places_before r carriers))
      before_is =
          ap last_reading (own_before ∙ cut (λ n. nat_lt n key.seq) (λ x. nat_lt x r) (λ x at. less_rank row.slot key.seq x at ∙ ap (λ k. nat_lt x k) (sym is)))
          ∙ last_flat key.tx slots (places_before r carriers) (on_side (HasReading slots) (λ x. nat_lt x r) carry)

      -- The first reading behind it.
      pub behind_is : first_reading (own_readings d key.tx (behind_key key all)) ≡ first_at slots d (slice_get (places_behind r carriers) 0)
      behind_is =
          ap first_reading (own_behind ∙ cut (λ n. nat_lt key.seq n) (λ x. nat_lt r x) (λ x at. more_rank row.slot key.seq x at ∙ ap (λ k. nat_lt k x) (sym is)))
          ∙ first_flat key.tx slots (places_behind r carriers) (on_side (HasReading slots) (λ x. nat_lt r x) carry)
