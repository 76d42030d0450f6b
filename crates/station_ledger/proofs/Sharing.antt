-- What a board finds of readings that are shared by time.
use Rattle.std.{proofs.lemmas.Bool.Decides.nat_tests, proofs.Common.{◌≡◌, ℕ, ◌+◌, Bool, true, cond, T, List, [], ◌∷◌, ◌++◌, Option, None, Some, length, map, append-nil, refl, sym, ap, ◌∙◌, arith, slice_get, take, not, append_assoc}, specs.List.{AllByRecursion, filter, flat_map}, specs.FinMap.find, specs.FinMap.Entries.below_all, specs.Str.bytes_eq, proofs.lemmas.Grind.flat_map-append, proofs.lemmas.List.{flat_map_more, map-append, nil_from_length, take_more}, proofs.lemmas.Option.{get_or_from_slice_get, slice_get_within}, proofs.lemmas.Slice.Eq.bytes_eq-Decides}
use Rattle.std.specs.FinMap as finite
use Rattle.event_chain.{specs.Table.{Table, row_of}, specs.Chains.{Chained, stored}, specs.Room.readings_under, proofs.Decided.key_test}
use Rattle.ledger_model.{specs.InTime.in_time, specs.Limits.Bounds, specs.declared.order.Order.Order, specs.declared.order.Order.TheVariants.{Sequence, Moment}, specs.declared.reading.Direction.TheVariants.{Import, Export}, specs.Content.{Entry, live, live_of}, specs.Deltas.{across, pairs_between}, specs.Energy.{Pair, followed, parts_of, parts_over, readings_by}, specs.Entries.IsRising, specs.Event.{MeterReading, toward}, specs.Gaps.numbers_of, specs.Key.key_cmp, specs.declared.reading.Direction.Direction, proofs.Callers.{find_below, first, in_time-map, second}, specs.ByDirection.flows_toward, specs.Parts.Part}
use Rattle.quarter_table.{proofs.Several.{made_with, rows_with-append}, specs.declared.row.QuarterRow.QuarterRow, specs.Pairs.{parts_toward, rows_of, rows_with}}
use Rattle.station_ledger.{specs.ByMoment.AreSlots, specs.Listing.{placed, placed_by, placed_from}, specs.Numbered.{AreNumbered, AreNumbers}, specs.Quarters.readings_at, specs.Shares.{evenly, with_shares}}
use Rattle.reading_index.specs.declared.placed.PlacedReading.{PlacedReading}

-- Shares of more pairs are added behind those of the first.
pub shares-append : (length : ℕ) (d : Direction) (ps qs : List Pair) (rows : List QuarterRow) → with_shares length d (ps ++ qs) rows ≡ with_shares length d qs (with_shares length d ps rows)
shares-append length d ps qs rows =
    ap (λ ts. rows_with (parts_toward d ts) rows) (flat_map-append (parts_of (evenly length)) ps qs)
    ∙ ap (λ fs. rows_with fs rows) (map-append (λ (t : Part). (t.0, flows_toward d t.1)) (parts_over (evenly length) ps) (parts_over (evenly length) qs))
    ∙ rows_with-append (parts_toward d (parts_over (evenly length) ps)) (parts_toward d (parts_over (evenly length) qs)) rows

-- The pairs of readings in a row.
pub followed_between : (rs : List MeterReading) → followed rs ≡ pairs_between None rs None
followed_between [] = refl
followed_between (r ∷ []) = refl
followed_between (r ∷ s ∷ rs) = ap (λ ps. (r, s) ∷ ps) (followed_between (s ∷ rs))

-- No pair is left behind the last reading.
pub none_left : (last : Option MeterReading) → pairs_between last [] None ≡ []
none_left None = refl
none_left (Some r) = refl

-- One step along readings.
pub stepped : (length : ℕ) (d : Direction) (last : Option MeterReading) (r : MeterReading) (left rest : List MeterReading) (rows next all : List QuarterRow)
    → left ≡ r ∷ rest → next ≡ with_shares length d (across last (Some r)) rows
    → with_shares length d (pairs_between last left None) rows ≡ all
    → with_shares length d (pairs_between (Some r) rest None) next ≡ all
stepped length d last r left rest rows next all steps added was =
    ap (with_shares length d (pairs_between (Some r) rest None)) added
    ∙ sym (shares-append length d (across last (Some r)) (pairs_between (Some r) rest None) rows)
    ∙ sym (ap (λ rs. with_shares length d (pairs_between last rs None) rows) steps) ∙ was

-- One transaction more.
pub taken_more : {X : Type 0} (f : List ℕ → List X) (ids : List (List ℕ)) (n : ℕ) (tx : List ℕ) → slice_get ids n ≡ Some tx → flat_map f (take (n + 1) ids) ≡ flat_map f (take n ids) ++ f tx
taken_more f ids n tx at =
    ap (flat_map f) (take_more ids n tx (slice_get_within ids n tx at) ∙ ap (λ t. take n ids ++ t ∷ []) (get_or_from_slice_get ids n tx tx at)) ∙ sym (flat_map_more f [] (take n ids) tx)

-- An entry is found under its key.
abbrev IsFound : List Entry → Entry → Type 0
IsFound es e = find key_cmp e.0 es ≡ Some e.1

found_behind : (e : Entry) (es fs : List Entry) → T (below_all key_cmp e.0 es) → AllByRecursion (IsFound es) fs → AllByRecursion (IsFound (e ∷ es)) fs
found_behind e es [] below all = tt
found_behind e es (f ∷ fs) below all = grind (arith, found_behind e es fs below all.1, all.0, find_below e.0 es below, key_test f.0 e.0)

pub all_found : (es : List Entry) → IsRising es → AllByRecursion (IsFound es) es
all_found [] up = tt
all_found (e ∷ es) up = (ap (λ b. cond b (Some e.1) (find key_cmp e.0 es)) ((key_test e.0 e.0).1 refl), found_behind e es es (first _ _ up) (all_found es (second _ _ up)))

-- Those that pass a test are found, too.
found_passed : (p : Entry → Bool) (all es : List Entry) → AllByRecursion (IsFound all) es → AllByRecursion (IsFound all) (filter p es)
found_passed p all [] found = tt
found_passed p all (e ∷ es) found = grind (arith, found_passed p all es found.1, found.0)

-- What the readings under the numbers of a transaction's entries make is what those of the entries make.
module _ {X : Type 0} (made : ℕ → List MeterReading → List X) where
  read_each : (d : Direction) (tx : List ℕ) (all es : List Entry) → AllByRecursion (IsFound all) es
      → flat_map (λ n. made n (readings_under d (find key_cmp (record { tx = tx; seq = n }) all))) (map (λ (e : Entry). e.0.seq) (filter (λ (e : Entry). bytes_eq tx e.0.tx) es))
      ≡ flat_map (λ (e : Entry). made e.0.seq (toward d e.1.event.readings)) (filter (λ (e : Entry). bytes_eq tx e.0.tx) es)
  read_each d tx all [] found = refl
  read_each d tx all (e ∷ es) found =
      let here : bytes_eq tx e.0.tx ≡ true → readings_under d (find key_cmp (record { tx = tx; seq = e.0.seq }) all) ≡ toward d e.1.event.readings = λ is.
      ap (λ t. readings_under d (find key_cmp (record { tx = t; seq = e.0.seq }) all)) ((bytes_eq-Decides tx e.0.tx).0 is) ∙ ap (readings_under d) found.0 in
      grind (arith, here, read_each d tx all es found.1)

  -- So along the numbers of a transaction's live events.
  pub read_along : (d : Direction) (tx : List ℕ) (chains : Chained)
      → flat_map (λ n. made n (readings_at d chains (record { tx = tx; seq = n }))) (numbers_of tx (stored chains))
      ≡ flat_map (λ (e : Entry). made e.0.seq (toward d e.1.event.readings)) (live_of tx (stored chains))
  read_along d tx chains =
      let es = stored chains in
      ap (λ (f : ℕ → List X). flat_map f (numbers_of tx es)) (λ i n. made n (readings_under d (finite.get-entries chains.events (record { tx = tx; seq = n }) i)))
      ∙ read_each d tx es (live es) (found_passed (λ (e : Entry). not e.1.voided) es es (all_found es (finite.entries_sorted chains.events)))

-- The numbers of entries are those of events.
pub numbers_each : (es : List Entry) → AreNumbered es → AreNumbers (map (λ (e : Entry). e.0.seq) es)
numbers_each [] h = tt
numbers_each (e ∷ es) h = (h.0.sequence, numbers_each es h.1)

-- The readings of one number more are listed.
pub walked : {X : Type 0} (reads : ℕ → List X) (was rest : List ℕ) (n : ℕ) (done next all : List X) → was ≡ n ∷ rest
    → next ≡ done ++ reads n → done ++ flat_map reads was ≡ all → next ++ flat_map reads rest ≡ all
walked reads was rest n done next all steps more so_far = ap (λ rs. rs ++ flat_map reads rest) more
    ∙ append_assoc done (reads n) (flat_map reads rest) ∙ sym (ap (λ ns. done ++ flat_map reads ns) steps) ∙ so_far

-- Without their numbers and places they are the readings in a site's order.
places_off : (n p : ℕ) (rs : List MeterReading) → map (λ (r : PlacedReading). r.reading) (placed_from n p rs) ≡ rs
places_off n p [] = refl
places_off n p (r ∷ rs) = ap (λ ss. r ∷ ss) (places_off n (p + 1) rs)

places_off_each : (d : Direction) (es : List Entry) → map (λ (r : PlacedReading). r.reading) (flat_map (placed d) es) ≡ flat_map (λ (e : Entry). toward d e.1.event.readings) es
places_off_each d [] = refl
places_off_each d (e ∷ es) = map-append (λ (r : PlacedReading). r.reading) (placed d e) (flat_map (placed d) es) ∙ (λ i. places_off e.0.seq 0 (toward d e.1.event.readings) i ++ places_off_each d es i)

pub placed_readings : (order : Order) (d : Direction) (tx : List ℕ) (es : List Entry) → map (λ r. r.reading) (placed_by order d tx es) ≡ readings_by order d tx es
placed_readings Sequence d tx es = places_off_each d (live_of tx es)
placed_readings Moment d tx es =
    sym (in_time-map (λ (r : MeterReading). r.moment) (λ (r : PlacedReading). r.reading) (flat_map (placed d) (live_of tx es)))
    ∙ ap (in_time (λ (r : MeterReading). r.moment)) (places_off_each d (live_of tx es))

-- A transaction without a slot has no reading by moment.
pub none_in_time : (d : Direction) (tx : List ℕ) (limits : Bounds) (es : List Entry) (slots : Table) → AreSlots limits es slots → row_of tx slots.rows ≡ None → placed_by Moment d tx es ≡ []
none_in_time d tx limits es slots are none = grind (arith, nat_tests, nil_from_length (live_of tx es), are.each tx, none)

-- The rows of both directions, one after the other.
pub rows_shared : (length : ℕ) (ps qs : List Pair) (rows next : List QuarterRow) → rows ≡ with_shares length Import ps [] → next ≡ with_shares length Export qs rows
    → next ≡ rows_of (parts_toward Import (parts_over (evenly length) ps) ++ parts_toward Export (parts_over (evenly length) qs))
rows_shared length ps qs rows next one two =
    let imported = parts_toward Import (parts_over (evenly length) ps) in let exported = parts_toward Export (parts_over (evenly length) qs) in
    two ∙ ap (with_shares length Export qs) one ∙ sym (rows_with-append imported exported []) ∙ made_with (imported ++ exported) [] ∙ ap rows_of (append-nil (imported ++ exported))
