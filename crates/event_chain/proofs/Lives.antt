-- The live events of a transaction are those of its segment of an index.
use Rattle.std.{proofs.lemmas.Grind.common_steps, proofs.Common.{◌≡◌, ℕ, ◌/◌, ◌^◌, ◌==◌, Bool, true, false, not, cond, ◌&&◌, T, List, [], ◌∷◌, Option, Some, None, is_some, length, map, sum_by, refl, sym, ap, ◌∙◌, subst, arith, append-nil, slice_get, option_map, unwrap_or, ◌-◌}, specs.List.{filter, count_by, filter_map}, proofs.lemmas.List.length-map, proofs.lemmas.Option.slice_get-map, proofs.lemmas.Simd.map-map, specs.Str.bytes_eq, specs.Ordering.{eq_by_cmp, nat_cmp}, specs.FinMap.find, specs.FinMap.Entries.below_all, proofs.lemmas.Slice.Eq.bytes_eq-Decides, proofs.lemmas.Bool.Decides.Decides-eqb}
use Rattle.key_index.{specs.Entries.last_of, specs.Key.rank}
use Rattle.ledger_model.{specs.Evse.{first_or_zero, evse_of}, specs.Key.{KeyName, key_cmp}, specs.Content.{Entry, Stored, live_of}, specs.Entries.IsRising, proofs.Callers.{first, second, find_below}, proofs.Rising.both, specs.Complete.kinds_of, specs.Gaps.numbers_of}
use Rattle.event_store.specs.Slots.{Held}
use Rattle.event_chain.{specs.declared.row.TableRow.TableRow, specs.Table.{TxRow, AreRising, row_of}, specs.Flat.{EventPlace, place_of, entry_of, segment, flat, event_at, number_at, look_in, look}, specs.Kept.{AreRanks, HasPlace, IsBare, IsKeyed, IsSub, chosen, is_live, is_naming, is_end, live_one, end_one}, specs.Edits.{first_under, last_under, evse_at}, specs.EventLines.{events_of, line_at, line_of}, specs.Walk.{number_in, numbers_at}, proofs.Changes.{find_first, find_rest}, proofs.Decided.{key_test, id_test, rank_test, denied, not_so}, proofs.Flats.{find_entries, number_is, find_flat, flat_rising, same_flat, entries_rising}}

-- An event, where it passes a test.
abbrev pub passing : (Stored → Bool) → Option Stored → Option Stored
passing test None = None
passing test (Some s) = cond (test s) (Some s) None

-- The entries of a transaction that pass a test.
abbrev pub passing_of : (Stored → Bool) → List ℕ → List Entry → List Entry
passing_of test tx es = filter (λ e. bytes_eq tx e.0.tx && test e.1) es

-- Keys below others are below those that are left.
below_filter : (p : Entry → Bool) (k : KeyName) (es : List Entry) → T (below_all key_cmp k es) → T (below_all key_cmp k (filter p es))
below_filter p k [] h = tt
below_filter p k (e ∷ es) h =
    let rest = below_filter p k es (second _ _ h) in
    elim (p e) as (λ b. T (below_all key_cmp k (cond b (e ∷ filter p es) (filter p es)))) [ true ↦ both _ _ (first _ _ h) rest | false ↦ rest ]

-- What is left rises.
pub filter_rising : (p : Entry → Bool) (es : List Entry) → IsRising es → IsRising (filter p es)
filter_rising p [] h = tt
filter_rising p (e ∷ es) h =
    let rest = filter_rising p es (second _ _ h) in
    elim (p e) as (λ b. IsRising (cond b (e ∷ filter p es) (filter p es))) [ true ↦ both _ _ (below_filter p e.0 es (first _ _ h)) rest | false ↦ rest ]

-- What is found among those that pass.
pub find_passing : (test : Stored → Bool) (tx : List ℕ) (q : KeyName) (es : List Entry) → IsRising es
    → find key_cmp q (passing_of test tx es) ≡ cond (bytes_eq tx q.tx) (passing test (find key_cmp q es)) None
find_passing test tx q [] h = elim (bytes_eq tx q.tx) as (λ b. ◌≡◌ {A = Option Stored} None (cond b None None)) [ true ↦ refl | false ↦ refl ]
find_passing test tx q (e ∷ es) h =
    let rest = find_passing test tx q es (second _ _ h) in let left = passing_of test tx es in
    elim (eq_by_cmp key_cmp q e.0) as (λ b. eq_by_cmp key_cmp q e.0 ≡ b
    → find key_cmp q (cond (bytes_eq tx e.0.tx && test e.1) (e ∷ left) left) ≡ cond (bytes_eq tx q.tx) (passing test (cond b (Some e.1) (find key_cmp q es))) None) [
      | false ↦ λ other. elim (bytes_eq tx e.0.tx && test e.1) as (λ b. find key_cmp q (cond b (e ∷ left) left) ≡ cond (bytes_eq tx q.tx) (passing test (find key_cmp q es)) None) [
        | true ↦ ap (λ b. cond b (Some e.1) (find key_cmp q left)) other ∙ rest
        | false ↦ rest
      ]
      | true ↦ λ same.
          let is : q ≡ e.0 = (key_test q e.0).0 same in
          let gone : find key_cmp q es ≡ None = find_below q es (subst (λ k. T (below_all key_cmp k es)) (sym is) (first _ _ h)) in
          let none : find key_cmp q left ≡ None =
          rest ∙ ap (λ o. cond (bytes_eq tx q.tx) (passing test o) None) gone
          ∙ elim (bytes_eq tx q.tx) as (λ b. ◌≡◌ {A = Option Stored} (cond b None None) None) [ true ↦ refl | false ↦ refl ] in
          ap (λ (k : KeyName). find key_cmp q (cond (bytes_eq tx k.tx && test e.1) (e ∷ left) left)) (sym is)
          ∙ elim (bytes_eq tx q.tx) as (λ b. find key_cmp q (cond (b && test e.1) (e ∷ left) left) ≡ cond b (cond (test e.1) (Some e.1) None) None) [
            | false ↦ none
            | true ↦ elim (test e.1) as (λ b. find key_cmp q (cond b (e ∷ left) left) ≡ cond b (Some e.1) None) [ true ↦ ap (λ b. cond b (Some e.1) (find key_cmp q left)) same | false ↦ none ]
          ]
    ] refl

-- Tests of two filters.
pub live_of_is : (tx : List ℕ) (es : List Entry) → live_of tx es ≡ passing_of is_live tx es
live_of_is tx [] = refl
live_of_is tx (e ∷ es) = grind (arith, common_steps, live_of_is tx es)

module _ (rows : List TxRow) (es : List EventPlace) (slots : List (Option Held)) (rising : AreRising rows) (ranks : AreRanks es)
    (test : Stored → Bool) (sub : List EventPlace) (is_sub : IsSub test es slots sub) (tx : List ℕ) (row : TableRow)
    (row_is : row_of tx rows ≡ Some row) where
  -- The event of a number in the sub-index.
  sub_number : (seq : ℕ) → event_at slots (number_at row.slot seq sub) ≡ passing test (event_at slots (number_at row.slot seq es))
  sub_number seq = grind (arith, common_steps)

  -- Those of the transaction that pass are those of its segment.
  pub segment_passing : passing_of test tx (flat rows es slots) ≡ map (entry_of tx slots) (segment row.slot sub)
  segment_passing =
      let all = flat rows es slots in let seg = map (entry_of tx slots) (segment row.slot sub) in
      same_flat (passing_of test tx all) seg (filter_rising (λ e. bytes_eq tx e.0.tx && test e.1) all (flat_rising rows es slots rising ranks))
      (subst IsRising (append-nil seg) (entries_rising tx row.slot slots sub [] is_sub.rising tt (λ n. tt))) (λ q.
      find_passing test tx q all (flat_rising rows es slots rising ranks) ∙ ap (λ o. cond (bytes_eq tx q.tx) (passing test o) None) (find_flat q rows es slots rising)
      ∙ elim (bytes_eq tx q.tx) as (λ b. bytes_eq tx q.tx ≡ b → cond b (passing test (look rows es slots q)) None ≡ find key_cmp q seg) [
        | false ↦ λ other. sym
            (find_entries q tx row.slot slots sub
            ∙ ap (λ b. cond b (event_at slots (place_of (rank row.slot q.seq) (segment row.slot sub))) None)
            (not_so _ (id_test q.tx tx) (λ e. denied _ (bytes_eq-Decides tx q.tx) other (sym e))))
        | true ↦ λ same. let id : tx ≡ q.tx = (bytes_eq-Decides tx q.tx).0 same in
            ap (λ t. passing test (look_in es slots q.seq (row_of t rows))) (sym id)
            ∙ ap (λ o. passing test (look_in es slots q.seq o)) row_is ∙ sym (sub_number q.seq)
            ∙ ap (event_at slots) (sym (number_is row.slot q.seq sub))
            ∙ sym (find_entries q tx row.slot slots sub ∙ ap (λ b. cond b (event_at slots (place_of (rank row.slot q.seq) (segment row.slot sub))) None) ((id_test q.tx tx).1 (sym id)))
      ] refl)

module _ (rows : List TxRow) (es : List EventPlace) (slots : List (Option Held)) (rising : AreRising rows) (ranks : AreRanks es)
    (test : Stored → Bool) (tx : List ℕ) (absent : row_of tx rows ≡ None) where
  -- None of an absent transaction pass.
  pub none_passing : passing_of test tx (flat rows es slots) ≡ []
  none_passing = grind (arith, common_steps, same_flat, filter_rising, flat_rising, find_passing, find_flat, bytes_eq-Decides)

-- How many live events a transaction has.
pub live_length : (tx : List ℕ) (es : List Entry) → length (live_of tx es) ≡ sum_by (live_one tx) es
live_length tx es = ap length (live_of_is tx es) ∙ counted es where
  counted : (xs : List Entry) → length (passing_of is_live tx xs) ≡ sum_by (live_one tx) xs
  counted [] = refl
  counted (e ∷ xs) = grind (arith, common_steps, counted xs)

-- How many of them are Started or Ended.
pub ends_length : (tx : List ℕ) (es : List Entry) → count_by is_end (kinds_of tx es) ≡ sum_by (end_one tx) es
ends_length tx es = ap (λ (xs : List Entry). count_by is_end (map (λ e. e.1.event.kind) xs)) (live_of_is tx es) ∙ counted es where
  counted : (xs : List Entry) → count_by is_end (map (λ (e : Entry). e.1.event.kind) (passing_of is_live tx xs)) ≡ sum_by (end_one tx) xs
  counted [] = refl
  counted (e ∷ xs) = grind (arith, common_steps, counted xs)

-- The places of a transaction in an index, if it is known.
abbrev pub places_under : List EventPlace → Option TableRow → List EventPlace
places_under es None = []
places_under es (Some row) = segment row.slot es

-- The first of them.
first_is : (es : List EventPlace) (o : Option TableRow) → slice_get (places_under es o) 0 ≡ first_under es o
first_is es None = refl
first_is es (Some row) = refl

-- The last one.
last_is : (es : List EventPlace) (o : Option TableRow) → last_of (places_under es o) ≡ last_under es o
last_is es None = refl
last_is es (Some row) = refl

-- Their numbers.
numbers_are : (es : List EventPlace) (o : Option TableRow) → map number_in (places_under es o) ≡ numbers_at es (option_map (λ r. r.slot) o)
numbers_are es None = refl
numbers_are es (Some row) = refl

-- All events pass this test.
any : Stored → Bool
any s = true

all_sub : (es : List EventPlace) (slots : List (Option Held)) → AreRanks es → IsSub any es slots es
unfolding any
all_sub es slots ranks = record { rising = ranks; each = λ r. told (place_of r es) } where
  told : (o : Option ℕ) → o ≡ chosen any slots o
  told o = grind (arith, common_steps)

passing_any : (tx : List ℕ) (es : List Entry) → filter (λ e. bytes_eq tx e.0.tx) es ≡ passing_of any tx es
unfolding any
passing_any tx [] = refl
passing_any tx (e ∷ es) = grind (arith, common_steps, passing_any tx es)

module _ {rows : List TxRow} {es : List EventPlace} {slots : List (Option Held)} (keyed : IsKeyed rows es slots) (tx : List ℕ) where
  -- What a transaction's events that pass a test are turned into, by their places.
  turned : {Y : Type 0} (f : Entry → Y) (test : Stored → Bool) (sub : List EventPlace) → IsSub test es slots sub
      → map f (passing_of test tx (flat rows es slots)) ≡ map (λ p. f (entry_of tx slots p)) (places_under sub (row_of tx rows))
  turned {Y = Y} f test sub is_sub = told (row_of tx rows) refl where
    told : (o : Option TableRow) → row_of tx rows ≡ o → map f (passing_of test tx (flat rows es slots)) ≡ map (λ p. f (entry_of tx slots p)) (places_under sub o)
    told None is = ap (map f) (none_passing rows es slots keyed.rising keyed.ranks test tx is)
    told (Some row) is = ap (map f) (segment_passing rows es slots keyed.rising keyed.ranks test sub is_sub tx row is) ∙ map-map f (entry_of tx slots) (segment row.slot sub)

  -- The events of a transaction, by its places.
  pub events_under : events_of tx (flat rows es slots) ≡ map (line_at slots) (places_under es (row_of tx rows))
  events_under = ap (map (λ (e : Entry). line_of e.0.seq e.1)) (passing_any tx (flat rows es slots)) ∙ turned (λ e. line_of e.0.seq e.1) any es (all_sub es slots keyed.ranks)

  module _ {lives : List EventPlace} (sub : IsSub is_live es slots lives) where
    live_turned : {Y : Type 0} (f : Entry → Y) → map f (live_of tx (flat rows es slots)) ≡ map (λ p. f (entry_of tx slots p)) (places_under lives (row_of tx rows))
    live_turned f = ap (map f) (live_of_is tx (flat rows es slots)) ∙ turned f is_live lives sub

    -- The live numbers of a transaction are those of its live places.
    pub live_numbers : numbers_of tx (flat rows es slots) ≡ numbers_at lives (option_map (λ r. r.slot) (row_of tx rows))
    live_numbers = live_turned (λ e. e.0.seq) ∙ numbers_are lives (row_of tx rows)

    module _ {Y : Type 0} (f : Entry → Y) where
      -- The first live event of a transaction is that of its first live place.
      pub first_live : slice_get (map f (live_of tx (flat rows es slots))) 0 ≡ option_map (λ p. f (entry_of tx slots p)) (first_under lives (row_of tx rows))
      first_live = ap (λ ys. slice_get ys 0) (live_turned f) ∙ slice_get-map (λ p. f (entry_of tx slots p)) (places_under lives (row_of tx rows)) 0
          ∙ ap (option_map (λ p. f (entry_of tx slots p))) (first_is lives (row_of tx rows))

      -- The last is that of its last one.
      pub last_live : let ys = map f (live_of tx (flat rows es slots)) in slice_get ys (length ys - 1) ≡ option_map (λ p. f (entry_of tx slots p)) (last_under lives (row_of tx rows))
      last_live = let g = λ (p : EventPlace). f (entry_of tx slots p) in let ps = places_under lives (row_of tx rows) in
          ap (λ ys. slice_get ys (length ys - 1)) (live_turned f) ∙ ap (λ n. slice_get (map g ps) (n - 1)) (length-map ps g)
          ∙ slice_get-map g ps (length ps - 1) ∙ ap (option_map g) (last_is lives (row_of tx rows))

-- The EVSE of an entry, or 0.
abbrev evse_first : Option Entry → ℕ
evse_first None = 0
evse_first (Some e) = unwrap_or e.1.event.evse 0

-- One entry more.
named : (e : Entry) (mine voided : Bool) (evse : Option ℕ) → e.1.event.evse ≡ evse → (lives names : List Entry)
    → first_or_zero (filter_map (λ x. x.1.event.evse) lives) ≡ evse_first (slice_get names 0)
    → first_or_zero (filter_map (λ x. x.1.event.evse) (cond (mine && not voided) (e ∷ lives) lives)) ≡ evse_first (slice_get (cond (mine && (not voided && is_some evse)) (e ∷ names) names) 0)
named e mine voided evse is lives names rest = grind (arith, common_steps)

-- The first EVSE that is named is that of the first event that names one.
evse_naming : (tx : List ℕ) (es : List Entry) → first_or_zero (filter_map (λ e. e.1.event.evse) (passing_of is_live tx es)) ≡ evse_first (slice_get (passing_of is_naming tx es) 0)
evse_naming tx [] = refl
evse_naming tx (e ∷ es) = let rest = evse_naming tx es in named e (bytes_eq tx e.0.tx) e.1.voided e.1.event.evse refl (passing_of is_live tx es) (passing_of is_naming tx es) rest

-- The EVSE of a transaction is that of its first naming place.
pub evse_number : {rows : List TxRow} {es names : List EventPlace} {slots : List (Option Held)} → IsKeyed rows es slots
    → IsSub is_naming es slots names → (tx : List ℕ) → evse_of tx (flat rows es slots) ≡ evse_at slots (first_under names (row_of tx rows))
evse_number {rows = rows} {es = es} {names = names} {slots = slots} keyed sub tx =
    ap (λ (xs : List Entry). first_or_zero (filter_map (λ e. e.1.event.evse) xs)) (live_of_is tx (flat rows es slots)) ∙ evse_naming tx (flat rows es slots) ∙ told (row_of tx rows) refl where
      placed : (ps : List EventPlace) → evse_first (slice_get (map (entry_of tx slots) ps) 0) ≡ evse_at slots (slice_get ps 0)
      placed [] = refl
      placed (p ∷ ps) = refl

      told : (o : Option TableRow) → row_of tx rows ≡ o → evse_first (slice_get (passing_of is_naming tx (flat rows es slots)) 0) ≡ evse_at slots (first_under names o)
      told o is = grind (arith, common_steps, none_passing, segment_passing, placed)

-- The first place that is left is found, and passes the test.
pub first_left : (f : EventPlace → Bool) (es : List EventPlace) (p : EventPlace) → AreRanks es → slice_get (filter f es) 0 ≡ Some p → (place_of p.0 es ≡ Some p.1) × (f p ≡ true)
first_left f [] p h is = cc
first_left f (e ∷ es) p h is = elim (f e) as (λ b. f e ≡ b → slice_get (cond b (e ∷ filter f es) (filter f es)) 0 ≡ Some p → (place_of p.0 (e ∷ es) ≡ Some p.1) × (f p ≡ true)) [
  | true ↦ λ y some. let same : e ≡ p = cc in subst (λ (k : EventPlace). (place_of k.0 (e ∷ es) ≡ Some k.1) × (f k ≡ true)) same (find_first nat_cmp rank_test e es, y)
  | false ↦ λ _ some. let rest = first_left f es p (second _ _ h) some in (find_rest nat_cmp rank_test e es h p.0 p.1 rest.0, rest.1)
] refl is

-- Where a segment has a first place, its transaction has one.
pub seg_some : (t : ℕ) (es : List EventPlace) (o : Option EventPlace) → AreRanks es → o ≡ slice_get (segment t es) 0 → is_some o ≡ true → HasPlace es t
seg_some t es None ranks is some = cc
seg_some t es (Some p) ranks is some = let own = first_left (λ e. e.0 / 2 ^ 31 == t) es p ranks (sym is) in
    record { rank = p.0; place = p.1; found = own.0; slot_is = (Decides-eqb (p.0 / 2 ^ 31) t).0 own.1 }

-- Where it has none, its transaction has none.
pub seg_bare : (t : ℕ) (es : List EventPlace) (o : Option EventPlace) → o ≡ slice_get (segment t es) 0 → is_some o ≡ false → IsBare es t
seg_bare t es (Some p) is some r s found home = cc
seg_bare t es None is some r s found home = bare es (sym is) found where
  bare : (ps : List EventPlace) → slice_get (segment t ps) 0 ≡ None → place_of r ps ≡ Some s → ⊥
  bare [] none there = cc
  bare (p ∷ ps) none there = grind (arith, common_steps, bare ps)

-- What was chosen was that place.
pub chosen_place : (test : Stored → Bool) (slots : List (Option Held)) (o : Option ℕ) (s : ℕ) → chosen test slots o ≡ Some s → o ≡ Some s
chosen_place test slots o s h = grind (arith, common_steps)
