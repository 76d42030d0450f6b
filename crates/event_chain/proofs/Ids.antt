-- The transactions of all events are those of the table.
use Rattle.std.{proofs.lemmas.Grind.common_steps, proofs.Common.{arith, ◌≡◌, ℕ, ◌/◌, ◌^◌, false, not, cond, T, List, [], ◌∷◌, ◌++◌, Option, Some, None, is_some, map, refl, sym, ap, ◌∙◌}, specs.List.{filter, list_any}, specs.Str.bytes_eq, proofs.lemmas.List.map-append, specs.Ordering.is_eq, specs.FinMap.Entries.{below_all, is_some-find}, proofs.lemmas.Slice.Eq.bytes_eq-Decides, proofs.lemmas.Map.Text.is_eq-slice_cmp, proofs.lemmas.Bool.Decides.Decides-eqb}
use Rattle.ledger_model.{specs.Content.{Entry, distinct, transactions_of, has_transaction}, proofs.TransactionLemmas.transactions-any, proofs.Callers.{first, second, less}}
use Rattle.event_store.specs.Slots.{Held}
use Rattle.event_chain.{specs.declared.row.TableRow.TableRow, specs.Table.{TxRow, AreRising, id_cmp, row_of}, specs.Flat.{EventPlace, place_of, entry_of, segment, entries_of, flat}, specs.Kept.HasPlace, proofs.Changes.{find_first, find_rest}, proofs.Decided.id_test, proofs.Flats.in_segment}

-- The ids of entries.
abbrev ids : List Entry → List (List ℕ)
ids es = map (λ e. e.0.tx) es

-- The ids of rows.
abbrev names : List TxRow → List (List ℕ)
names rows = map (λ r. r.0) rows

-- Texts except for one.
abbrev others : List ℕ → List (List ℕ) → List (List ℕ)
others x ys = filter (λ y. not (bytes_eq x y)) ys

-- To leave one out twice is to leave it out.
others_twice : (x : List ℕ) (ys : List (List ℕ)) → others x (others x ys) ≡ others x ys
others_twice x [] = refl
others_twice x (y ∷ ys) = grind (arith, common_steps, others_twice x ys)

-- The ids of one transaction's events, and what follows.
run_distinct : (x : List ℕ) (slots : List (Option Held)) (p : EventPlace) (ps : List EventPlace) (ys : List (List ℕ))
    → distinct (ids (map (entry_of x slots) (p ∷ ps)) ++ ys) ≡ x ∷ others x (distinct ys)
run_distinct x slots p [] ys = refl
run_distinct x slots p (q ∷ ps) ys = grind (arith, common_steps, bytes_eq-Decides, others_twice, run_distinct x slots q ps ys)

-- Greater ids are others.
others_below : (x : List ℕ) (rows : List TxRow) → T (below_all id_cmp x rows) → others x (names rows) ≡ names rows
others_below x [] h = refl
others_below x (r ∷ rows) h =
    let apart : bytes_eq x r.0 ≡ false = sym (is_eq-slice_cmp x r.0) ∙ ap is_eq (less _ (first _ _ h)) in
    ap (λ b. cond (not b) (r.0 ∷ others x (names rows)) (others x (names rows))) apart ∙ ap (λ (zs : List (List ℕ)). r.0 ∷ zs) (others_below x rows (second _ _ h))

-- Each row's slot has a place.
abbrev AllFilled : List TxRow → List EventPlace → Type 0
AllFilled [] es = Unit {0}
AllFilled (r ∷ rows) es = HasPlace es r.1.slot × AllFilled rows es

-- That is so where each transaction found has one.
all_filled : (rows : List TxRow) (es : List EventPlace) → AreRising rows → ((tx : List ℕ) (row : TableRow) → row_of tx rows ≡ Some row → HasPlace es row.slot) → AllFilled rows es
all_filled [] es rising filled = tt
all_filled (r ∷ rows) es rising filled =
    (filled r.0 r.1 (find_first id_cmp id_test r rows), all_filled rows es (second _ _ rising) (λ tx row is. filled tx row (find_rest id_cmp id_test r rows rising tx row is)))

-- What is found in a list makes it no empty one.
split : (ps : List EventPlace) → (r : ℕ) × ((s : ℕ) × (place_of r ps ≡ Some s)) → (p : EventPlace) × ((rest : List EventPlace) × (ps ≡ p ∷ rest))
split [] some = let e = some.1.1 in cc
split (p ∷ ps) some = (p, (ps, refl))

-- A slot that has a place has a segment.
pub some_segment : (t : ℕ) (es : List EventPlace) → HasPlace es t → (p : EventPlace) × ((ps : List EventPlace) × (segment t es ≡ p ∷ ps))
some_segment t es has = split (segment t es)
    (has.rank, (has.place, in_segment t has.rank es ∙ ap (λ b. cond b (place_of has.rank es) None) ((Decides-eqb (has.rank / 2 ^ 31) t).1 has.slot_is) ∙ has.found))

-- The transactions are those of the table.
ids_rows : (rows : List TxRow) (es : List EventPlace) (slots : List (Option Held)) → AreRising rows → AllFilled rows es → transactions_of (flat rows es slots) ≡ names rows
ids_rows [] es slots rising filled = refl
ids_rows (r ∷ rows) es slots rising filled =
    let some = some_segment r.1.slot es filled.0 in let rest = flat rows es slots in
    ap distinct (map-append (λ (e : Entry). e.0.tx) (entries_of es slots r) rest)
    ∙ ap (λ (ps : List EventPlace). distinct (ids (map (entry_of r.0 slots) ps) ++ ids rest)) some.1.1 ∙ run_distinct r.0 slots some.0 some.1.0 (ids rest)
    ∙ ap (λ (zs : List (List ℕ)). r.0 ∷ others r.0 zs) (ids_rows rows es slots (second _ _ rising) filled.1) ∙ ap (λ (zs : List (List ℕ)). r.0 ∷ zs) (others_below r.0 rows (first _ _ rising))

-- The same, where each transaction found has a place.
pub ids_flat : (rows : List TxRow) (es : List EventPlace) (slots : List (Option Held)) → AreRising rows
    → ((tx : List ℕ) (row : TableRow) → row_of tx rows ≡ Some row → HasPlace es row.slot)
    → transactions_of (flat rows es slots) ≡ map (λ (r : TxRow). r.0) rows
ids_flat rows es slots rising filled = ids_rows rows es slots rising (all_filled rows es rising filled)

-- A transaction has an event where the table has it.
pub has_flat : (tx : List ℕ) (rows : List TxRow) (es : List EventPlace) (slots : List (Option Held)) → AreRising rows
    → ((q : List ℕ) (row : TableRow) → row_of q rows ≡ Some row → HasPlace es row.slot)
    → has_transaction tx (flat rows es slots) ≡ is_some (row_of tx rows)
has_flat tx rows es slots rising filled =
    sym (transactions-any tx (flat rows es slots)) ∙ ap (list_any (bytes_eq tx)) (ids_flat rows es slots rising filled)
    ∙ sym (λ i. list_any (λ y. is_eq-slice_cmp tx y i) (names rows)) ∙ sym (is_some-find id_cmp tx rows)
