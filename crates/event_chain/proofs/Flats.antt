-- All stored events rise by key, and are found by transaction and rank.
use Rattle.std.{proofs.lemmas.Grind.common_steps, proofs.Common.{◌≡◌, ℕ, ◌<◌, ◌/◌, ◌%◌, ◌^◌, ◌==◌, nat_lt, true, false, cond, T, List, [], ◌∷◌, ◌++◌, Option, Some, None, map, refl, sym, ap, ◌∙◌, subst, arith}, proofs.lemmas.Bool.Decides.{Decides-eqb, Decides-ltb}, specs.Ordering.{is_lt, eq_by_cmp, nat_cmp, ordering_then}, specs.declared.cmp.Ordering.Ordering, specs.declared.cmp.Ordering.TheVariants.{Less, Equal, Greater}, specs.FinMap.{find, nat_cmp-IsAntisymmetric}, specs.FinMap.Entries.{below_all, find-where_key, same_entries}, specs.Cmp.tied_itself, specs.Cmp.Lexicographic.nat_list_cmp_total}
use Rattle.ledger_model.{proofs.Callers.{first, second, less, key_total, exact_keys}, proofs.Rising.both, specs.Entries.IsRising, specs.Key.{KeyName, key_cmp}, specs.Content.{Entry, Stored}}
use Rattle.key_index.specs.Key.{rank}
use Rattle.event_store.specs.Slots.{Held}
use Rattle.event_chain.{specs.declared.row.TableRow.TableRow, specs.Table.{TxRow, AreRising, id_cmp}, specs.Flat.{EventPlace, place_of, entry_of, segment, entries_of, flat, event_at, number_at, look}, specs.Kept.AreRanks, proofs.Changes.find_none, proofs.Decided.{key_test, id_test, rank_test, not_so, denied, same_test}}

-- The first of two that is there.
abbrev pub either : {X : Type 0} → Option X → Option X → Option X
either None b = b
either (Some x) b = Some x

-- What is found in two lists, one after the other.
pub find_both : {K X : Type 0} (R : K → K → Ordering) (q : K) (xs ys : List (K × X)) → find R q (xs ++ ys) ≡ either (find R q xs) (find R q ys)
find_both R q [] ys = refl
find_both R q (x ∷ xs) ys =
    elim (eq_by_cmp R q x.0) as (λ b. cond b (Some x.1) (find R q (xs ++ ys)) ≡ either (cond b (Some x.1) (find R q xs)) (find R q ys)) [ true ↦ refl | false ↦ find_both R q xs ys ]

-- A place and its rank, by its transaction's slot.
rank_split : (r t : ℕ) → r / 2 ^ 31 ≡ t → r ≡ rank t (r % 2 ^ 31)
rank_split r t e = omega (arith)

-- A key of a transaction's place, by its rank.
key_place : (q : KeyName) (tx : List ℕ) (t : ℕ) (e : EventPlace) → e.0 / 2 ^ 31 ≡ t → eq_by_cmp id_cmp q.tx tx ≡ true
    → eq_by_cmp key_cmp q (record { tx = tx; seq = e.0 % 2 ^ 31 }) ≡ eq_by_cmp nat_cmp (rank t q.seq) e.0
key_place q tx t e home is = grind (arith, common_steps, id_test, rank_split, same_test, key_test, rank_test)

-- What is found among the events of a transaction.
pub find_entries : (q : KeyName) (tx : List ℕ) (t : ℕ) (slots : List (Option Held)) (es : List EventPlace)
    → find key_cmp q (map (entry_of tx slots) (segment t es)) ≡ cond (eq_by_cmp id_cmp q.tx tx) (event_at slots (place_of (rank t q.seq) (segment t es))) None
find_entries q tx t slots [] = elim (eq_by_cmp id_cmp q.tx tx) as (λ b. ◌≡◌ {A = Option Stored} None (cond b None None)) [ true ↦ refl | false ↦ refl ]
find_entries q tx t slots (e ∷ es) =
    let rest = find_entries q tx t slots es in grind (arith, common_steps, key_place, Decides-eqb, not_so, key_test, denied, id_test)

-- A place of a transaction is that of all, if it is its.
pub in_segment : (t r : ℕ) (es : List EventPlace) → place_of r (segment t es) ≡ cond (r / 2 ^ 31 == t) (place_of r es) None
in_segment t r es = find-where_key nat_cmp (λ x. x / 2 ^ 31 == t) r (λ x e. ap (λ k. k / 2 ^ 31 == t) (sym (nat_cmp-IsAntisymmetric r x e))) es

-- A number is one below 2^31.
number_test : (t seq : ℕ) → (rank t seq / 2 ^ 31 == t) ≡ nat_lt seq (2 ^ 31)
number_test t seq = same_test _ _ (Decides-eqb (rank t seq / 2 ^ 31) t) (Decides-ltb seq (2 ^ 31)) (λ e. omega arith) (λ lt. omega arith)

-- The place of a number, in its transaction's segment.
pub number_is : (t seq : ℕ) (es : List EventPlace) → place_of (rank t seq) (segment t es) ≡ number_at t seq es
number_is t seq es = in_segment t (rank t seq) es ∙ ap (λ b. cond b (place_of (rank t seq) es) None) (number_test t seq)

-- What is found among all events is what the tables have.
pub find_flat : (q : KeyName) (rows : List TxRow) (es : List EventPlace) (slots : List (Option Held)) → AreRising rows → find key_cmp q (flat rows es slots) ≡ look rows es slots q
find_flat q [] es slots rising = refl
find_flat q (r ∷ rows) es slots rising =
    let rest = find_flat q rows es slots (second _ _ rising) in grind (arith, common_steps, find_both, find_entries, number_is, find_none {X = TableRow} id_cmp, id_test, first)

-- A smaller number comes first.
pub nat_less : (a b : ℕ) → a < b → nat_cmp a b ≡ Less
nat_less a b lt = ap (λ c. cond c Less (cond (a == b) Equal Greater)) ((Decides-ltb a b).1 lt)

-- What comes first is smaller.
pub less_nat : (a b : ℕ) → T (is_lt (nat_cmp a b)) → a < b
less_nat a b h = grind (arith, common_steps)

-- Of one transaction, the smaller number comes first.
less_seq : (tx : List ℕ) (a b : ℕ) → a < b → T (is_lt (key_cmp (record { tx = tx; seq = a }) (record { tx = tx; seq = b })))
less_seq tx a b lt = subst (λ o. T (is_lt (ordering_then o (nat_cmp a b)))) (sym (tied_itself nat_list_cmp_total tx)) (subst (λ o. T (is_lt o)) (sym (nat_less a b lt)) tt)

-- Of two transactions, the one of smaller id comes first.
less_id : (tx other : List ℕ) (a b : ℕ) → id_cmp tx other ≡ Less → T (is_lt (key_cmp (record { tx = tx; seq = a }) (record { tx = other; seq = b })))
less_id tx other a b p = subst (λ o. T (is_lt (ordering_then o (nat_cmp a b)))) (sym p) tt

-- A key in front of all of two lists.
below_both : (k : KeyName) (xs ys : List Entry) → T (below_all key_cmp k xs) → T (below_all key_cmp k ys) → T (below_all key_cmp k (xs ++ ys))
below_both k [] ys a b = b
below_both k (x ∷ xs) ys a b = both _ _ (first _ _ a) (below_both k xs ys (second _ _ a) b)

-- A place's key is in front of those of greater rank.
below_places : (tx : List ℕ) (t r : ℕ) (slots : List (Option Held)) (es : List EventPlace) → r / 2 ^ 31 ≡ t
    → T (below_all nat_cmp r es)
    → T (below_all key_cmp (record { tx = tx; seq = r % 2 ^ 31 }) (map (entry_of tx slots) (segment t es)))
below_places tx t r slots [] home h = tt
below_places tx t r slots (e ∷ es) home h =
    let rest = below_places tx t r slots es home (second _ _ h) in let up : r < e.0 = less_nat r e.0 (first _ _ h) in grind (arith, common_steps, Decides-eqb, both, less_seq)

-- The events of a transaction rise, and what comes after them.
pub entries_rising : (tx : List ℕ) (t : ℕ) (slots : List (Option Held)) (es : List EventPlace) (ys : List Entry) → AreRanks es
    → IsRising ys → ((n : ℕ) → T (below_all key_cmp (record { tx = tx; seq = n }) ys))
    → IsRising (map (entry_of tx slots) (segment t es) ++ ys)
entries_rising tx t slots [] ys ranks rising below = rising
entries_rising tx t slots (e ∷ es) ys ranks rising below =
    let rest = entries_rising tx t slots es ys (second _ _ ranks) rising below in grind (arith, common_steps, both, below_both, below_places, Decides-eqb, first)

-- A key is in front of the events of a transaction of greater id.
below_entries : (tx other : List ℕ) (n : ℕ) (slots : List (Option Held)) (ps : List EventPlace) → id_cmp tx other ≡ Less
    → T (below_all key_cmp (record { tx = tx; seq = n }) (map (entry_of other slots) ps))
below_entries tx other n slots [] p = tt
below_entries tx other n slots (e ∷ ps) p = both _ _ (less_id tx other n (e.0 % 2 ^ 31) p) (below_entries tx other n slots ps p)

-- A key is in front of the events of all transactions of greater ids.
below_flat : (tx : List ℕ) (n : ℕ) (rows : List TxRow) (es : List EventPlace) (slots : List (Option Held))
    → T (below_all id_cmp tx rows) → T (below_all key_cmp (record { tx = tx; seq = n }) (flat rows es slots))
below_flat tx n [] es slots h = tt
below_flat tx n (r ∷ rows) es slots h =
    below_both _ (entries_of es slots r) (flat rows es slots) (below_entries tx r.0 n slots (segment r.1.slot es) (less _ (first _ _ h))) (below_flat tx n rows es slots (second _ _ h))

-- All events rise by key.
pub flat_rising : (rows : List TxRow) (es : List EventPlace) (slots : List (Option Held)) → AreRising rows → AreRanks es → IsRising (flat rows es slots)
flat_rising [] es slots rising ranks = tt
flat_rising (r ∷ rows) es slots rising ranks =
    entries_rising r.0 r.1.slot slots es (flat rows es slots) ranks (flat_rising rows es slots (second _ _ rising) ranks) (λ n. below_flat r.0 n rows es slots (first _ _ rising))

-- Entries that rise, and in which each key finds the same, are the same.
pub same_flat : (xs ys : List Entry) → IsRising xs → IsRising ys → ((q : KeyName) → find key_cmp q xs ≡ find key_cmp q ys) → xs ≡ ys
same_flat xs ys a b same = same_entries key_cmp key_total exact_keys xs ys a b same
