-- The transactions of a station, each listed once, and in the order of their ids where the events are in the order of
-- their keys.
use Rattle.std.{proofs.Common.{arith, ◌≡◌, ◌⊎◌, Bool, true, false, cond, not, ◌||◌, T, List, [], ◌∷◌, ℕ, refl, ap, sym, ◌∙◌, inl, inr, map}, specs.Prelude.{filter, count_by, nat_lt, ◌+◌}, specs.List.{list_any, AllByRecursion}, specs.List.Sorted.IsStrictlySortedBy, specs.Str.bytes_eq, specs.Ordering.{nat_cmp, ordering_then, is_lt}, specs.declared.cmp.Ordering.TheVariants.{Less, Equal, Greater}, specs.Cmp.Lexicographic.slice_cmp, specs.FinMap.{entries_sorted, slice_cmp-IsAntisymmetric, nat_cmp-IsAntisymmetric}, specs.FinMap.Entries.below_all, proofs.lemmas.Bool.{cond_both, false≢true, lt-ltb}, proofs.lemmas.List.Elements.{All-filter, All-from_recursion, recursion_from_All}, proofs.lemmas.List.Kept.IsStrictlySortedBy-filter, proofs.lemmas.List.Sums.sum_by-cons, proofs.lemmas.Slice.Eq.bytes_eq-Decides}
use Rattle.ledger_model.{specs.Key.{KeyName, key_cmp}, specs.Content.{Content, Entry, entries, live, distinct, transactions_of, has_transaction}, specs.Entries.IsRising, proofs.Rising.{first, second, live_rising}, proofs.SumsByTransaction.once}
pub use Rattle.ledger_model.proofs.Transactions.{any-map}

-- a text is in a list exactly if it is there some times
any_counted : (p : List ℕ → Bool) (xs : List (List ℕ)) → list_any p xs ≡ nat_lt 0 (count_by p xs)
any_counted p [] = refl
any_counted p (x ∷ xs) = ap (λ b. p x || b) (any_counted p xs) ∙ by_case (p x) ∙ ap (nat_lt 0) (sym (sum_by-cons (λ y. cond (p y) 1 0) x xs))
  where
    by_case : (b : Bool) → (b || nat_lt 0 (count_by p xs)) ≡ nat_lt 0 (cond b 1 0 + count_by p xs)
    by_case true = sym (lt-ltb 0 (1 + count_by p xs) (omega arith))
    by_case false = ap (nat_lt 0) (omega arith)

distinct-any : (tx : List ℕ) (xs : List (List ℕ)) → list_any (bytes_eq tx) (distinct xs) ≡ list_any (bytes_eq tx) xs
distinct-any tx xs = any_counted (bytes_eq tx) (distinct xs) ∙ ap (nat_lt 0) (once 1 tx xs) ∙ by_case (list_any (bytes_eq tx) xs)
  where
    by_case : (b : Bool) → nat_lt 0 (cond b 1 0) ≡ b
    by_case true = refl
    by_case false = refl

-- a transaction is listed exactly if it has an event
pub transactions-any : (tx : List ℕ) (es : List Entry) → list_any (bytes_eq tx) (transactions_of es) ≡ has_transaction tx es
transactions-any tx es = distinct-any tx (map (λ e. e.0.tx) es) ∙ any-map tx es

-- a text that another one doesn't come before
abbrev NotAfter : List ℕ → List ℕ → Type 0
NotAfter x y = (slice_cmp nat_cmp x y ≡ Less) ⊎ (x ≡ y)

not_after : (a b : KeyName) → T (is_lt (key_cmp a b)) → NotAfter a.tx b.tx
not_after a b h =
    (elim (slice_cmp nat_cmp a.tx b.tx) as (λ o. slice_cmp nat_cmp a.tx b.tx ≡ o → T (is_lt (ordering_then o (nat_cmp a.seq b.seq))) → NotAfter a.tx b.tx) [
      | Less ↦ λ e _. inl e
      | Equal ↦ λ e _. inr (slice_cmp-IsAntisymmetric nat_cmp-IsAntisymmetric a.tx b.tx e)
      | Greater ↦ λ e none. absurd none
    ]) refl h

texts_after : (key : KeyName) (es : List Entry) → T (below_all key_cmp key es) → AllByRecursion (NotAfter key.tx) (map (λ e. e.0.tx) es)
texts_after key [] h = tt
texts_after key (e ∷ es) h = (
  not_after key e.0 (first _ _ h),
  texts_after key es (second _ _ h),
)

all_distinct : (P : List ℕ → Type 0) (xs : List (List ℕ)) → AllByRecursion P xs → AllByRecursion P (distinct xs)
all_distinct P [] h = tt
all_distinct P (x ∷ xs) h =
    let rest = All-from_recursion P (distinct xs) (all_distinct P xs h.1) in
    (h.0, recursion_from_All P (filter (λ y. not (bytes_eq x y)) (distinct xs)) (All-filter (λ y. not (bytes_eq x y)) P (distinct xs) rest))

-- without the text itself, all come after it
all_less : (x : List ℕ) (ys : List (List ℕ)) → AllByRecursion (NotAfter x) ys → AllByRecursion (λ y. slice_cmp nat_cmp x y ≡ Less) (filter (λ y. not (bytes_eq x y)) ys)
all_less x [] h = tt
all_less x (y ∷ ys) h = cond_both (not (bytes_eq x y)) _ _ (AllByRecursion (λ z. slice_cmp nat_cmp x z ≡ Less))
    (λ apart. (elim h.0 [ inl less ↦ less | inr same ↦ absurd (false≢true (ap not (sym ((bytes_eq-Decides x y).1 same)) ∙ apart)) ], all_less x ys h.1))
    (λ same. all_less x ys h.1)

rising_texts : (es : List Entry) → IsRising es → IsStrictlySortedBy (slice_cmp nat_cmp) (transactions_of es)
unfolding IsStrictlySortedBy
rising_texts [] h = tt
rising_texts (e ∷ es) h =
    let rest : IsStrictlySortedBy (slice_cmp nat_cmp) (transactions_of es) = rising_texts es (second _ _ h) in
    let after : AllByRecursion (NotAfter e.0.tx) (map (λ f. f.0.tx) es) = texts_after e.0 es (first _ _ h) in (
      all_less e.0.tx (transactions_of es) (all_distinct (NotAfter e.0.tx) (map (λ f. f.0.tx) es) after),
      IsStrictlySortedBy-filter (slice_cmp nat_cmp) (λ y. not (bytes_eq e.0.tx y)) (transactions_of es) rest,
    )

pub transactions_rise : (c : Content) → IsStrictlySortedBy (slice_cmp nat_cmp) (transactions_of (live (entries c)))
transactions_rise c = rising_texts (live (entries c)) (live_rising (entries c) (entries_sorted c.events))
