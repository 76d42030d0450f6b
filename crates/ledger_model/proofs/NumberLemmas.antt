-- The live numbers of a transaction rise, as a content keeps its events in the order of their keys.
use Rattle.std.{proofs.Common.{◌≡◌, ℕ, ◌<◌, true, false, cond, not, ◌==◌, nat_lt, T, List, [], ◌∷◌, refl, sym, subst, map}, specs.Prelude.filter, specs.Str.bytes_eq, specs.Ordering.{nat_cmp, ordering_then, is_lt}, specs.declared.cmp.Ordering.TheVariants.{Less, Equal, Greater}, specs.Cmp.tied_itself, specs.Cmp.Lexicographic.{slice_cmp, nat_list_cmp_total}, specs.FinMap.entries_sorted, specs.FinMap.Entries.below_all, proofs.lemmas.Bool.ltb-true}
use Rattle.ledger_model.{specs.Key.{KeyName, key_cmp}, specs.Content.{Content, Entry, entries, live, live_of}, specs.Gaps.numbers_of, specs.Entries.IsRising, specs.BoardLaws.AreRising, proofs.Rising.{first, second}, proofs.SumsByTransaction.one_text}

-- a number is below each of a list
abbrev IsBelowAll : ℕ → List ℕ → Type 0
IsBelowAll n [] = Unit {0}
IsBelowAll n (m ∷ ms) = (n < m) × IsBelowAll n ms

AreRising-cons : (n : ℕ) (ns : List ℕ) → IsBelowAll n ns → AreRising ns → AreRising (n ∷ ns)
AreRising-cons n [] below up = tt
AreRising-cons n (m ∷ ns) below up = (below.0, up)

-- a property of the live numbers, by whether the first event is live and of the transaction
numbers_cases : (P : List ℕ → Type 0) (tx : List ℕ) (e : Entry) (es : List Entry) → (bytes_eq tx e.0.tx ≡ true → P (e.0.seq ∷ numbers_of tx es)) → P (numbers_of tx es) → P (numbers_of tx (e ∷ es))
numbers_cases P tx e es taken left =
    (elim (e.1.voided) as (λ v. P (map (λ (f : Entry). f.0.seq) (filter (λ (f : Entry). bytes_eq tx f.0.tx) (cond (not v) (e ∷ live es) (live es))))) [
      | true ↦ left
      | false ↦ (elim (bytes_eq tx e.0.tx) as (λ b. bytes_eq tx e.0.tx ≡ b → P (map (λ (f : Entry). f.0.seq) (cond b (e ∷ live_of tx es) (live_of tx es)))) [
        | true ↦ taken
        | false ↦ λ h. left
      ]) refl
    ])

less_number : (a b : ℕ) → T (is_lt (nat_cmp a b)) → a < b
less_number a b h =
    (elim (nat_lt a b) as (λ r. nat_lt a b ≡ r → T (is_lt (cond r Less (cond (a == b) Equal Greater))) → a < b) [
      | true ↦ λ e _. ltb-true a b e
      | false ↦ λ e k. (elim (a == b) as (λ r. T (is_lt (cond r Equal Greater)) → a < b) [ true ↦ λ k. absurd k | false ↦ λ k. absurd k ]) k
    ]) refl h

-- of two keys of a transaction the lower one has the lower number
less_key : (a b : KeyName) → a.tx ≡ b.tx → T (is_lt (key_cmp a b)) → a.seq < b.seq
less_key a b same h =
    let tied : slice_cmp nat_cmp a.tx b.tx ≡ Equal = subst (λ t. slice_cmp nat_cmp a.tx t ≡ Equal) same (tied_itself nat_list_cmp_total a.tx) in
    less_number a.seq b.seq (subst (λ o. T (is_lt (ordering_then o (nat_cmp a.seq b.seq)))) tied h)

-- a key that is below all has a number below all live ones of its transaction
below_numbers : (key : KeyName) (es : List Entry) → T (below_all key_cmp key es) → IsBelowAll key.seq (numbers_of key.tx es)
below_numbers key [] h = tt
below_numbers key (e ∷ es) h =
    let here : T (is_lt (key_cmp key e.0)) = first _ _ h in
    let there : IsBelowAll key.seq (numbers_of key.tx es) = below_numbers key es (second _ _ h) in
    numbers_cases (IsBelowAll key.seq) key.tx e es (λ is. (less_key key e.0 (one_text key.tx e.0.tx is) here, there)) there

pub rising_from_sorted : (tx : List ℕ) (es : List Entry) → IsRising es → AreRising (numbers_of tx es)
rising_from_sorted tx [] h = tt
rising_from_sorted tx (e ∷ es) h =
    let rest : AreRising (numbers_of tx es) = rising_from_sorted tx es (second _ _ h) in
    numbers_cases AreRising tx e es
    (λ is. AreRising-cons e.0.seq (numbers_of tx es) (subst (λ t. IsBelowAll e.0.seq (numbers_of t es)) (sym (one_text tx e.0.tx is)) (below_numbers e.0 es (first _ _ h))) rest)
    rest

pub numbers-AreRising : (tx : List ℕ) (c : Content) → AreRising (numbers_of tx (entries c))
numbers-AreRising tx c = rising_from_sorted tx (entries c) (entries_sorted c.events)
