-- The entries of one transaction among those of a station.
use Rattle.std.{proofs.Common.{◌≡◌, ℕ, ◌⊎◌, Bool, true, false, cond, not, ◌&&◌, ◌||◌, T, List, [], ◌∷◌, refl, sym, ap, subst, ◌∙◌, inl, inr, bytes_eq}, specs.List.filter, specs.Ordering.{is_lt, nat_cmp, ordering_then}, specs.declared.cmp.Ordering.TheVariants.{Less, Equal, Greater}, specs.Cmp.Lexicographic.slice_cmp, specs.FinMap.{slice_cmp-IsAntisymmetric, nat_cmp-IsAntisymmetric}, specs.FinMap.Entries.below_all, proofs.Math.Path.fun_ext, proofs.lemmas.Bool.or_parts, proofs.lemmas.Cmp.{nat_list_cmp_total, nat_list_eq_equiv, tied_itself}}
use Rattle.ledger_model.{specs.Key.{KeyName, key_cmp}, specs.Content.{Entry, has_transaction, live, live_of, transactions_of}, specs.Deltas.own_events, specs.Entries.IsRising, proofs.Rising.{first, second}, proofs.SumsByTransaction.{filter_turned, filter_twice, one_text, others, same_text}}

and_itself : (b : Bool) → (b && b) ≡ b
and_itself true = refl
and_itself false = refl

pub turned_text : (t u : List ℕ) → bytes_eq t u ≡ bytes_eq u t
turned_text t u = nat_list_eq_equiv.symm t u

module _ (t : List ℕ) where
  pub own_twice : (es : List Entry) → own_events t (own_events t es) ≡ own_events t es
  own_twice es = filter_twice (λ e. bytes_eq t e.0.tx) (λ e. bytes_eq t e.0.tx) es ∙ ap (λ p. filter p es) (fun_ext (λ e. and_itself (bytes_eq t e.0.tx)))

  -- the live ones of its own are its own among the live ones
  pub live_own : (es : List Entry) → live (own_events t es) ≡ live_of t es
  live_own es = filter_turned (λ e. not e.1.voided) (λ e. bytes_eq t e.0.tx) es

  pub live_of_own : (es : List Entry) → live_of t (own_events t es) ≡ live_of t es
  live_of_own es = ap (own_events t) (live_own es) ∙ own_twice (live es)

  others_of_one : (b : Bool) → others t (cond b (t ∷ []) []) ≡ []
  others_of_one true = ap (λ b. cond (not b) (t ∷ []) []) (same_text t)
  others_of_one false = refl

  -- the transactions of its own: itself, if there is any
  pub own_transactions : (es : List Entry) → transactions_of (own_events t es) ≡ cond (has_transaction t es) (t ∷ []) []
  own_transactions [] = refl
  own_transactions (e ∷ es) = by_case (bytes_eq t e.0.tx) (one_text t e.0.tx) (own_transactions es)
    where
      by_case : (b : Bool) → (b ≡ true → t ≡ e.0.tx) → transactions_of (own_events t es) ≡ cond (has_transaction t es) (t ∷ []) []
          → transactions_of (cond b (e ∷ own_events t es) (own_events t es)) ≡ cond (b || has_transaction t es) (t ∷ []) []
      by_case true same rest =
          (λ i. sym (same refl) i ∷ others (sym (same refl) i) (transactions_of (own_events t es)))
          ∙ ap (λ ts. t ∷ others t ts) rest ∙ ap (λ ts. t ∷ ts) (others_of_one (has_transaction t es))
      by_case false same rest = rest

  -- a transaction that has no entry has none of its own
  pub none_own : (es : List Entry) → has_transaction t es ≡ false → own_events t es ≡ []
  none_own [] none = refl
  none_own (e ∷ es) none =
      let parts = or_parts (bytes_eq t e.0.tx) (has_transaction t es) none in
      ap (λ b. cond b (e ∷ own_events t es) (own_events t es)) parts.0 ∙ none_own es parts.1

-- one that comes before the transaction of an entry comes before those of all entries behind it
text_before : (t : List ℕ) (a b : KeyName) → slice_cmp nat_cmp t a.tx ≡ Less → T (is_lt (key_cmp a b)) → slice_cmp nat_cmp t b.tx ≡ Less
text_before t a b before h =
    (elim (slice_cmp nat_cmp a.tx b.tx) as (λ o. slice_cmp nat_cmp a.tx b.tx ≡ o → T (is_lt (ordering_then o (nat_cmp a.seq b.seq))) → slice_cmp nat_cmp t b.tx ≡ Less) [
      | Less ↦ λ e _. nat_list_cmp_total.trans t a.tx b.tx before e
      | Equal ↦ λ e _. subst (λ u. slice_cmp nat_cmp t u ≡ Less) (slice_cmp-IsAntisymmetric nat_cmp-IsAntisymmetric a.tx b.tx e) before
      | Greater ↦ λ e none. absurd none
    ]) refl h

apart_before : (t u : List ℕ) → slice_cmp nat_cmp t u ≡ Less → bytes_eq t u ≡ false
apart_before t u before = by_case (bytes_eq t u) (one_text t u)
  where
    by_case : (b : Bool) → (b ≡ true → t ≡ u) → b ≡ false
    by_case true same =
        let itself : slice_cmp nat_cmp t t ≡ Less = subst (λ v. slice_cmp nat_cmp t v ≡ Less) (sym (same refl)) before in
        cc (itself, tied_itself nat_list_cmp_total t)
    by_case false same = refl

none_before : (t : List ℕ) (f : Entry) (es : List Entry) → slice_cmp nat_cmp t f.0.tx ≡ Less → T (below_all key_cmp f.0 es) → has_transaction t es ≡ false
none_before t f [] before below = refl
none_before t f (e ∷ es) before below =
    (λ i. apart_before t e.0.tx (text_before t f.0 e.0 before (first _ _ below)) i || has_transaction t es) ∙ none_before t f es before (second _ _ below)

-- the first entry behind one is of its transaction, or none is
next_or_none : (e f : Entry) (es : List Entry) → T (is_lt (key_cmp e.0 f.0)) → T (below_all key_cmp f.0 es) → (e.0.tx ≡ f.0.tx) ⊎ (has_transaction e.0.tx (f ∷ es) ≡ false)
next_or_none e f es h below =
    (elim (slice_cmp nat_cmp e.0.tx f.0.tx) as (λ o. slice_cmp nat_cmp e.0.tx f.0.tx ≡ o → T (is_lt (ordering_then o (nat_cmp e.0.seq f.0.seq)))
    → (e.0.tx ≡ f.0.tx) ⊎ (has_transaction e.0.tx (f ∷ es) ≡ false)) [
      | Less ↦ λ is _. inr ((λ i. apart_before e.0.tx f.0.tx is i || has_transaction e.0.tx es) ∙ none_before e.0.tx f es is below)
      | Equal ↦ λ is _. inl (slice_cmp-IsAntisymmetric nat_cmp-IsAntisymmetric e.0.tx f.0.tx is)
      | Greater ↦ λ is none. absurd none
    ]) refl h

-- tests that agree on what passes another
filter_agrees : {X : Type 0} (p q r : X → Bool) → ((x : X) → r x ≡ true → p x ≡ q x) → (xs : List X) → filter p (filter r xs) ≡ filter q (filter r xs)
filter_agrees p q r same [] = refl
filter_agrees p q r same (x ∷ xs) = by_case (r x) (same x) (filter_agrees p q r same xs)
  where
    by_case : (b : Bool) → (b ≡ true → p x ≡ q x) → filter p (filter r xs) ≡ filter q (filter r xs)
        → filter p (cond b (x ∷ filter r xs) (filter r xs)) ≡ filter q (cond b (x ∷ filter r xs) (filter r xs))
    by_case true is rest = λ i. cond (is refl i) (x ∷ rest i) (rest i)
    by_case false is rest = rest

-- the transactions that have an event among some
abbrev having : List Entry → List (List ℕ) → List (List ℕ)
having ls ts = filter (λ t. has_transaction t ls) ts

not_true : (b : Bool) → not b ≡ true → b ≡ false
not_true true e = cc
not_true false e = refl

-- those that a live event more has, without its own
having_more : (e : Entry) (ls : List Entry) (ts : List (List ℕ)) → having (e ∷ ls) (others e.0.tx ts) ≡ others e.0.tx (having ls ts)
having_more e ls ts =
    filter_agrees (λ t. has_transaction t (e ∷ ls)) (λ t. has_transaction t ls) (λ y. not (bytes_eq e.0.tx y))
    (λ t apart. ap (λ b. b || has_transaction t ls) (turned_text t e.0.tx ∙ not_true (bytes_eq e.0.tx t) apart)) ts
    ∙ filter_turned (λ t. has_transaction t ls) (λ y. not (bytes_eq e.0.tx y)) ts

having_itself : (e : Entry) (ls : List Entry) → has_transaction e.0.tx (e ∷ ls) ≡ true
having_itself e ls = ap (λ b. b || has_transaction e.0.tx ls) (same_text e.0.tx)

-- those without one that has none are all
all_having : (t : List ℕ) (ls : List Entry) (ts : List (List ℕ)) → has_transaction t ls ≡ false → having ls (others t ts) ≡ having ls ts
all_having t ls [] none = refl
all_having t ls (u ∷ ts) none = by_case (bytes_eq t u) (one_text t u) (all_having t ls ts none)
  where
    by_case : (b : Bool) → (b ≡ true → t ≡ u) → having ls (others t ts) ≡ having ls ts → having ls (cond (not b) (u ∷ others t ts) (others t ts)) ≡ having ls (u ∷ ts)
    by_case true same rest = rest ∙ sym (ap (λ b. cond b (u ∷ having ls ts) (having ls ts)) (ap (λ v. has_transaction v ls) (sym (same refl)) ∙ none))
    by_case false same rest = ap (λ l. cond (has_transaction u ls) (u ∷ l) l) rest

fewer_have : (t : List ℕ) (es : List Entry) → has_transaction t es ≡ false → has_transaction t (live es) ≡ false
fewer_have t [] none = refl
fewer_have t (e ∷ es) none =
    let parts = or_parts (bytes_eq t e.0.tx) (has_transaction t es) none in
    by_case e.1.voided parts.0 (fewer_have t es parts.1)
  where
    by_case : (b : Bool) → bytes_eq t e.0.tx ≡ false → has_transaction t (live es) ≡ false → has_transaction t (cond (not b) (e ∷ live es) (live es)) ≡ false
    by_case true apart rest = rest
    by_case false apart rest = ap (λ b. b || has_transaction t (live es)) apart ∙ rest

-- an entry's transaction that comes again is the first of those behind it
listed_next : (e : Entry) (es ls : List Entry) → IsRising (e ∷ es) → (has_transaction e.0.tx es ≡ false → has_transaction e.0.tx ls ≡ false)
    → having ls (e.0.tx ∷ others e.0.tx (transactions_of es)) ≡ having ls (transactions_of es)
listed_next e [] ls rising none = ap (λ b. cond b (e.0.tx ∷ []) []) (none refl)
listed_next e (f ∷ es) ls rising none = elim (next_or_none e f es (first _ _ (first _ _ rising)) (first _ _ (second _ _ rising))) [
  | inl same ↦ ap (having ls) (λ i. same i ∷ others (same i) (transactions_of (f ∷ es))) ∙ ap (λ l. having ls (f.0.tx ∷ l)) (once_more f.0.tx (transactions_of es))
  | inr absent ↦ let gone = none absent in
      ap (λ b. cond b (e.0.tx ∷ having ls (others e.0.tx (transactions_of (f ∷ es)))) (having ls (others e.0.tx (transactions_of (f ∷ es))))) gone
      ∙ all_having e.0.tx ls (transactions_of (f ∷ es)) gone
]
  where
    twice : (b : Bool) → (not b && not b) ≡ not b
    twice b = and_itself (not b)

    once_more : (t : List ℕ) (ts : List (List ℕ)) → others t (t ∷ others t ts) ≡ others t ts
    once_more t ts = ap (λ b. cond (not b) (t ∷ others t (others t ts)) (others t (others t ts))) (same_text t)
        ∙ filter_twice (λ y. not (bytes_eq t y)) (λ y. not (bytes_eq t y)) ts ∙ ap (λ p. filter p ts) (fun_ext (λ y. twice (bytes_eq t y)))

-- The transactions with a live event, among all that have events and in their order.
pub live_transactions : (es : List Entry) → IsRising es → transactions_of (live es) ≡ filter (λ t. has_transaction t (live es)) (transactions_of es)
live_transactions [] rising = refl
live_transactions (e ∷ es) rising = by_case e.1.voided (live_transactions es (second _ _ rising))
  where
    by_case : (b : Bool) → transactions_of (live es) ≡ having (live es) (transactions_of es)
        → transactions_of (cond (not b) (e ∷ live es) (live es)) ≡ having (cond (not b) (e ∷ live es) (live es)) (transactions_of (e ∷ es))
    by_case true rest = rest ∙ sym (listed_next e es (live es) rising (fewer_have e.0.tx es))
    by_case false rest =
        ap (λ ts. e.0.tx ∷ others e.0.tx ts) rest
        ∙ ap (λ ts. e.0.tx ∷ ts) (sym (having_more e (live es) (transactions_of es)))
        ∙ sym (ap (λ b. cond b (e.0.tx ∷ having (e ∷ live es) (others e.0.tx (transactions_of es))) (having (e ∷ live es) (others e.0.tx (transactions_of es)))) (having_itself e (live es)))
