-- Where a key is among the events of its own transaction: by its number.
use Rattle.std.{proofs.Common.{◌≡◌, ℕ, ◌<◌, Bool, true, false, ◌&&◌, nat_lt, ◌⊎◌, List, refl, sym, ap, ◌∙◌, bytes_eq, arith, ⊎_elim}, specs.List.filter, specs.Ordering.{is_lt, nat_cmp, ordering_then}, specs.Cmp.{nat_cmp_is, tied_itself}, specs.Cmp.Lexicographic.slice_cmp, specs.declared.cmp.Ordering.TheVariants.{Less, Equal, Greater}, proofs.Math.Path.fun_ext, proofs.lemmas.Bool.{and_right, lt-ltb, le-ltb, cases_order}, proofs.lemmas.Cmp.nat_list_cmp_total}
use Rattle.ledger_model.{specs.Key.{KeyName, key_cmp}, specs.Content.{Entry, live, live_of}, specs.Deltas.{before_key, behind_key, own_events}, proofs.SumsByTransaction.{filter_twice, one_text}}

always : (b : Bool) → (b && true) ≡ b
always true = refl
always false = refl

-- A smaller number is in front.
number_first : (m n : ℕ) → is_lt (nat_cmp m n) ≡ nat_lt m n
number_first m n = ⊎_elim
    (λ (e : m ≡ n). ap is_lt (sym (nat_cmp_is m n Equal e)) ∙ sym (le-ltb m n (omega arith)))
    (λ (o : (m < n) ⊎ (n < m)). ⊎_elim
    (λ (lt : m < n). ap is_lt (sym (nat_cmp_is m n Less lt)) ∙ sym (lt-ltb m n lt))
    (λ (gt : n < m). ap is_lt (sym (nat_cmp_is m n Greater gt)) ∙ sym (le-ltb m n (omega arith)))
    o)
    (cases_order m n)

-- Of two keys of one transaction, that of the smaller number is in front.
by_number : (a b : KeyName) → a.tx ≡ b.tx → is_lt (key_cmp a b) ≡ nat_lt a.seq b.seq
by_number a b same =
    ap (λ o. is_lt (ordering_then o (nat_cmp a.seq b.seq))) (sym (ap (slice_cmp nat_cmp a.tx) same) ∙ tied_itself nat_list_cmp_total a.tx) ∙ number_first a.seq b.seq

-- Among the events of a key's transaction, those in front of the key have smaller numbers.
own_in_front : (key : KeyName) (e : Entry) → (is_lt (key_cmp e.0 key) && bytes_eq key.tx e.0.tx) ≡ (bytes_eq key.tx e.0.tx && nat_lt e.0.seq key.seq)
own_in_front key e =
    (elim (bytes_eq key.tx e.0.tx) as (λ b. bytes_eq key.tx e.0.tx ≡ b → (is_lt (key_cmp e.0 key) && b) ≡ (b && nat_lt e.0.seq key.seq)) [
      | true ↦ λ is. always (is_lt (key_cmp e.0 key)) ∙ by_number e.0 key (sym (one_text key.tx e.0.tx is))
      | false ↦ λ is. and_right (is_lt (key_cmp e.0 key)) false refl
    ]) refl

-- Those behind it have greater ones.
own_behind : (key : KeyName) (e : Entry) → (is_lt (key_cmp key e.0) && bytes_eq key.tx e.0.tx) ≡ (bytes_eq key.tx e.0.tx && nat_lt key.seq e.0.seq)
own_behind key e =
    (elim (bytes_eq key.tx e.0.tx) as (λ b. bytes_eq key.tx e.0.tx ≡ b → (is_lt (key_cmp key e.0) && b) ≡ (b && nat_lt key.seq e.0.seq)) [
      | true ↦ λ is. always (is_lt (key_cmp key e.0)) ∙ by_number key e.0 (one_text key.tx e.0.tx is)
      | false ↦ λ is. and_right (is_lt (key_cmp key e.0)) false refl
    ]) refl

-- The live events of a key's transaction in front of the key are those of smaller numbers.
pub own_before_key : (key : KeyName) (es : List Entry) → own_events key.tx (before_key key es) ≡ filter (λ e. nat_lt e.0.seq key.seq) (live_of key.tx es)
own_before_key key es =
    filter_twice (λ (e : Entry). bytes_eq key.tx e.0.tx) (λ e. is_lt (key_cmp e.0 key)) (live es)
    ∙ ap (λ p. filter p (live es)) (fun_ext (own_in_front key))
    ∙ sym (filter_twice (λ (e : Entry). nat_lt e.0.seq key.seq) (λ e. bytes_eq key.tx e.0.tx) (live es))

-- Those behind it are those of greater numbers.
pub own_behind_key : (key : KeyName) (es : List Entry) → own_events key.tx (behind_key key es) ≡ filter (λ e. nat_lt key.seq e.0.seq) (live_of key.tx es)
own_behind_key key es =
    filter_twice (λ (e : Entry). bytes_eq key.tx e.0.tx) (λ e. is_lt (key_cmp key e.0)) (live es)
    ∙ ap (λ p. filter p (live es)) (fun_ext (own_behind key))
    ∙ sym (filter_twice (λ (e : Entry). nat_lt key.seq e.0.seq) (λ e. bytes_eq key.tx e.0.tx) (live es))
