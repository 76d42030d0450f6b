-- How many transactions there are when one entry is added, and when some are left out.
use Rattle.std.{proofs.Common.{◌≡◌, ℕ, ◌+◌, ◌≤◌, Bool, true, false, cond, not, ◌||◌, List, [], ◌∷◌, ◌++◌, length, map, filter, refl, ap, sym, ◌∙◌, bytes_eq, arith}, specs.List.{list_any, sum_by}, proofs.lemmas.Bool.or_right, proofs.lemmas.List.Folds.list_any-append, proofs.lemmas.List.Sums.sum_by-cons}
use Rattle.ledger_model.{specs.Content.{distinct, transactions_of, has_transaction, Entry}, proofs.SumLemmas.{passed_sum, sum_by-const, taken}, proofs.SumsByTransaction.{counts_differ_by_one, others, same_text, sum_with_one}}

-- The ids of events' transactions.
abbrev pub ids : List Entry → List (List ℕ)
ids es = map (λ e. e.0.tx) es

pub any-map : (tx : List ℕ) (es : List Entry) → list_any (bytes_eq tx) (ids es) ≡ has_transaction tx es
any-map tx [] = refl
any-map tx (e ∷ es) = ap (λ b. bytes_eq tx e.0.tx || b) (any-map tx es)

-- The ids of other transactions, with an event of this one among others.
pub others_ids : (e : Entry) (front back : List Entry) → others e.0.tx (ids (front ++ back)) ≡ others e.0.tx (ids (front ++ e ∷ back))
others_ids e [] back = sym (ap (λ b. cond (not b) (e.0.tx ∷ others e.0.tx (ids back)) (others e.0.tx (ids back))) (same_text e.0.tx))
others_ids e (x ∷ front) back = ap (λ ts. cond (not (bytes_eq e.0.tx x.0.tx)) (x.0.tx ∷ ts) ts) (others_ids e front back)

-- An event's transaction has an event.
pub now_there : (e : Entry) (front back : List Entry) → has_transaction e.0.tx (front ++ e ∷ back) ≡ true
now_there e front back =
    list_any-append (λ (x : Entry). bytes_eq e.0.tx x.0.tx) front (e ∷ back)
    ∙ ap (λ b. has_transaction e.0.tx front || (b || has_transaction e.0.tx back)) (same_text e.0.tx)
    ∙ or_right (has_transaction e.0.tx front) true refl

-- an entry more is a transaction more where its transaction is new
pub transactions_added : (es fs : List Entry) (e : Entry)
    → length (transactions_of (es ++ e ∷ fs)) ≡ cond (has_transaction e.0.tx (es ++ fs)) (length (transactions_of (es ++ fs))) (length (transactions_of (es ++ fs)) + 1)
transactions_added es fs e =
    let all = counts_differ_by_one (λ t. 1) (λ t. 1) e.0.tx (ids (es ++ fs)) (ids (es ++ e ∷ fs)) (others_ids e es fs) (λ u apart. refl) in
    let was = ap (λ b. taken b 1) (any-map e.0.tx (es ++ fs)) in
    let is = ap (λ b. taken b 1) (any-map e.0.tx (es ++ e ∷ fs) ∙ now_there e es fs) in
    by_case (length (transactions_of (es ++ fs))) (has_transaction e.0.tx (es ++ fs))
    (omega (arith, all, was, is, sum_by-const 1 (transactions_of (es ++ fs)), sum_by-const 1 (transactions_of (es ++ e ∷ fs))))
  where
    by_case : {m : ℕ} (n : ℕ) (b : Bool) → m + taken b 1 ≡ n + 1 → m ≡ cond b n (n + 1)
    by_case n true h = omega arith
    by_case n false h = omega arith

-- the distinct texts that entries name have no less of a sum than those that some of these name
fewer_texts : (g : List ℕ → ℕ) (q : Entry → Bool) (es : List Entry) → sum_by g (transactions_of (filter q es)) ≤ sum_by g (transactions_of es)
fewer_texts g q [] = omega arith
fewer_texts g q (e ∷ es) =
    let t = e.0.tx in
    let others_measure : List ℕ → ℕ = λ y. taken (not (bytes_eq t y)) (g y) in
    let rest = fewer_texts others_measure q es in
    let all = sum_by-cons g t (others t (transactions_of es)) in
    let some = sum_by-cons g t (others t (transactions_of (filter q es))) in
    let parted = λ (xs : List (List ℕ)). passed_sum g (λ y. not (bytes_eq t y)) (distinct xs) in
    by_case (q e) (omega (arith, rest, all, some, parted (ids es), parted (ids (filter q es))))
    (omega (arith, rest, all, parted (ids es), parted (ids (filter q es)), sum_with_one g t (ids (filter q es)), at_most (list_any (bytes_eq t) (ids (filter q es))) (g t)))
  where
    by_case : (b : Bool) → sum_by g (transactions_of (e ∷ filter q es)) ≤ sum_by g (transactions_of (e ∷ es)) → sum_by g (transactions_of (filter q es)) ≤ sum_by g (transactions_of (e ∷ es))
        → sum_by g (transactions_of (cond b (e ∷ filter q es) (filter q es))) ≤ sum_by g (transactions_of (e ∷ es))
    by_case true kept left = kept
    by_case false kept left = left

    at_most : (b : Bool) (n : ℕ) → taken b n ≤ n
    at_most true n = omega arith
    at_most false n = omega arith

-- fewer entries have no more transactions
pub transactions-filter : (q : Entry → Bool) (es : List Entry) → length (transactions_of (filter q es)) ≤ length (transactions_of es)
transactions-filter q es = omega (arith, fewer_texts (λ t. 1) q es, sum_by-const 1 (transactions_of (filter q es)), sum_by-const 1 (transactions_of es))
