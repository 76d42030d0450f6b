-- Sums over transactions, when the events of one change.
use Rattle.std.{proofs.Common.{◌≡◌, ℕ, ◌+◌, Bool, true, false, cond, not, ◌&&◌, ◌||◌, List, [], ◌∷◌, refl, sym, ap, subst, ◌∙◌, bytes_eq, arith}, specs.List.{filter, list_any, sum_by}, proofs.Math.Path.fun_ext, proofs.lemmas.List.Sums.sum_by-cons, proofs.lemmas.Slice.Eq.bytes_eq-Decides}
use Rattle.ledger_model.{specs.Content.distinct, proofs.SumLemmas.{passed_sum, sum_by-none, sum_by-plus, sum_by-same, taken}}

-- The texts other than one.
abbrev pub others : List ℕ → List (List ℕ) → List (List ℕ)
others t xs = filter (λ y. not (bytes_eq t y)) xs

-- A text is itself.
pub same_text : (t : List ℕ) → bytes_eq t t ≡ true
same_text t = (bytes_eq-Decides t t).1 refl

-- Two texts found the same are one.
pub one_text : (t x : List ℕ) → bytes_eq t x ≡ true → t ≡ x
one_text t x = (bytes_eq-Decides t x).0

-- A sum over texts: at each place of one text, and over the others.
sum_parts : (g : List ℕ → ℕ) (t : List ℕ) (ys : List (List ℕ)) → sum_by g ys ≡ sum_by (λ y. taken (bytes_eq t y) (g t)) ys + sum_by g (others t ys)
sum_parts g t ys =
    let each = sum_by-same g (λ y. taken (bytes_eq t y) (g t) + taken (not (bytes_eq t y)) (g y)) (λ y. at_or_else y (bytes_eq t y) (one_text t y)) ys in
    omega (arith, each, sum_by-plus (λ y. taken (bytes_eq t y) (g t)) (λ y. taken (not (bytes_eq t y)) (g y)) ys, passed_sum g (λ y. not (bytes_eq t y)) ys)
  where
    at_or_else : (y : List ℕ) (b : Bool) → (b ≡ true → t ≡ y) → g y ≡ taken b (g t) + taken (not b) (g y)
    at_or_else y true same = ap g (sym (same refl)) ∙ omega arith
    at_or_else y false same = omega arith

-- A text is not among the others.
none_among_others : (c : ℕ) (t : List ℕ) (ys : List (List ℕ)) → sum_by (λ y. taken (bytes_eq t y) c) (others t ys) ≡ 0
none_among_others c t ys = passed_sum _ _ ys ∙ sum_by-same _ (λ y. 0) (λ y. neither (bytes_eq t y)) ys ∙ sum_by-none ys
  where
    neither : (b : Bool) → taken (not b) (taken b c) ≡ 0
    neither true = refl
    neither false = refl

-- Leaving out another text takes nothing from it.
another_left_out : (c : ℕ) (t x : List ℕ) → bytes_eq t x ≡ false → (ys : List (List ℕ)) → sum_by (λ y. taken (bytes_eq t y) c) (others x ys) ≡ sum_by (λ y. taken (bytes_eq t y) c) ys
another_left_out c t x apart ys = passed_sum _ _ ys ∙ sum_by-same _ _ (λ y. stays y (bytes_eq x y) (one_text x y)) ys
  where
    stays : (y : List ℕ) (b : Bool) → (b ≡ true → x ≡ y) → taken (not b) (taken (bytes_eq t y) c) ≡ taken (bytes_eq t y) c
    stays y true same = ap (λ b. taken b c) (sym apart ∙ ap (bytes_eq t) (same refl))
    stays y false same = refl

-- A text occurs once among distinct ones, where it is at all.
pub once : (c : ℕ) (t : List ℕ) (xs : List (List ℕ)) → sum_by (λ y. cond (bytes_eq t y) c 0) (distinct xs) ≡ cond (list_any (bytes_eq t) xs) c 0
once c t [] = refl
once c t (x ∷ xs) =
    let whole = sum_by-cons (λ y. cond (bytes_eq t y) c 0) x (others x (distinct xs)) in
    whole ∙ (elim (bytes_eq t x) as (λ b. bytes_eq t x ≡ b → cond b c 0 + sum_by (λ y. cond (bytes_eq t y) c 0) (others x (distinct xs)) ≡ cond (b || list_any (bytes_eq t) xs) c 0) [
      | true ↦ λ e. let none : sum_by (λ y. cond (bytes_eq t y) c 0) (others x (distinct xs)) ≡ 0 =
          subst (λ z. sum_by (λ y. cond (bytes_eq t y) c 0) (others z (distinct xs)) ≡ 0) (one_text t x e) (none_among_others c t (distinct xs)) in omega (arith, none)
      | false ↦ λ e. let rest = another_left_out c t x e (distinct xs) ∙ once c t xs in omega (arith, rest)
    ]) refl

-- Two tests, one after the other, are one test.
pub filter_twice : {X : Type 0} (p q : X → Bool) (xs : List X) → filter p (filter q xs) ≡ filter (λ x. q x && p x) xs
filter_twice p q [] = refl
filter_twice p q (x ∷ xs) = elim (q x) as (λ b. filter p (cond b (x ∷ filter q xs) (filter q xs)) ≡ cond (b && p x) (x ∷ filter (λ y. q y && p y) xs) (filter (λ y. q y && p y) xs)) [
  | true ↦ ap (λ l. cond (p x) (x ∷ l) l) (filter_twice p q xs)
  | false ↦ filter_twice p q xs
]

and_turned : (a b : Bool) → (a && b) ≡ (b && a)
and_turned true true = refl
and_turned true false = refl
and_turned false true = refl
and_turned false false = refl

-- Two tests, in either order.
pub filter_turned : {X : Type 0} (p q : X → Bool) (xs : List X) → filter p (filter q xs) ≡ filter q (filter p xs)
filter_turned p q xs = filter_twice p q xs ∙ ap (λ r. filter r xs) (fun_ext (λ x. and_turned (q x) (p x))) ∙ sym (filter_twice q p xs)

and_twice : (a : Bool) → (a && a) ≡ a
and_twice true = refl
and_twice false = refl

-- A text is left out once.
others_again : (t : List ℕ) (ys : List (List ℕ)) → others t (others t ys) ≡ others t ys
others_again t ys = filter_twice (λ y. not (bytes_eq t y)) (λ y. not (bytes_eq t y)) ys ∙ ap (λ p. filter p ys) (fun_ext (λ y. and_twice (not (bytes_eq t y))))

-- A text is left out before or after the others are listed once each.
others_distinct : (t : List ℕ) (xs : List (List ℕ)) → others t (distinct xs) ≡ distinct (others t xs)
others_distinct t [] = refl
others_distinct t (x ∷ xs) =
    let rest = others_distinct t xs in
    (elim (bytes_eq t x) as (λ b. bytes_eq t x ≡ b
    → cond (not b) (x ∷ others t (others x (distinct xs))) (others t (others x (distinct xs))) ≡ distinct (cond (not b) (x ∷ others t xs) (others t xs))) [
      | true ↦ λ e. ap (λ z. others t (others z (distinct xs))) (sym (one_text t x e)) ∙ others_again t (distinct xs) ∙ rest
      | false ↦ λ e. ap (λ ys. x ∷ ys) (filter_turned (λ y. not (bytes_eq t y)) (λ y. not (bytes_eq x y)) (distinct xs) ∙ ap (others x) rest)
    ]) refl

-- Measures that agree on other texts add up the same over them.
others_agree : (g h : List ℕ → ℕ) (t : List ℕ) → ((u : List ℕ) → bytes_eq t u ≡ false → h u ≡ g u) → (ys : List (List ℕ)) → sum_by h (others t ys) ≡ sum_by g (others t ys)
others_agree g h t same ys = passed_sum h _ ys ∙ sum_by-same _ _ (λ y. agree y (bytes_eq t y) refl) ys ∙ sym (passed_sum g _ ys)
  where
    agree : (y : List ℕ) (b : Bool) → bytes_eq t y ≡ b → taken (not b) (h y) ≡ taken (not b) (g y)
    agree y true is = refl
    agree y false is = same y is

-- A sum over distinct texts: for one text, where it is, and over the others.
pub sum_with_one : (g : List ℕ → ℕ) (t : List ℕ) (xs : List (List ℕ)) → sum_by g (distinct xs) ≡ cond (list_any (bytes_eq t) xs) (g t) 0 + sum_by g (others t (distinct xs))
sum_with_one g t xs = sum_parts g t (distinct xs) ∙ ap (λ n. n + sum_by g (others t (distinct xs))) (once (g t) t xs)

-- A text that is not there counts nothing.
counts_nothing : (n : ℕ) (b : Bool) → (b ≡ false → n ≡ 0) → cond b n 0 ≡ n
counts_nothing n true none = refl
counts_nothing n false none = sym (none refl)

-- A sum over distinct texts: what one text counts, and the others, where one that is not there counts nothing.
pub sum_by_one : (g : List ℕ → ℕ) (t : List ℕ) (xs : List (List ℕ)) → (list_any (bytes_eq t) xs ≡ false → g t ≡ 0) → sum_by g (distinct xs) ≡ g t + sum_by g (others t (distinct xs))
sum_by_one g t xs none = sum_with_one g t xs ∙ ap (λ n. n + sum_by g (others t (distinct xs))) (counts_nothing (g t) (list_any (bytes_eq t) xs) none)

-- The other texts count the same, where they and what they count are.
pub others_count : (g h : List ℕ → ℕ) (t : List ℕ) (xs ys : List (List ℕ)) → others t xs ≡ others t ys
    → ((u : List ℕ) → bytes_eq t u ≡ false → h u ≡ g u) → sum_by h (others t (distinct ys)) ≡ sum_by g (others t (distinct xs))
others_count g h t xs ys same agree = others_agree g h t agree (distinct ys) ∙ ap (sum_by g) (others_distinct t ys ∙ ap distinct (sym same) ∙ sym (others_distinct t xs))

-- Two sums over distinct texts, where the texts and the measures differ only in one text, differ by what that counts.
pub sums_differ_by_one : (g h : List ℕ → ℕ) (t : List ℕ) (xs ys : List (List ℕ)) → others t xs ≡ others t ys
    → ((u : List ℕ) → bytes_eq t u ≡ false → h u ≡ g u) → (list_any (bytes_eq t) xs ≡ false → g t ≡ 0)
    → (list_any (bytes_eq t) ys ≡ false → h t ≡ 0)
    → sum_by h (distinct ys) + g t ≡ sum_by g (distinct xs) + h t
sums_differ_by_one g h t xs ys same agree none_x none_y = omega (arith, sum_by_one g t xs none_x, sum_by_one h t ys none_y, others_count g h t xs ys same agree)

-- The same, where a text that is not there may count.
pub counts_differ_by_one : (g h : List ℕ → ℕ) (t : List ℕ) (xs ys : List (List ℕ)) → others t xs ≡ others t ys → ((u : List ℕ) → bytes_eq t u ≡ false → h u ≡ g u)
    → sum_by h (distinct ys) + cond (list_any (bytes_eq t) xs) (g t) 0 ≡ sum_by g (distinct xs) + cond (list_any (bytes_eq t) ys) (h t) 0
counts_differ_by_one g h t xs ys same agree = omega (arith, sum_with_one g t xs, sum_with_one h t ys, others_count g h t xs ys same agree)
