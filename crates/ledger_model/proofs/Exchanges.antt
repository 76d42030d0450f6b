-- A relation of lists that holds when the first two elements change places holds of each other order.
use Rattle.std.{proofs.Common.{ℕ, zero, suc, ◌<◌, List, [], ◌∷◌, length, get_or, set, not-suc-le-zero, le_of_suc-le-suc}, specs.List.swap, specs.List.Sorted.IsPermutation, proofs.lemmas.List.Sorted.IsPermutation-keeps}

-- what the relation needs
pub record IsKeptByExchanges {X : Type 0} (R : List X → List X → Type 0) : Type 0 where
  pub same : (xs : List X) → R xs xs
  pub joined : (xs ys zs : List X) → R xs ys → R ys zs → R xs zs
  pub behind : (x : X) (xs ys : List X) → R xs ys → R (x ∷ xs) (x ∷ ys)
  pub first_two : (x y : X) (xs : List X) → R (x ∷ y ∷ xs) (y ∷ x ∷ xs)

module _ {X : Type 0} (R : List X → List X → Type 0) (k : IsKeptByExchanges R) where
  -- the first element, and one further on
  with_first : (x : X) (xs : List X) (j : ℕ) (d : X) → j < length xs → R (x ∷ xs) (get_or xs j d ∷ set xs j x)
  with_first x [] j d h = absurd (not-suc-le-zero h)
  with_first x (y ∷ xs) zero d h = k.first_two x y xs
  with_first x (y ∷ xs) (suc j) d h =
      k.joined _ _ _ (k.first_two x y xs) (k.joined _ _ _ (k.behind y _ _ (with_first x xs j d (le_of_suc-le-suc h))) (k.first_two y (get_or xs j d) (set xs j x)))

  -- any two
  of_two : (xs : List X) (i j : ℕ) (d : X) → i < length xs → j < length xs → R xs (set (set xs i (get_or xs j d)) j (get_or xs i d))
  of_two [] i j d p q = absurd (not-suc-le-zero p)
  of_two (x ∷ xs) zero zero d p q = k.same (x ∷ xs)
  of_two (x ∷ xs) zero (suc j) d p q = with_first x xs j d (le_of_suc-le-suc q)
  of_two (x ∷ xs) (suc i) zero d p q = with_first x xs i d (le_of_suc-le-suc p)
  of_two (x ∷ xs) (suc i) (suc j) d p q = k.behind x _ _ (of_two xs i j d (le_of_suc-le-suc p) (le_of_suc-le-suc q))

  swapped : (xs : List X) (i j : ℕ) → i < length xs → j < length xs → R xs (swap xs i j)
  swapped [] i j p q = absurd (not-suc-le-zero p)
  swapped (x ∷ xs) i j p q = of_two (x ∷ xs) i j x p q

  pub of_permutation : (xs ys : List X) → IsPermutation xs ys → R xs ys
  of_permutation xs ys h = IsPermutation-keeps xs (R xs) (k.same xs) (λ l i j p q r. k.joined _ _ _ r (swapped l i j p q)) ys h
