-- Rising lists of the same numbers are equal.
use Rattle.std.{proofs.Common.{◌≡◌, ◌⊎◌, ℕ, ◌<◌, List, [], ◌∷◌, ◌++◌, refl, sym, inl, inr, arith}, specs.List.flat_map}
use Rattle.ledger_model.{specs.Energy.rising, specs.BoardLaws.{AreRising, IsIn}, proofs.SumLemmas.{rising-AreRising, rising-IsIn}}

-- what is behind a number of a rising list is above it
pub above : (n : ℕ) (ns : List ℕ) → AreRising (n ∷ ns) → (k : ℕ) → IsIn k ns → n < k
above n [] up k there = absurd there
above n (m ∷ ns) up k there = let first : n < m = up.0 in elim there [ inl is ↦ omega (arith, first, is) | inr more ↦ let rest = above m ns up.1 k more in omega (arith, first, rest) ]

pub tail : (n : ℕ) (ns : List ℕ) → AreRising (n ∷ ns) → AreRising ns
tail n [] up = tt
tail n (m ∷ ns) up = up.1

pub same_rising : (ms ns : List ℕ) → AreRising ms → AreRising ns → ((k : ℕ) → IsIn k ms → IsIn k ns) → ((k : ℕ) → IsIn k ns → IsIn k ms) → ms ≡ ns
same_rising [] [] up up' to from = refl
same_rising [] (n ∷ ns) up up' to from = absurd (from n (inl refl))
same_rising (m ∷ ms) [] up up' to from = absurd (to m (inl refl))
same_rising (m ∷ ms) (n ∷ ns) up up' to from =
    let first : m ≡ n = elim (to m (inl refl)) [
      | inl is ↦ is
      | inr more ↦ elim (from n (inl refl)) [
        | inl is ↦ sym is
        | inr less ↦ let a = above n ns up' m more in let b = above m ms up n less in absurd (omega (arith, a, b))
      ]
    ] in
    let rest = same_rising ms ns (tail m ms up) (tail n ns up')
    (λ k there. elim (to k (inr there)) [ inl is ↦ (let a = above m ms up k there in absurd (omega (arith, a, is, first))) | inr more ↦ more ])
    (λ k there. elim (from k (inr there)) [ inl is ↦ (let a = above n ns up' k there in absurd (omega (arith, a, is, first))) | inr more ↦ more ]) in
    λ i. first i ∷ rest i

-- lists of the same numbers have the same rising ones
pub rising_alike : (ms ns : List ℕ) → ((k : ℕ) → IsIn k ms → IsIn k ns) → ((k : ℕ) → IsIn k ns → IsIn k ms) → rising ms ≡ rising ns
rising_alike ms ns to from =
    same_rising (rising ms) (rising ns) (rising-AreRising ms) (rising-AreRising ns)
    (λ k there. (rising-IsIn k ns).1 (to k ((rising-IsIn k ms).0 there)))
    (λ k there. (rising-IsIn k ms).1 (from k ((rising-IsIn k ns).0 there)))

pub in_front : (k : ℕ) (ms ns : List ℕ) → IsIn k ms → IsIn k (ms ++ ns)
in_front k [] ns there = absurd there
in_front k (m ∷ ms) ns there = elim there [ inl is ↦ inl is | inr more ↦ inr (in_front k ms ns more) ]

pub in_back : (k : ℕ) (ms ns : List ℕ) → IsIn k ns → IsIn k (ms ++ ns)
in_back k [] ns there = there
in_back k (m ∷ ms) ns there = inr (in_back k ms ns there)

pub in_either : (k : ℕ) (ms ns : List ℕ) → IsIn k (ms ++ ns) → IsIn k ms ⊎ IsIn k ns
in_either k [] ns there = inr there
in_either k (m ∷ ms) ns there = elim there [ inl is ↦ inl (inl is) | inr more ↦ elim (in_either k ms ns more) [ inl front ↦ inl (inr front) | inr back ↦ inr back ] ]

-- pieces of the same numbers, one after the other
pub in_pieces : {X : Type 0} (f g : X → List ℕ) → ((x : X) (k : ℕ) → IsIn k (f x) → IsIn k (g x)) → (xs : List X) (k : ℕ) → IsIn k (flat_map f xs) → IsIn k (flat_map g xs)
in_pieces f g to [] k there = there
in_pieces f g to (x ∷ xs) k there = elim (in_either k (f x) (flat_map f xs) there) [
  | inl front ↦ in_front k (g x) (flat_map g xs) (to x k front)
  | inr back ↦ in_back k (g x) (flat_map g xs) (in_pieces f g to xs k back)
]

-- two pieces for each, or each piece for all
pub in_both_pieces : {X : Type 0} (f g : X → List ℕ) (xs : List X) (k : ℕ) → IsIn k (flat_map (λ x. f x ++ g x) xs) → IsIn k (flat_map f xs ++ flat_map g xs)
in_both_pieces f g [] k there = there
in_both_pieces f g (x ∷ xs) k there = elim (in_either k (f x ++ g x) (flat_map (λ y. f y ++ g y) xs) there) [
  | inl here ↦ elim (in_either k (f x) (g x) here) [
    | inl front ↦ in_front k (flat_map f (x ∷ xs)) (flat_map g (x ∷ xs)) (in_front k (f x) (flat_map f xs) front)
    | inr back ↦ in_back k (flat_map f (x ∷ xs)) (flat_map g (x ∷ xs)) (in_front k (g x) (flat_map g xs) back)
  ]
  | inr more ↦ elim (in_either k (flat_map f xs) (flat_map g xs) (in_both_pieces f g xs k more)) [
    | inl front ↦ in_front k (flat_map f (x ∷ xs)) (flat_map g (x ∷ xs)) (in_back k (f x) (flat_map f xs) front)
    | inr back ↦ in_back k (flat_map f (x ∷ xs)) (flat_map g (x ∷ xs)) (in_back k (g x) (flat_map g xs) back)
  ]
]

pub in_each_piece : {X : Type 0} (f g : X → List ℕ) (xs : List X) (k : ℕ) → IsIn k (flat_map f xs ++ flat_map g xs) → IsIn k (flat_map (λ x. f x ++ g x) xs)
in_each_piece f g xs k there = elim (in_either k (flat_map f xs) (flat_map g xs) there) [
  | inl front ↦ in_pieces f (λ x. f x ++ g x) (λ x k is. in_front k (f x) (g x) is) xs k front
  | inr back ↦ in_pieces g (λ x. f x ++ g x) (λ x k is. in_back k (f x) (g x) is) xs k back
]
