-- The rows that the two loops over a block make: links from the last place down, and places emptied from the first up.
use Rattle.std.proofs.Common.{◌≡◌, ℕ, zero, suc, ◌+◌, ◌-◌, ◌<◌, ◌≤◌, List, [], ◌∷◌, ◌++◌, length, get_or, set, drop, replicate, Option, Some, None, refl, sym, ap, ◌∙◌, arith}
use Rattle.slot_arena.{specs.declared.slot.Slot.Slot, specs.declared.slot.Slot.TheVariants.Free, specs.Place.Holds, specs.Free.{AreMade, values_in, links}}

module _ {X : Type 0} where
  -- A link written into the last empty place is before the others.
  pub linked_more : (i : ℕ) (place : Option X) (rest : List (Option X)) → set (replicate (suc i) None ++ rest) i place ≡ replicate i None ++ place ∷ rest
  linked_more zero place rest = refl
  linked_more (suc i) place rest = ap (λ row. None ∷ row) (linked_more i place rest)

  -- The first full place emptied leaves one more empty place in front.
  pub cleared_more : (i : ℕ) (row : List (Option X)) → i < length row → set (replicate i None ++ drop i row) i None ≡ replicate (suc i) None ++ drop (suc i) row
  cleared_more i [] lt = absurd (omega arith)
  cleared_more zero (place ∷ row) lt = refl
  cleared_more (suc i) (place ∷ row) lt = ap (λ rest. None ∷ rest) (cleared_more i row (omega arith))

  -- What that place holds.
  pub cleared_at : (i : ℕ) (row : List (Option X)) → i < length row → get_or (replicate i None ++ drop i row) i None ≡ get_or row i None
  cleared_at i [] lt = absurd (omega arith)
  cleared_at zero (place ∷ row) lt = refl
  cleared_at (suc i) (place ∷ row) lt = cleared_at i row (omega arith)

  -- Where every place is made, each holds a slot.
  pub made_holds : (row : List (Option (Slot X))) (i : ℕ) → AreMade row → i < length row → Holds row i
  made_holds [] i made lt = absurd (omega arith)
  made_holds (place ∷ row) zero made lt = made.0
  made_holds (place ∷ row) (suc i) made lt = made_holds row i made.1 (omega arith)

module _ (X : Type 0) where
  -- A row of links is as long as it is said to be.
  pub length-links : (from count : ℕ) → length (links {X = X} from count) ≡ count
  length-links from zero = refl
  length-links from (suc count) = ap suc (length-links (suc from) count)

  -- Each link leads to the next place.
  pub links_at : (from count i : ℕ) → i < count → get_or (links {X = X} from count) i None ≡ Some (Free (suc (from + i)))
  links_at from zero i lt = absurd (omega arith)
  links_at from (suc count) zero lt = let here : from ≡ from + 0 = omega arith in ap (λ n. Some (Free (suc n))) here
  links_at from (suc count) (suc i) lt = let on : suc from + i ≡ from + suc i = omega arith in links_at (suc from) count i (omega arith) ∙ ap (λ n. Some (Free (suc n))) on

  -- Each place of them is made.
  pub links_made : (from count : ℕ) → AreMade (links {X = X} from count)
  links_made from zero = tt
  links_made from (suc count) = ((Free (suc from), refl), links_made (suc from) count)

  -- They show no value.
  pub links_values : (from count : ℕ) → values_in (links {X = X} from count) ≡ replicate count None
  links_values from zero = refl
  links_values from (suc count) = ap (λ row. None ∷ row) (links_values (suc from) count)

module _ {X : Type 0} where
  -- One turn of the loop that links the places, from the last one down.
  pub linked_turn : (i j count : ℕ) (old new : List (Option (Slot X))) → i ≡ suc j → i ≤ count → old ≡ replicate i None ++ links i (count - i) → new ≡ set old j (Some (Free i))
      → new ≡ replicate j None ++ links j (count - j)
  linked_turn i j count old new down le was is =
      let left : suc (count - i) ≡ count - j = omega arith in
      is ∙ ap (λ row. set row j (Some (Free i))) (was ∙ ap (λ k. replicate k None ++ links i (count - i)) down) ∙ linked_more j (Some (Free i)) (links i (count - i))
      ∙ ap (λ k. replicate j None ++ Some (Free k) ∷ links k (count - i)) down ∙ ap (λ k. replicate j None ++ links j k) left

  -- One turn of the loop that empties the places, from the first one up.
  pub cleared_turn : (i j : ℕ) (full old new : List (Option X)) → j ≡ suc i → i < length full → old ≡ replicate i None ++ drop i full → new ≡ set old i None → new ≡ replicate j None ++ drop j full
  cleared_turn i j full old new up lt was is =
      is ∙ ap (λ row. set row i None) was ∙ cleared_more i full lt ∙ ap (λ k. replicate k None ++ drop k full) (sym up)

  -- The place that such a turn empties holds a slot.
  pub cleared_holds : (i : ℕ) (full old : List (Option (Slot X))) → AreMade full → i < length full → old ≡ replicate i None ++ drop i full → Holds old i
  cleared_holds i full old made lt was = let slot = made_holds full i made lt in (slot.0, ap (λ row. get_or row i None) was ∙ cleared_at i full lt ∙ slot.1)
