-- What is left of a list.
use Rattle.std.proofs.Common.{◌≡◌, ℕ, zero, suc, List, [], ◌∷◌, Some, None, drop, slice_get, refl, ap, ◌∙◌, sym}

-- One more is taken.
pub drop_some : (xs : List (List ℕ)) (n m : ℕ) (x : List ℕ) → m ≡ suc n → slice_get xs n ≡ Some x → drop n xs ≡ x ∷ drop m xs
drop_some xs n m x up is = step xs n x is ∙ ap (λ k. x ∷ drop k xs) (sym up) where
  step : (ys : List (List ℕ)) (k : ℕ) (y : List ℕ) → slice_get ys k ≡ Some y → drop k ys ≡ y ∷ drop (suc k) ys
  step [] k y h = cc
  step (z ∷ ys) zero y h = let e : z ≡ y = cc in ap (λ (w : List ℕ). w ∷ ys) e
  step (z ∷ ys) (suc k) y h = step ys k y h

-- None is left.
pub drop_none : (xs : List (List ℕ)) (n : ℕ) → slice_get xs n ≡ None → drop n xs ≡ []
drop_none [] zero h = refl
drop_none [] (suc n) h = refl
drop_none (x ∷ xs) zero h = cc
drop_none (x ∷ xs) (suc n) h = drop_none xs n h
