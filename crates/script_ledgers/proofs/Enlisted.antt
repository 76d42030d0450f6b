-- Cells that give their first tallies, one after the other.
use Rattle.std.{proofs.Common.{◌≡◌, ℕ, zero, suc, ◌+◌, ◌<◌, ◌≤◌, List, [], ◌∷◌, ◌++◌, Result, Ok, All, length, map, take, drop, set, get_or, refl, subst, ap, sym, ◌∙◌, append-nil, arith}, specs.Prelude.{IfOk, OnOk}, proofs.lemmas.List.{map-append, take_all, drop_all, take_more}}
use Rattle.site_desk.specs.Cell.{Cell, Tallied, new_tally}

module _ {X : Type 0} (f : X → X) where
  -- the first i elements are changed
  abbrev pub turned : ℕ → List X → List X
  turned i xs = map f (take i xs) ++ drop i xs

  pub turned_at : (xs : List X) (i : ℕ) (d : X) → i < length xs → get_or (turned i xs) i d ≡ get_or xs i d
  turned_at [] i d less = absurd (omega arith)
  turned_at (x ∷ xs) zero d less = refl
  turned_at (x ∷ xs) (suc i) d less = turned_at xs i d (omega (arith, less))

  turned_next : (xs : List X) (i : ℕ) (d : X) → i < length xs → set (turned i xs) i (f (get_or xs i d)) ≡ turned (suc i) xs
  turned_next [] i d less = absurd (omega arith)
  turned_next (x ∷ xs) zero d less = refl
  turned_next (x ∷ xs) (suc i) d less = ap (λ l. f x ∷ l) (turned_next xs i d (omega (arith, less)))

  pub turned_more : (xs : List X) (i : ℕ) (d : X) → i < length xs → set (turned i xs) i (f (get_or xs i d)) ≡ turned (i + 1) xs
  turned_more xs i d less = let same : suc i ≡ i + 1 = omega arith in turned_next xs i d less ∙ ap (λ n. turned n xs) same

  pub turned_all : (xs : List X) (i : ℕ) → length xs ≤ i → turned i xs ≡ map f xs
  turned_all xs i past = ap (λ l. map f l ++ drop i xs) (take_all i xs past) ∙ ap (λ l. map f xs ++ l) (drop_all i xs past) ∙ append-nil (map f xs)

-- a cell that gave its first pass
abbrev pub first_given : Cell → Cell
first_given c = record c { counts = 0 ∷ [] }

-- the first pass of one cell more
pub enlisted_step : (old items : List Cell) (i : ℕ) (tallies more : List Tallied) (x c : Cell) (p : Tallied) → All (λ d. d.counts ≡ []) old → i < length old → items ≡ turned first_given i old
    → tallies ≡ map (λ d. new_tally d.station 0) (take i old) → c ≡ record (get_or items i x) { counts = (get_or items i x).counts ++ 0 ∷ [] }
    → p ≡ new_tally (get_or items i x).station (length (get_or items i x).counts) → more ≡ tallies ++ p ∷ []
    → (set items i c ≡ turned first_given (i + 1) old) × (more ≡ map (λ d. new_tally d.station 0) (take (i + 1) old))
enlisted_step old items i tallies more x c p all less items_are tallies_are cell_is tally_is more_is =
    let same : get_or items i x ≡ get_or old i x = ap (λ l. get_or l i x) items_are ∙ turned_at first_given old i x less in
    let none : (get_or old i x).counts ≡ [] = all i x less in
    let cell : c ≡ first_given (get_or old i x) = cell_is ∙ (λ j. record (same j) { counts = (same j).counts ++ 0 ∷ [] })
    ∙ ap (λ (k : List ℕ). record (get_or old i x) { counts = k ++ 0 ∷ [] }) none in
    let tally : p ≡ new_tally (get_or old i x).station 0 = tally_is ∙ (λ j. new_tally (same j).station (length (same j).counts))
    ∙ ap (λ (k : List ℕ). new_tally (get_or old i x).station (length k)) none in
    let to : Cell → Tallied = λ d. new_tally d.station 0 in (
      (λ j. set (items_are j) i (cell j)) ∙ turned_more first_given old i x less,
      more_is ∙ (λ j. tallies_are j ++ tally j ∷ []) ∙ sym (ap (map to) (take_more old i x less) ∙ map-append to (take i old) (get_or old i x ∷ [])),
    )

-- what a call that succeeded ensures
pub told_ok : {T E : Type 0} (r : Result T E) (x : T) (P : Type 0) → r ≡ Ok x → OnOk r P → P
told_ok r x P e h = subst (λ s. OnOk s P) e h

pub told_value : {T E : Type 0} (r : Result T E) (x : T) (P : T → Type 0) → r ≡ Ok x → IfOk r P → P x
told_value r x P e h = subst (λ s. IfOk s P) e h
