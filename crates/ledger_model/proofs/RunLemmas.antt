-- Elements in a row; some pass a test. The row with these and without.
use Rattle.std.{proofs.Common.{◌≡◌, ℕ, ◌+◌, ◌*◌, ◌≤◌, Bool, true, false, cond, not, ◌&&◌, ◌||◌, List, [], ◌∷◌, ◌++◌, Option, Some, None, length, refl, ap, ◌∙◌, ⊎_elim, arith, length-append, ◌-◌}, specs.List.{filter, sum_by, zip}, proofs.lemmas.Bool.cases_Bool, proofs.lemmas.List.Elements.filter-append, proofs.lemmas.List.Filters.length-filter_both, proofs.lemmas.List.Sums.sum_by-append, proofs.lemmas.Slice.Zip.length-zip}
use Rattle.ledger_model.{specs.InTime.{across_behind, across_runs, in_pairs, joined, runs, runs_behind}, proofs.SumLemmas.sum_by-const}

module _ {X : Type 0} where
  -- The pairs in a row, with the element in front.
  abbrev pub pairs_behind : Option X → List X → List (X × X)
  pairs_behind front [] = []
  pairs_behind front (x ∷ xs) = joined front x ++ pairs_behind (Some x) xs

  zip_behind : (x : X) (xs : List X) → zip (x ∷ xs) xs ≡ pairs_behind (Some x) xs
  zip_behind x [] = refl
  zip_behind x (y ∷ ys) = ap (λ ps. (x, y) ∷ ps) (zip_behind y ys)

  pub pairs_in_row : (xs : List X) → in_pairs xs ≡ pairs_behind None xs
  pairs_in_row [] = refl
  pairs_in_row (x ∷ xs) = zip_behind x xs

module _ {X : Type 0} (own : X → Bool) where
  -- One of the two passes.
  abbrev pub either : X × X → Bool
  either p = own p.0 || own p.1

  -- The element in front does not pass.
  abbrev IsForeign : Option X → Type 0
  IsForeign None = Unit {0}
  IsForeign (Some x) = own x ≡ false

  joined_own : (front : Option X) (x : X) → own x ≡ true → filter either (joined front x) ≡ joined front x
  joined_own None x is = refl
  joined_own (Some y) x is = ap (λ b. cond {A = List (X × X)} (own y || b) (joined (Some y) x) []) is ∙ or_true (own y)
    where
      or_true : (b : Bool) → cond {A = List (X × X)} (b || true) (joined (Some y) x) [] ≡ joined (Some y) x
      or_true true = refl
      or_true false = refl

  joined_foreign : (front : Option X) (x : X) → IsForeign front → own x ≡ false → filter either (joined front x) ≡ []
  joined_foreign None x foreign is = refl
  joined_foreign (Some y) x foreign is = (λ i. cond {A = List (X × X)} (foreign i || is i) (joined (Some y) x) [])

  joined_behind : (y x : X) → own y ≡ true → filter either (joined (Some y) x) ≡ joined (Some y) x
  joined_behind y x is = ap (λ b. cond {A = List (X × X)} (b || own x) (joined (Some y) x) []) is

  abbrev others : List X → List X
  others xs = filter (λ x. not (own x)) xs

  others_own : (x : X) (xs : List X) → own x ≡ true → others (x ∷ xs) ≡ others xs
  others_own x xs is = ap (λ b. cond (not b) (x ∷ others xs) (others xs)) is

  others_foreign : (x : X) (xs : List X) → own x ≡ false → others (x ∷ xs) ≡ x ∷ others xs
  others_foreign x xs is = ap (λ b. cond (not b) (x ∷ others xs) (others xs)) is

  across_own : (front : Option X) (since : Bool) (x : X) (xs : List X) → own x ≡ true → across_behind front since own (x ∷ xs) ≡ across_behind front true own xs
  across_own front since x xs is = ap (λ b. cond b (across_behind front true own xs) (cond since (joined front x) [] ++ across_behind (Some x) false own xs)) is

  across_foreign : (front : Option X) (since : Bool) (x : X) (xs : List X) → own x ≡ false
      → across_behind front since own (x ∷ xs) ≡ cond since (joined front x) [] ++ across_behind (Some x) false own xs
  across_foreign front since x xs is = ap (λ b. cond b (across_behind front true own xs) (cond since (joined front x) [] ++ across_behind (Some x) false own xs)) is

  module _ (f : X × X → ℕ) where
    cut : (front : Option X) (x : X) (xs : List X) → sum_by f (pairs_behind front (x ∷ xs)) ≡ sum_by f (joined front x) + sum_by f (pairs_behind (Some x) xs)
    cut front x xs = sum_by-append f (joined front x) (pairs_behind (Some x) xs)

    cut_either : (front : Option X) (x : X) (xs : List X)
        → sum_by f (filter either (pairs_behind front (x ∷ xs))) ≡ sum_by f (filter either (joined front x)) + sum_by f (filter either (pairs_behind (Some x) xs))
    cut_either front x xs = ap (sum_by f) (filter-append either (joined front x) (pairs_behind (Some x) xs))
        ∙ sum_by-append f (filter either (joined front x)) (filter either (pairs_behind (Some x) xs))

    mutual
      outside : (front : Option X) → IsForeign front → (xs : List X)
          → sum_by f (pairs_behind front xs) + sum_by f (across_behind front false own xs) ≡ sum_by f (pairs_behind front (others xs)) + sum_by f (filter either (pairs_behind front xs))
      outside front foreign [] = refl
      outside front foreign (x ∷ xs) = ⊎_elim
          (λ (is : own x ≡ true).
          let rest = inside front foreign x is xs in
          let here = ap (sum_by f) (joined_own front x is) in
          rw (across_own front false x xs is, others_own x xs is) (omega (arith, rest, here, cut_either front x xs, cut front x xs)))
          (λ (is : own x ≡ false).
          let rest = outside (Some x) is xs in
          let here = ap (sum_by f) (joined_foreign front x foreign is) in
          rw (across_foreign front false x xs is, others_foreign x xs is) (omega (arith, rest, here, cut_either front x xs, cut front x xs, cut front x (others xs))))
          (cases_Bool (own x))

      inside : (front : Option X) → IsForeign front → (y : X) → own y ≡ true → (xs : List X)
          → sum_by f (pairs_behind (Some y) xs) + sum_by f (across_behind front true own xs) ≡ sum_by f (pairs_behind front (others xs)) + sum_by f (filter either (pairs_behind (Some y) xs))
      inside front foreign y run [] = refl
      inside front foreign y run (x ∷ xs) =
          let here = ap (sum_by f) (joined_behind y x run) in ⊎_elim
          (λ (is : own x ≡ true).
          let rest = inside front foreign x is xs in
          rw (across_own front true x xs is, others_own x xs is) (omega (arith, rest, here, cut_either (Some y) x xs, cut (Some y) x xs)))
          (λ (is : own x ≡ false).
          let rest = outside (Some x) is xs in
          let gone = sum_by-append f (joined front x) (across_behind (Some x) false own xs) in
          rw (across_foreign front true x xs is, others_foreign x xs is) (omega (arith, rest, here, gone, cut_either (Some y) x xs, cut (Some y) x xs, cut front x (others xs))))
          (cases_Bool (own x))

    -- Sums over the pairs in a row: those across the runs go, and those come that have an element
    -- which passes.
    pub runs_sums : (xs : List X) → sum_by f (in_pairs xs) + sum_by f (across_runs own xs) ≡ sum_by f (in_pairs (others xs)) + sum_by f (filter either (in_pairs xs))
    runs_sums xs =
        let all = outside None tt xs in
        let with_them = ap (sum_by f) (pairs_in_row xs) in let without = ap (sum_by f) (pairs_in_row (others xs)) in let came = ap (λ ps. sum_by f (filter either ps)) (pairs_in_row xs) in
        omega (arith, all, with_them, without, came)

  pub runs_own : (front : Bool) (x : X) (xs : List X) → own x ≡ true → runs_behind front own (x ∷ xs) ≡ cond (not front) 1 0 + runs_behind true own xs
  runs_own front x xs is = (λ i. cond (is i && not front) 1 0 + runs_behind (is i) own xs)

  pub runs_foreign : (front : Bool) (x : X) (xs : List X) → own x ≡ false → runs_behind front own (x ∷ xs) ≡ runs_behind false own xs
  runs_foreign front x xs is = let here : runs_behind front own (x ∷ xs) ≡ 0 + runs_behind false own xs = (λ i. cond (is i && not front) 1 0 + runs_behind (is i) own xs) in omega (arith, here)

  -- No more pairs are across runs than there are runs, with the one that an element in front is in.
  few_across : (front : Option X) (since : Bool) (xs : List X) → length (across_behind front since own xs) ≤ runs_behind since own xs + cond since 1 0
  few_across front since [] = omega arith
  few_across front since (x ∷ xs) = by_case (own x) (few_across front true xs) (few_across (Some x) false xs)
    where
      few_joined : (since : Bool) (front : Option X) → length (cond since (joined front x) []) ≤ cond since 1 0
      few_joined true None = omega arith
      few_joined true (Some y) = omega arith
      few_joined false front = omega arith

      begun : (since : Bool) (n : ℕ) → n + 1 ≤ cond (not since) 1 0 + n + cond since 1 0
      begun true n = omega arith
      begun false n = omega arith

      by_case : (b : Bool) → length (across_behind front true own xs) ≤ runs_behind true own xs + 1 → length (across_behind (Some x) false own xs) ≤ runs_behind false own xs + 0
          → length (cond b (across_behind front true own xs) (cond since (joined front x) [] ++ across_behind (Some x) false own xs))
          ≤ cond (b && not since) 1 0 + runs_behind b own xs + cond since 1 0
      by_case true on off = omega (arith, on, begun since (runs_behind true own xs))
      by_case false on off = omega (arith, off, length-append (cond since (joined front x) []) (across_behind (Some x) false own xs), few_joined since front)

  length-in_pairs : (xs : List X) → length (in_pairs xs) ≡ length xs - 1
  length-in_pairs [] = refl
  length-in_pairs (x ∷ xs) = omega (arith, length-zip (x ∷ xs) xs)

  -- No more than these come and go.
  pub few_by_runs : (xs : List X) → length (across_runs own xs) + length (filter either (in_pairs xs)) ≤ length (filter own xs) + 2 * runs own xs
  few_by_runs xs = omega (
    arith,
    runs_sums (λ p. 1) xs,
    sum_by-const 1 (in_pairs xs),
    sum_by-const 1 (across_runs own xs),
    sum_by-const 1 (in_pairs (others xs)),
    sum_by-const 1 (filter either (in_pairs xs)),
    length-in_pairs xs,
    length-in_pairs (others xs),
    length-filter_both own (λ x. not (own x)) (λ x. refl) xs,
    few_across None false xs,
  )

  -- Elements that all pass, or all fail.
  abbrev pub AreOwn : List X → Type 0
  AreOwn [] = Unit {0}
  AreOwn (x ∷ xs) = (own x ≡ true) × AreOwn xs

  abbrev pub AreForeign : List X → Type 0
  AreForeign [] = Unit {0}
  AreForeign (x ∷ xs) = (own x ≡ false) × AreForeign xs

  pub own_passed : (xs : List X) → AreOwn xs → (filter own xs ≡ xs) × (others xs ≡ [])
  own_passed [] all = (refl, refl)
  own_passed (x ∷ xs) all =
      let rest = own_passed xs all.1 in
      ((λ i. cond (all.0 i) (x ∷ filter own xs) (filter own xs)) ∙ ap (λ ys. x ∷ ys) rest.0, others_own x xs all.0 ∙ rest.1)

  pub foreign_passed : (xs : List X) → AreForeign xs → (filter own xs ≡ []) × (others xs ≡ xs)
  foreign_passed [] all = (refl, refl)
  foreign_passed (x ∷ xs) all =
      let rest = foreign_passed xs all.1 in
      ((λ i. cond (all.0 i) (x ∷ filter own xs) (filter own xs)) ∙ rest.0, others_foreign x xs all.0 ∙ ap (λ ys. x ∷ ys) rest.1)

  pub no_runs : (front : Bool) (xs : List X) → AreForeign xs → runs_behind front own xs ≡ 0
  no_runs front [] all = refl
  no_runs front (x ∷ xs) all = runs_foreign front x xs all.0 ∙ no_runs false xs all.1

  run_goes_on : (xs ys : List X) → AreOwn xs → AreForeign ys → runs_behind true own (xs ++ ys) ≡ 0
  run_goes_on [] ys mine theirs = no_runs true ys theirs
  run_goes_on (x ∷ xs) ys mine theirs = let here = runs_own true x (xs ++ ys) mine.0 in let rest = run_goes_on xs ys mine.1 theirs in omega (arith, here, rest)

  -- In a row they are one run.
  pub one_run : (front xs back : List X) → AreForeign front → AreOwn xs → AreForeign back → runs own (front ++ (xs ++ back)) ≤ 1
  one_run [] [] back before mine behind = let none = no_runs false back behind in omega (arith, none)
  one_run [] (x ∷ xs) back before mine behind = let one = runs_own false x (xs ++ back) mine.0 in let on = run_goes_on xs back mine.1 behind in omega (arith, one, on)
  one_run (y ∷ front) xs back before mine behind = let skip = runs_foreign false y (front ++ (xs ++ back)) before.0 in
      let rest = one_run front xs back before.1 mine behind in omega (arith, skip, rest)
