-- Runs of elements that pass a test, as the longest stretches of them.
use Rattle.std.{proofs.Common.{◌≡◌, ◌+◌, Bool, true, false, List, [], ◌∷◌, ◌++◌, length, refl, ap, ◌∙◌, ⊎_elim, append_assoc, arith}, specs.List.{All, AllByRecursion}, proofs.lemmas.Bool.cases_Bool, proofs.lemmas.List.Elements.{recursion_from_All, All-cons, All-nil}}
use Rattle.ledger_model.{specs.InTime.{runs, runs_behind}, proofs.RunLemmas.{runs_foreign, runs_own}}
use Rattle.reading_laws.specs.Stretches.{elements_of, AreMaximalStretches, AreStretches, IsStretch, Stretch}

module _ {X : Type 0} (own : X → Bool) where
  abbrev Pass : List X → Type 0
  Pass xs = AllByRecursion (λ x. own x ≡ true) xs

  abbrev Fail : List X → Type 0
  Fail xs = AllByRecursion (λ x. own x ≡ false) xs

  -- no run begins among elements that fail
  behind_failing : (front : Bool) (xs ys : List X) → Fail xs → (xs ≡ [] → front ≡ false) → runs_behind front own (xs ++ ys) ≡ runs_behind false own ys
  behind_failing front [] ys fail some = ap (λ b. runs_behind b own ys) (some refl)
  behind_failing front (x ∷ xs) ys fail some = runs_foreign own front x (xs ++ ys) fail.0 ∙ behind_failing false xs ys fail.1 (λ e. refl)

  -- a run goes on among elements that pass
  behind_passing : (xs ys : List X) → Pass xs → runs_behind true own (xs ++ ys) ≡ runs_behind true own ys
  behind_passing [] ys pass = refl
  behind_passing (x ∷ xs) ys pass = let here = runs_own own true x (xs ++ ys) pass.0 in let rest = behind_passing xs ys pass.1 in omega (arith, here, rest)

  -- one stretch is one run
  one_stretch : (xs ys : List X) → Pass xs → (xs ≡ [] → ⊥) → runs_behind false own (xs ++ ys) ≡ 1 + runs_behind true own ys
  one_stretch [] ys pass some = absurd (some refl)
  one_stretch (x ∷ xs) ys pass some = runs_own own false x (xs ++ ys) pass.0 ∙ ap (λ n. 1 + n) (behind_passing xs ys pass.1)

  none_more : (xs : List X) → Fail xs → runs_behind true own (xs ++ []) ≡ 0
  none_more [] fail = refl
  none_more (x ∷ xs) fail = runs_foreign own true x (xs ++ []) fail.0 ∙ behind_failing false xs [] fail.1 (λ e. refl)

  in_stretches : (ss : List (Stretch X)) → AreStretches own ss → runs_behind false own (elements_of ss) ≡ length ss
  in_stretches [] are = refl
  in_stretches (s ∷ []) are =
      let cut : elements_of (s ∷ []) ≡ s.0 ++ (s.1 ++ []) = append_assoc s.0 s.1 [] in
      let first = one_stretch s.0 (s.1 ++ []) (recursion_from_All (λ x. own x ≡ true) s.0 are.passes) are.some in
      let last = none_more s.1 (recursion_from_All (λ x. own x ≡ false) s.1 are.behind) in
      let all = ap (runs_behind false own) cut in
      omega (arith, all, first, last)
  in_stretches (s ∷ t ∷ ss) are =
      let rest = in_stretches (t ∷ ss) are.2 in
      let cut : elements_of (s ∷ t ∷ ss) ≡ s.0 ++ (s.1 ++ elements_of (t ∷ ss)) = append_assoc s.0 s.1 (elements_of (t ∷ ss)) in
      let first = one_stretch s.0 (s.1 ++ elements_of (t ∷ ss)) (recursion_from_All (λ x. own x ≡ true) s.0 are.0.passes) are.0.some in
      let parted = behind_failing true s.1 (elements_of (t ∷ ss)) (recursion_from_All (λ x. own x ≡ false) s.1 are.0.behind) (λ e. absurd (are.1 e)) in
      let all = ap (runs_behind false own) cut in
      omega (arith, all, first, parted, rest)

  pub runs_counted : (xs front : List X) (ss : List (Stretch X)) → AreMaximalStretches own xs front ss → runs own xs ≡ length ss
  runs_counted xs front ss are =
      ap (runs_behind false own) are.whole
      ∙ behind_failing false front (elements_of ss) (recursion_from_All (λ x. own x ≡ false) front are.front_fails) (λ e. refl)
      ∙ in_stretches ss are.stretches

  -- the first stretch, with an element more in front
  longer_one : (x : X) (s : Stretch X) → own x ≡ true → IsStretch own s → IsStretch own (x ∷ s.0, s.1)
  longer_one x s is are = record { some = λ e. cc; passes = All-cons (λ x. own x ≡ true) x s.0 is are.passes; behind = are.behind }

  longer : (x : X) (s : Stretch X) (ss : List (Stretch X)) → own x ≡ true → AreStretches own (s ∷ ss) → AreStretches own ((x ∷ s.0, s.1) ∷ ss)
  longer x s [] is are = longer_one x s is are
  longer x s (t ∷ ss) is are = (longer_one x s is are.0, are.1, are.2)

  -- a stretch of one element, with elements behind it
  new_one : (x : X) (behind : List X) → own x ≡ true → All (λ x. own x ≡ false) behind → IsStretch own (x ∷ [], behind)
  new_one x behind is fail = record { some = λ e. cc; passes = All-cons (λ x. own x ≡ true) x [] is (All-nil (λ x. own x ≡ true)); behind = fail }

  new : (x y : X) (behind : List X) (ss : List (Stretch X)) → own x ≡ true → All (λ x. own x ≡ false) (y ∷ behind) → AreStretches own ss → AreStretches own ((x ∷ [], y ∷ behind) ∷ ss)
  new x y behind [] is fail are = new_one x (y ∷ behind) is fail
  new x y behind (t ∷ ss) is fail are = (new_one x (y ∷ behind) is fail, λ e. cc, are)

  -- an element that passes makes the first stretch longer, or a stretch of its own
  with_passing : (x : X) → own x ≡ true → (xs front : List X) (ss : List (Stretch X)) → AreMaximalStretches own xs front ss
      → (more : List X) × (ts : List (Stretch X)) × AreMaximalStretches own (x ∷ xs) more ts
  with_passing x is xs [] [] are =
      ([], (x ∷ [], []) ∷ [], record { whole = ap (λ ys. x ∷ ys) are.whole; front_fails = All-nil (λ x. own x ≡ false); stretches = new_one x [] is (All-nil (λ x. own x ≡ false)) })
  with_passing x is xs [] (s ∷ ss) are =
      ([], (x ∷ s.0, s.1) ∷ ss, record { whole = ap (λ ys. x ∷ ys) are.whole; front_fails = All-nil (λ x. own x ≡ false); stretches = longer x s ss is are.stretches })
  with_passing x is xs (y ∷ front) ss are =
      ([], (x ∷ [], y ∷ front) ∷ ss, record { whole = ap (λ ys. x ∷ ys) are.whole; front_fails = All-nil (λ x. own x ≡ false); stretches = new x y front ss is are.front_fails are.stretches })

  pub stretches_there : (xs : List X) → (front : List X) × (ss : List (Stretch X)) × AreMaximalStretches own xs front ss
  stretches_there [] = ([], [], record { whole = refl; front_fails = All-nil (λ x. own x ≡ false); stretches = tt })
  stretches_there (x ∷ xs) =
      let rest = stretches_there xs in
      ⊎_elim
      (λ (is : own x ≡ true). with_passing x is xs rest.0 rest.1 rest.2)
      (λ (is : own x ≡ false). (
        x ∷ rest.0,
        rest.1,
        record {
          whole = ap (λ ys. x ∷ ys) rest.2.whole;
          front_fails = All-cons (λ x. own x ≡ false) x rest.0 is rest.2.front_fails;
          stretches = rest.2.stretches;
        },
      ))
      (cases_Bool (own x))
