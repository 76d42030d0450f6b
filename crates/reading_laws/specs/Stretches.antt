-- A list cut where elements that pass a test and elements that do not take turns.
use Rattle.std.{specs.Prelude.{◌≡◌, ◌≢◌, Bool, true, false, List, [], ◌∷◌, ◌++◌, All}, specs.List.flat_map}

-- A stretch of elements, and the elements behind it up to the next stretch.
abbrev pub Stretch : Type 0 → Type 0
Stretch X = List X × List X

-- The elements of stretches, one stretch after the other, each with those behind it.
abbrev pub elements_of : {X : Type 0} → List (Stretch X) → List X
elements_of ss = flat_map (λ s. s.0 ++ s.1) ss

-- The stretch has an element, each of its elements passes the test, and none behind it does.
pub record IsStretch {X : Type 0} (own : X → Bool) (s : Stretch X) : Type 0 where
  pub some : s.0 ≢ []
  pub passes : All (λ x. own x ≡ true) s.0
  pub behind : All (λ x. own x ≡ false) s.1

-- No stretch can be made longer: between any two in a row there is an element.
abbrev pub AreStretches : {X : Type 0} → (X → Bool) → List (Stretch X) → Type 0
AreStretches own [] = Unit {0}
AreStretches own (s ∷ []) = IsStretch own s
AreStretches own (s ∷ t ∷ ss) = IsStretch own s × (s.1 ≢ []) × AreStretches own (t ∷ ss)

-- A list cut into its longest stretches of elements that pass the test, with what is in front of the first.
pub record AreMaximalStretches {X : Type 0} (own : X → Bool) (xs front : List X) (ss : List (Stretch X)) : Type 0 where
  pub whole : xs ≡ front ++ elements_of ss
  pub front_fails : All (λ x. own x ≡ false) front
  pub stretches : AreStretches own ss
