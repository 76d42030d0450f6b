-- Lists in the order of moments.
use Rattle.std.{specs.Prelude.{ℕ, Bool, true, false, ◌+◌, ◌≤◌, ◌&&◌, not, List, [], ◌∷◌, ◌++◌, Option, None, Some, drop, nat_lt, if◌then◌else◌}, specs.List.zip}
use Rattle.ledger_model.{specs.declared.order.Order.Order, specs.declared.order.Order.TheVariants.{Sequence, Moment}}

-- An element put in front of the first one that is not earlier.
abbrev pub put_in_time : {X : Type 0} → (X → ℕ) → X → List X → List X
put_in_time when x [] = x ∷ []
put_in_time when x (y ∷ ys) = if nat_lt (when y) (when x) then y ∷ put_in_time when x ys else x ∷ y ∷ ys

-- The elements by moment, and those of one moment in the order that they have: a stable sort.
abbrev pub in_time : {X : Type 0} → (X → ℕ) → List X → List X
in_time when [] = []
in_time when (x ∷ xs) = put_in_time when x (in_time when xs)

-- The elements in an order: as they are, or by moment.
abbrev pub in_order : {X : Type 0} → Order → (X → ℕ) → List X → List X
in_order Sequence when xs = xs
in_order Moment when xs = in_time when xs

-- No element is earlier than the one in front of it.
abbrev pub AreInTime : {X : Type 0} → (X → ℕ) → List X → Type 0
AreInTime when [] = Unit {0}
AreInTime when (x ∷ []) = Unit {0}
AreInTime when (x ∷ y ∷ ys) = (when x ≤ when y) × AreInTime when (y ∷ ys)

-- Each element with the one that follows it.
abbrev pub in_pairs : {X : Type 0} → List X → List (X × X)
in_pairs xs = zip xs (drop 1 xs)

-- How many runs of elements pass a test: stretches that can't be made longer. The first argument
-- says whether the element in front passes it.
abbrev pub runs_behind : {X : Type 0} → Bool → (X → Bool) → List X → ℕ
runs_behind front own [] = 0
runs_behind front own (x ∷ xs) = (if own x && not front then 1 else 0) + runs_behind (own x) own xs

abbrev pub runs : {X : Type 0} → (X → Bool) → List X → ℕ
runs own xs = runs_behind false own xs

-- The pair of the element in front and an element, if there is one in front.
abbrev pub joined : {X : Type 0} → Option X → X → List (X × X)
joined None y = []
joined (Some x) y = (x, y) ∷ []

-- The pair across each run: of the element in front of the run, which does not pass the test, and the one behind it.
-- The first arguments are the last element so far that does not pass, and whether one that passes came since.
abbrev pub across_behind : {X : Type 0} → Option X → Bool → (X → Bool) → List X → List (X × X)
across_behind front since own [] = []
across_behind front since own (x ∷ xs) = if own x then across_behind front true own xs else (if since then joined front x else []) ++ across_behind (Some x) false own xs

abbrev pub across_runs : {X : Type 0} → (X → Bool) → List X → List (X × X)
across_runs own xs = across_behind None false own xs
