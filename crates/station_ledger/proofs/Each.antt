-- What holds of each element of a list.
use Rattle.std.{proofs.Common.{ℕ, List, [], ◌∷◌, ◌++◌, arith}, specs.List.AllByRecursion, proofs.lemmas.Bool.Decides.nat_tests}
use Rattle.ledger_model.{specs.declared.reading.Direction.Direction, specs.Event.{MeterReading, toward}, specs.InTime.{in_time, put_in_time}}

module _ {X : Type 0} (P : X → Type 0) where
  pub each_append : (xs ys : List X) → AllByRecursion P xs → AllByRecursion P ys → AllByRecursion P (xs ++ ys)
  each_append [] ys all more = more
  each_append (x ∷ xs) ys all more = (all.0, each_append xs ys all.1 more)

  pub each_put : (key : X → ℕ) (x : X) (xs : List X) → P x → AllByRecursion P xs → AllByRecursion P (put_in_time key x xs)
  each_put key x [] here all = (here, tt)
  each_put key x (y ∷ ys) here all = grind (arith, nat_tests, each_put key x ys here all.1)

  pub each_in_time : (key : X → ℕ) (xs : List X) → AllByRecursion P xs → AllByRecursion P (in_time key xs)
  each_in_time key [] all = tt
  each_in_time key (x ∷ xs) all = each_put key x (in_time key xs) all.0 (each_in_time key xs all.1)

-- What follows for each from what holds of each.
pub each_then : {X : Type 0} (P Q : X → Type 0) → ((x : X) → P x → Q x) → (xs : List X) → AllByRecursion P xs → AllByRecursion Q xs
each_then P Q so [] all = tt
each_then P Q so (x ∷ xs) all = (so x all.0, each_then P Q so xs all.1)

pub each_toward : (P : MeterReading → Type 0) (d : Direction) (rs : List MeterReading) → AllByRecursion P rs → AllByRecursion P (toward d rs)
each_toward P d [] all = tt
each_toward P d (r ∷ rs) all = grind (arith, each_toward P d rs all.1)
