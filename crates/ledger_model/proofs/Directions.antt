-- What holds in each direction.
use Rattle.std.proofs.Common.{◌≡◌, refl}
use Rattle.ledger_model.{specs.ByDirection.{in_direction, in_each}, specs.declared.by_direction.ByDirection.ByDirection, specs.declared.reading.Direction.Direction, specs.declared.reading.Direction.TheVariants.{Import, Export}}

-- What holds of both directions holds of each.
pub each_way : (P : Direction → Type 0) → P Import → P Export → (d : Direction) → P d
each_way P a b Import = a
each_way P a b Export = b

-- The value of a direction among those that a function gives.
pub each_is : {A : Type 0} (f : Direction → A) (d : Direction) → in_direction d (in_each f) ≡ f d
each_is f Import = refl
each_is f Export = refl

-- Values that agree in each direction are the same.
pub same_each : {A : Type 0} (a b : ByDirection A) → ((d : Direction) → in_direction d a ≡ in_direction d b) → a ≡ b
same_each a b each = let one = each Import in let other = each Export in λ i. record { import = one i; export = other i }
