use Rattle.std.{proofs.Common.{◌≡◌, ◌==◌, ◌&&◌, Bool, refl, ap, subst}, specs.Bool.Decides, proofs.lemmas.Slice.Eq.slice_eq-Decides}
use Rattle.ledger_model.specs.contracts.reading.DirectionPartialEq.TheImpl as directions
use Rattle.ledger_model.specs.contracts.reading.ReadingPartialEq.TheImpl as derived
use Rattle.ledger_model.{specs.declared.reading.Direction.Direction, specs.declared.reading.Direction.TheVariants.{Import, Export}, specs.Event.{MeterReading, same_direction}, proofs.Events.same_reading-Decides}
use Rattle.ledger_model.proofs.event.are_same.Goals as goal

-- the derived test of directions
by_direction : (d e : Direction) → same_direction d e ≡ directions.ghosts.eq d e
by_direction Import Import = refl
by_direction Import Export = refl
by_direction Export Import = refl
by_direction Export Export = refl

-- the derived test of readings decides whether they are equal
derived-Decides : (a b : MeterReading) → Decides (derived.ghosts.eq a b) (a ≡ b)
derived-Decides a b =
    subst (λ (is : Bool). Decides is (a ≡ b)) (ap (λ (is : Bool). (a.moment == b.moment) && ((a.mwh == b.mwh) && is)) (by_direction a.direction b.direction)) (same_reading-Decides a b)

pub returns : goal.returns
returns c = slice_eq-Decides derived-Decides _ _ _ c.eq.ensures
