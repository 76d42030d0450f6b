-- The last reading of a direction.
use Rattle.std.{proofs.lemmas.Grind.common_steps, proofs.Common.{arith, ◌≡◌, true, false, cond, List, [], ◌∷◌, Option, Some, None, refl, sym, ap, ◌∙◌}}
use Rattle.ledger_model.{specs.declared.reading.Direction.Direction, specs.declared.reading.Direction.TheVariants.{Import, Export}, specs.Deltas.last_reading, specs.Event.{MeterReading, same_direction, toward}}
use Rattle.event_store.proofs.Runs.{last_more}

-- The last of readings, or what came before if there is none.
abbrev pub last_or : Option MeterReading → List MeterReading → Option MeterReading
last_or o [] = o
last_or o (r ∷ rs) = last_or (Some r) rs

last_from : (r : MeterReading) (rs : List MeterReading) → last_or (Some r) rs ≡ last_reading (r ∷ rs)
last_from r [] = refl
last_from r (s ∷ rs) = last_from s rs ∙ sym (last_more r s rs)

-- It is their last one where nothing came before.
pub last_or_is : (rs : List MeterReading) → last_or None rs ≡ last_reading rs
last_or_is [] = refl
last_or_is (r ∷ rs) = last_from r rs

same_self : (d : Direction) → same_direction d d ≡ true
same_self d = grind (arith, common_steps)

other_one : (d : Direction) (x r : MeterReading) → same_direction d x.direction ≡ false → same_direction d r.direction ≡ true → Some x ≡ Some r → ⊥
other_one d x r apart same e = grind (arith, common_steps)

toward_or : (d : Direction) (o p : Option MeterReading) (rs : List MeterReading) (r : MeterReading) → (o ≡ Some r → p ≡ Some r)
    → last_or o rs ≡ Some r → same_direction d r.direction ≡ true → last_or p (toward d rs) ≡ Some r
toward_or d o p [] r step last same = step last
toward_or d o p (x ∷ rs) r step last same =
    (elim (same_direction d x.direction) as (λ b. same_direction d x.direction ≡ b → last_or p (cond b (x ∷ toward d rs) (toward d rs)) ≡ Some r) [
      | true ↦ λ e. toward_or d (Some x) (Some x) rs r (λ is. is) last same
      | false ↦ λ e. toward_or d (Some x) p rs r (λ is. absurd (other_one d x r e same is)) last same
    ]) refl

-- The last reading of all, where it is of the direction, is the last one of the direction.
pub last_toward : (d : Direction) (rs : List MeterReading) (r : MeterReading) → last_reading rs ≡ Some r → r.direction ≡ d → last_reading (toward d rs) ≡ Some r
last_toward d rs r last is =
    sym (last_or_is (toward d rs)) ∙ toward_or d None None rs r (λ e. e) (last_or_is rs ∙ last) (ap (same_direction d) is ∙ same_self d)
