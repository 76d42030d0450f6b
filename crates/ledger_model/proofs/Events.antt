-- The tests on events decide equality.
use Rattle.std.{proofs.Common.{◌≡◌, ℕ, List, [], ◌∷◌, Option, Some, None, refl, ap}, specs.Bool.Decides, proofs.lemmas.Bool.false≢true, proofs.lemmas.Bool.Decides.{Decides-eqb, Decides-and, Decides-like}}
use Rattle.ledger_model.{specs.declared.kind.Kind.Kind, specs.declared.kind.Kind.TheVariants.{Started, Updated, Ended}, specs.declared.reading.Direction.Direction, specs.declared.reading.Direction.TheVariants.{Import, Export}, specs.Event.{MeterReading, EventContent, same_kind, same_evse, same_direction, same_reading, same_readings, same_event}}

same_kind-Decides : (a b : Kind) → Decides (same_kind a b) (a ≡ b)
same_kind-Decides Started Started = (λ _. refl, λ _. refl)
same_kind-Decides Updated Updated = (λ _. refl, λ _. refl)
same_kind-Decides Ended Ended = (λ _. refl, λ _. refl)
same_kind-Decides _ _ = (λ h. absurd (false≢true h), λ e. cc)

same_evse-Decides : (a b : Option ℕ) → Decides (same_evse a b) (a ≡ b)
same_evse-Decides None None = (λ _. refl, λ _. refl)
same_evse-Decides (Some m) (Some n) = Decides-like _ (λ e. ap Some e) (λ e. cc) (Decides-eqb m n)
same_evse-Decides _ _ = (λ h. absurd (false≢true h), λ e. cc)

same_direction-Decides : (a b : Direction) → Decides (same_direction a b) (a ≡ b)
same_direction-Decides Import Import = (λ _. refl, λ _. refl)
same_direction-Decides Export Export = (λ _. refl, λ _. refl)
same_direction-Decides _ _ = (λ h. absurd (false≢true h), λ e. cc)

pub same_reading-Decides : (a b : MeterReading) → Decides (same_reading a b) (a ≡ b)
same_reading-Decides a b =
    Decides-like _ (λ parts i. record { moment = parts.0 i; mwh = parts.1.0 i; direction = parts.1.1 i })
    (λ e. (ap (λ (r : MeterReading). r.moment) e, (ap (λ (r : MeterReading). r.mwh) e, ap (λ (r : MeterReading). r.direction) e)))
    (Decides-and _ _ (Decides-eqb a.moment b.moment) (Decides-and _ _ (Decides-eqb a.mwh b.mwh) (same_direction-Decides a.direction b.direction)))

same_readings-Decides : (rs ss : List MeterReading) → Decides (same_readings rs ss) (rs ≡ ss)
same_readings-Decides [] [] = (λ _. refl, λ _. refl)
same_readings-Decides (a ∷ rs) (b ∷ ss) =
    Decides-like _ (λ parts i. parts.0 i ∷ parts.1 i) (λ e. (cc, cc)) (Decides-and _ _ (same_reading-Decides a b) (same_readings-Decides rs ss))
same_readings-Decides _ _ = (λ h. absurd (false≢true h), λ e. cc)

-- the test of events decides whether they are equal
pub same_event-Decides : (a b : EventContent) → Decides (same_event a b) (a ≡ b)
same_event-Decides a b =
    Decides-like _ (λ parts i. record { kind = parts.0.0.0 i; moment = parts.0.0.1 i; evse = parts.0.1 i; readings = parts.1 i })
    (λ e. (((ap (λ (h : EventContent). h.kind) e, ap (λ (h : EventContent). h.moment) e), ap (λ (h : EventContent). h.evse) e), ap (λ (h : EventContent). h.readings) e))
    (Decides-and _ _ (Decides-and _ _ (Decides-and _ _ (same_kind-Decides a.kind b.kind) (Decides-eqb a.moment b.moment)) (same_evse-Decides a.evse b.evse))
    (same_readings-Decides a.readings b.readings))
