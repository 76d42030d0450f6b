-- A pass that was taken from a pool.
use Rattle.std.{proofs.Common.{◌≡◌, ◌==◌, ℕ, ◌+◌, ◌<◌, Bool, true, List, Option, None, Some, length, get_or, slice_get, refl, sym, ap, subst, ◌∙◌}, specs.Prelude.IfSome, specs.List.{position, remove}, proofs.lemmas.Bool.eqb-true, proofs.lemmas.List.Quantifiers.position-Some, proofs.lemmas.Option.{get_or_from_slice_get, slice_get_read}}
use Rattle.site_desk.specs.Cell.{Held}
use Rattle.running_desk.specs.Pooled.{IsTaken, Pooled}

-- the pass at the place that was found
pub taken : (before now : Pooled) (o : Option ℕ) (place : ℕ) (p : Held) → Some place ≡ o → place < length before.passes → p ≡ get_or before.passes place p → now.passes ≡ remove before.passes place
    → now.room ≡ before.room + 1 → IsTaken o before (Some p) now
taken before now o place p at within value items more =
    subst (λ x. IsTaken x before (Some p) now) at (sym (slice_get_read before.passes (length before.passes) place p refl within value), λ i. record { passes = items i; room = more i })

-- a pass that was taken because it is of this station is of it
abbrev pub is_of : ℕ → Held → Bool
is_of station p = p.station == station

found : (station : ℕ) (passes : List Held) (place : ℕ) → position (is_of station) passes ≡ Some place → (result : Option Held)
    → result ≡ slice_get passes place → IfSome result (λ p. p.station ≡ station)
found station passes place at None is = tt
found station passes place at (Some p) is =
    let first = position-Some (is_of station) passes place p at in
    let same : get_or passes place p ≡ p = get_or_from_slice_get passes place p p (sym is) in
    let test : is_of station p ≡ true = sym (ap (is_of station) same) ∙ first.1 in
    eqb-true p.station station test

taken_at : (station : ℕ) (before now : Pooled) (o : Option ℕ) → position (is_of station) before.passes ≡ o
    → (result : Option Held) → IsTaken o before result now → IfSome result (λ p. p.station ≡ station)
taken_at station before now None at result h = let P : Option Held → Type 0 = λ r. IfSome r (λ p. p.station ≡ station) in subst P (sym h.0) tt
taken_at station before now (Some place) at result h = found station before.passes place at result h.0

pub taken_is_of : (station : ℕ) (before now : Pooled) (result : Option Held) → IsTaken (position (is_of station) before.passes) before result now → IfSome result (λ p. p.station ≡ station)
taken_is_of station before now result h = taken_at station before now (position (is_of station) before.passes) refl result h
