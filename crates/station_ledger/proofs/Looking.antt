-- The looks that a board takes.
use Rattle.std.{proofs.Common.{◌≡◌, ◌≢◌, ℕ, zero, suc, ◌+◌, ◌≤◌, List, [], ◌∷◌, ◌++◌, Option, None, Some, length, take, refl, ap, arith}, specs.List.flat_map, proofs.lemmas.List.length-append}
use Rattle.ledger_model.{specs.Content.Entry, specs.Deltas.{across, pairs_between}, specs.Event.MeterReading, specs.Limits.Bounds, specs.declared.order.Order.Order, specs.declared.settle.Settle.Settle, specs.declared.settle.Settle.TheVariants.{Later, Closing, Even}, specs.Step.readings_stored}
use Rattle.station_ledger.{specs.Looks.{looks_within, most_looks}, specs.Quarters.IsWork, proofs.Bounded.few_pairs}

-- One look after another.
pub and_then : (m n before between after : ℕ) → IsWork m before between → IsWork n between after → IsWork (m + n) before after
and_then m n before between after one two = record { bound = omega (arith, one.bound, two.bound); grows = omega (arith, one.grows, two.grows) }

-- No more than a greater bound.
pub at_most : (m n before after : ℕ) → m ≤ n → IsWork m before after → IsWork n before after
at_most m n before after le is = record { bound = omega (arith, is.bound); grows = is.grows }

-- One step along readings.
pub looked : (last : Option MeterReading) (r : MeterReading) (left rest : List MeterReading) (was now all : ℕ) → left ≡ r ∷ rest
    → IsWork (length (across last (Some r))) was now → was + length (pairs_between last left None) ≤ all
    → now + length (pairs_between (Some r) rest None) ≤ all
looked last r left rest was now all steps is so_far =
    let long = ap (λ rs. length (pairs_between last rs None)) steps in
    let parts = length-append (across last (Some r)) (pairs_between (Some r) rest None) in
    omega (arith, is.bound, long, parts, so_far)

-- What some lists make is no longer than what all make.
pub flat_map-take : {A B : Type 0} (f : A → List B) (n : ℕ) (xs : List A) → length (flat_map f (take n xs)) ≤ length (flat_map f xs)
flat_map-take f zero xs = omega arith
flat_map-take f (suc n) [] = omega arith
flat_map-take f (suc n) (x ∷ xs) = omega (arith, flat_map-take f n xs, length-append (f x) (flat_map f (take n xs)), length-append (f x) (flat_map f xs))

-- Nothing is looked at unless differences are shared.
pub none_looked : (rule : Settle) (order : Order) (es : List Entry) → rule ≢ Even → most_looks rule order es ≡ 0
none_looked Later order es other = refl
none_looked Closing order es other = refl
none_looked Even order es other = absurd (other refl)

-- A station looks at no more pairs than it may store readings.
pub few_looks : (rule : Settle) (order : Order) (es : List Entry) (readings : ℕ) → readings_stored es ≤ readings → most_looks rule order es ≤ looks_within rule readings
few_looks Later order es readings few = omega arith
few_looks Closing order es readings few = omega arith
few_looks Even order es readings few = omega (arith, few_pairs order es, few)
