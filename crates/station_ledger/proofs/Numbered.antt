-- Numbers of entries that are in range: of a transaction, and of its EVSE.
use Rattle.std.{proofs.Common.{ℕ, ◌<◌, ◌≤◌, Bool, not, List, [], ◌∷◌, map, arith}, specs.List.{filter, filter_map}, specs.Str.bytes_eq}
use Rattle.ledger_model.{specs.Board.last_or_zero, specs.Content.{Entry, live, live_of}, specs.Evse.{evse_of, first_or_zero}, specs.Gaps.numbers_of, specs.Ranges.{greatest_evse, sequence_end}, proofs.Callers.AreEntries}
use Rattle.station_ledger.specs.Numbered.{AreNumbered}

-- entries in range have numbers in range
pub numbered : (es : List Entry) → AreEntries es → AreNumbered es
numbered [] h = tt
numbered (e ∷ es) h = (record { sequence = h.0.key.number; evse = h.0.event.evse }, numbered es h.1)

AreNumbered-filter : (p : Entry → Bool) (es : List Entry) → AreNumbered es → AreNumbered (filter p es)
AreNumbered-filter p [] h = tt
AreNumbered-filter p (e ∷ es) h = grind (arith, AreNumbered-filter p es h.1, h.0)

pub live_numbered : (tx : List ℕ) (es : List Entry) → AreNumbered es → AreNumbered (live_of tx es)
live_numbered tx es h = AreNumbered-filter (λ e. bytes_eq tx e.0.tx) (live es) (AreNumbered-filter (λ e. not e.1.voided) es h)

lowest_few : (es : List Entry) → AreNumbered es → first_or_zero (map (λ (e : Entry). e.0.seq) es) < sequence_end
lowest_few [] h = omega arith
lowest_few (e ∷ es) h = h.0.sequence

highest_few : (es : List Entry) → AreNumbered es → last_or_zero (map (λ (e : Entry). e.0.seq) es) < sequence_end
highest_few [] h = omega arith
highest_few (e ∷ []) h = h.0.sequence
highest_few (e ∷ f ∷ es) h = highest_few (f ∷ es) h.1

named_few : (es : List Entry) → AreNumbered es → first_or_zero (filter_map (λ (e : Entry). e.1.event.evse) es) ≤ greatest_evse
named_few [] h = omega arith
named_few (e ∷ es) h = grind (arith, h.0.evse, named_few es h.1)

-- the lowest and the highest live number
pub first_few : (tx : List ℕ) (es : List Entry) → AreNumbered es → first_or_zero (numbers_of tx es) < sequence_end
first_few tx es h = lowest_few (live_of tx es) (live_numbered tx es h)

pub last_few : (tx : List ℕ) (es : List Entry) → AreNumbered es → last_or_zero (numbers_of tx es) < sequence_end
last_few tx es h = highest_few (live_of tx es) (live_numbered tx es h)

-- a transaction's EVSE
pub evse_few : (tx : List ℕ) (es : List Entry) → AreNumbered es → evse_of tx es ≤ greatest_evse
evse_few tx es h = named_few (live_of tx es) (live_numbered tx es h)
