-- The events and readings of a transaction, as a question for them shows them.
use Rattle.std.{specs.Prelude.{◌≡◌, ℕ, ◌+◌, List, [], ◌∷◌}, specs.List.flat_map}
use Rattle.event_chain.specs.EventLines.{events_of}
use Rattle.ledger_model.{specs.Content.{Entry, live_of}, specs.Energy.flows_of_by, specs.Event.{MeterReading, toward}, specs.InTime.in_order, specs.Periods.Periods, specs.declared.order.Order.Order, specs.declared.reading.Direction.Direction, specs.declared.reading.Direction.TheVariants.{Import, Export}, specs.Limits.Bounds, specs.declared.order.Order.TheVariants.Moment}
use Rattle.reading_index.specs.declared.placed.PlacedReading.{PlacedReading}
use Rattle.station_ledger.{specs.ByMoment.AreByMoment, specs.Sums.AreAllowed, specs.declared.by_moment.ByMoment.ByMoment, specs.declared.listing.TxListing.TxListing}

-- Readings of an event, in the order sent, each with the event's number and its place, beginning at the given place.
abbrev pub placed_from : ℕ → ℕ → List MeterReading → List PlacedReading
placed_from number place [] = []
placed_from number place (r ∷ rs) = record { number = number; place = place; reading = r } ∷ placed_from number (place + 1) rs

-- The readings of an event in one direction, each with its number and its place.
abbrev pub placed : Direction → Entry → List PlacedReading
placed d e = placed_from e.0.seq 0 (toward d e.1.event.readings)

-- The live readings of a transaction in one direction, in a site's order, each with the number of its event and its
-- place there.
abbrev pub placed_by : Order → Direction → List ℕ → List Entry → List PlacedReading
placed_by order d tx es = in_order order (λ p. p.reading.moment) (flat_map (placed d) (live_of tx es))

-- The events of a transaction, its live readings in a site's order, and its energies.
abbrev pub listing_by : Order → Periods → List ℕ → List Entry → TxListing
listing_by order period tx es = record {
  order = order;
  period = period;
  events = events_of tx es;
  energy = flows_of_by order tx es;
  imported = placed_by order Import tx es;
  exported = placed_by order Export tx es;
}

-- The index has the live readings of some allowed events.
abbrev pub IsByMoment : ByMoment → Type 0
IsByMoment b = (order : Order) × (limits : Bounds) × (es : List Entry) × AreAllowed order limits es × AreByMoment limits es b

-- The list has the live readings of a transaction in one direction by moment, whichever allowed events the index is of.
abbrev pub AreListedByMoment : ByMoment → List ℕ → Direction → List PlacedReading → Type 0
AreListedByMoment b tx d listed = (order : Order) (limits : Bounds) (es : List Entry) → AreAllowed order limits es → AreByMoment limits es b → listed ≡ placed_by Moment d tx es
