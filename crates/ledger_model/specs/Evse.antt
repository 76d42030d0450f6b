use Rattle.std.{specs.Prelude.{ℕ, List, [], ◌∷◌, ◌==◌, filter, map}, specs.List.{flat_map, filter_map}}
use Rattle.energy_flow.specs.Flow.{Energy}
use Rattle.ledger_model.{specs.Content.{Entry, live, live_of, transactions_of}, specs.declared.reading.Direction.Direction, specs.declared.order.Order.Order, specs.ByDirection.in_each, specs.declared.by_direction.ByDirection.ByDirection, specs.Energy.{pairs_by, energy_over, rising}}

-- The first of a list, or 0 if it is empty.
abbrev pub first_or_zero : List ℕ → ℕ
first_or_zero [] = 0
first_or_zero (n ∷ ns) = n

-- The EVSE of a transaction: of its live events that name one, the one of lowest number names it; 0 if
-- none does.
abbrev pub evse_of : List ℕ → List Entry → ℕ
evse_of tx es = first_or_zero (filter_map (λ e. e.1.event.evse) (live_of tx es))

-- The transactions of an EVSE.
abbrev pub transactions_at : ℕ → List Entry → List (List ℕ)
transactions_at evse es = filter (λ tx. evse_of tx es == evse) (transactions_of (live es))

-- The energy of an EVSE in one direction: that of its transactions, with the readings of each in the
-- given order.
abbrev pub energy_at_by : Order → Direction → ℕ → List Entry → Energy
energy_at_by order d evse es = energy_over (flat_map (λ tx. pairs_by order d tx es) (transactions_at evse es))

-- The energies of an EVSE, with readings in the given order.
abbrev pub flows_at_by : Order → ℕ → List Entry → ByDirection Energy
flows_at_by order evse es = in_each (λ d. energy_at_by order d evse es)

-- The EVSEs that a station shows: each that has a transaction with a live event.
abbrev pub evses : List Entry → List ℕ
evses es = rising (map (λ tx. evse_of tx es) (transactions_of (live es)))
