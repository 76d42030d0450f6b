use Rattle.std.{specs.Prelude.{ℕ, List, [], ◌∷◌, ◌++◌, ◌==◌, nat_lt, if◌then◌else◌, map, filter, sum_by, drop}, specs.List.{flat_map, zip}}
use Rattle.energy_flow.specs.Flow.{Energy, difference_of}
use Rattle.ledger_model.{specs.ByDirection.in_each, specs.declared.by_direction.ByDirection.ByDirection, specs.Periods.Periods, specs.declared.reading.Direction.Direction, specs.declared.reading.Direction.TheVariants.{Import, Export}, specs.declared.order.Order.Order, specs.declared.order.Order.TheVariants.Sequence, specs.Event.{MeterReading, toward}, specs.InTime.in_order, specs.Parts.{Change, Part, energy_of_parts, parts_by}, specs.Settling.settled_at, specs.Content.{Entry, live, live_of, transactions_of}}

-- The readings of a transaction in one direction, by sequence: its live events in the order of
-- their numbers, and within an event its readings of that direction as sent.
abbrev pub readings_of : Direction → List ℕ → List Entry → List MeterReading
readings_of d tx es = flat_map (λ e. toward d e.1.event.readings) (live_of tx es)

-- The readings of a transaction in one direction, in a site's order.
abbrev pub readings_by : Order → Direction → List ℕ → List Entry → List MeterReading
readings_by order d tx es = in_order order (λ r. r.moment) (readings_of d tx es)

-- A reading, and the one that follows it.
abbrev pub Pair : Type 0
Pair = MeterReading × MeterReading

-- Each reading of a list with the one that follows it.
abbrev pub followed : List MeterReading → List Pair
followed rs = zip rs (drop 1 rs)

-- The difference of a pair.
abbrev pub difference : Pair → Energy
difference p = difference_of p.0.mwh p.1.mwh

-- The energy of pairs: the sum of their rises, and the sum of their falls.
abbrev pub energy_over : List Pair → Energy
energy_over ps = record { up = sum_by (λ p. (difference p).up) ps; down = sum_by (λ p. (difference p).down) ps }

-- The pairs of a transaction in one direction, with its readings in the given order.
abbrev pub pairs_by : Order → Direction → List ℕ → List Entry → List Pair
pairs_by order d tx es = followed (readings_by order d tx es)

-- The pairs of a transaction in one direction, by sequence.
abbrev pub pairs_of : Direction → List ℕ → List Entry → List Pair
pairs_of d tx es = pairs_by Sequence d tx es

-- The pairs of a station in one direction: those of each of its transactions, with the readings of each in the
-- given order.
abbrev pub all_pairs_by : Order → Direction → List Entry → List Pair
all_pairs_by order d es = flat_map (λ tx. pairs_by order d tx es) (transactions_of (live es))

-- The pairs of a station in one direction, by sequence.
abbrev pub pairs : Direction → List Entry → List Pair
pairs d es = all_pairs_by Sequence d es

-- The energy of a transaction in one direction, with its readings in the given order.
abbrev pub energy_of_by : Order → Direction → List ℕ → List Entry → Energy
energy_of_by order d tx es = energy_over (pairs_by order d tx es)

-- The energy of a transaction in one direction, by sequence.
abbrev pub energy_of : Direction → List ℕ → List Entry → Energy
energy_of d tx es = energy_of_by Sequence d tx es

-- The energy of a station in one direction, over all its transactions, with the readings of each in the
-- given order.
abbrev pub energy_by : Order → Direction → List Entry → Energy
energy_by order d es = energy_over (all_pairs_by order d es)

-- The energy of a station in one direction, by sequence.
abbrev pub energy : Direction → List Entry → Energy
energy d es = energy_by Sequence d es

-- The period in which the whole of a pair counts, by the settlement periods of a site: the one that their rule gives
-- for the later reading.
abbrev pub quarter_of : Periods → Pair → ℕ
quarter_of period p = settled_at period p.1.moment

-- What the readings of a pair show.
abbrev pub change_of : Pair → Change
change_of p = record { since = p.0.moment; until = p.1.moment; earlier = p.0.mwh; later = p.1.mwh }

-- The parts of a pair's difference, by the settlement periods of a site.
abbrev pub parts_of : Periods → Pair → List Part
parts_of period p = parts_by period.rule period.length (change_of p)

-- The parts of the differences of pairs.
abbrev pub parts_over : Periods → List Pair → List Part
parts_over period ps = flat_map (parts_of period) ps

-- The energy of a period over pairs: that of their parts which belong to it.
abbrev pub energy_within : Periods → ℕ → List Pair → Energy
energy_within period quarter ps = energy_of_parts (filter (λ t. t.0 == quarter) (parts_over period ps))

-- The energy of a period of a station in one direction, with the readings of each transaction in the
-- given order.
abbrev pub energy_in_by : Order → Direction → Periods → ℕ → List Entry → Energy
energy_in_by order d period quarter es = energy_within period quarter (all_pairs_by order d es)

-- The energy of a period of a station in one direction, by sequence.
abbrev pub energy_in : Direction → Periods → ℕ → List Entry → Energy
energy_in d period quarter es = energy_in_by Sequence d period quarter es

-- The energies of a transaction, with its readings in the given order.
abbrev pub flows_of_by : Order → List ℕ → List Entry → ByDirection Energy
flows_of_by order tx es = in_each (λ d. energy_of_by order d tx es)

-- The energies of a period of a station, with readings in the given order.
abbrev pub flows_in_by : Order → Periods → ℕ → List Entry → ByDirection Energy
flows_in_by order period quarter es = in_each (λ d. energy_in_by order d period quarter es)

-- A number put into a rising list, if it is not in it already.
abbrev pub put_in : ℕ → List ℕ → List ℕ
put_in n [] = n ∷ []
put_in n (m ∷ ms) = if n == m then m ∷ ms else (if nat_lt n m then n ∷ m ∷ ms else m ∷ put_in n ms)

-- The numbers of a list, rising, each once.
abbrev pub rising : List ℕ → List ℕ
rising [] = []
rising (n ∷ ns) = put_in n (rising ns)

-- The parts of a station's differences of both directions, with its readings in the given order.
abbrev pub parts_of_both : Order → Periods → List Entry → List Part
parts_of_both order period es = parts_over period (all_pairs_by order Import es) ++ parts_over period (all_pairs_by order Export es)

-- The periods that a station shows, with its readings in the given order: each that has a part of a difference in
-- either direction, even one of no energy.
abbrev pub quarters_by : Order → Periods → List Entry → List ℕ
quarters_by order period es = rising (map (λ t. t.0) (parts_of_both order period es))
