-- How many looks at levels a board takes.
use Rattle.std.specs.Prelude.{ℕ, ◌+◌, List, length}
use Rattle.ledger_model.{specs.Content.Entry, specs.Energy.all_pairs_by, specs.declared.order.Order.Order, specs.declared.reading.Direction.TheVariants.{Import, Export}, specs.declared.settle.Settle.Settle, specs.declared.settle.Settle.TheVariants.{Later, Closing, Even}}

-- The most looks that the board of a station takes: one for each pair of its readings if its site settles evenly, else
-- none.
abbrev pub most_looks : Settle → Order → List Entry → ℕ
most_looks Later order es = 0
most_looks Closing order es = 0
most_looks Even order es = length (all_pairs_by order Import es) + length (all_pairs_by order Export es)

-- The most that any board takes of a station that may store so many readings: one for each if its site settles evenly,
-- else none.
abbrev pub looks_within : Settle → ℕ → ℕ
looks_within Later readings = 0
looks_within Closing readings = 0
looks_within Even readings = readings
