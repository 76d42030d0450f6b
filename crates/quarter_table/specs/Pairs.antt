-- The rows that pairs make.
use Rattle.std.specs.Prelude.{◌≡◌, ◌<◌, ℕ, ◌==◌, List, [], ◌∷◌, ◌++◌, map, filter, length, sum_by}
use Rattle.energy_flow.specs.Flow.{Energy}
use Rattle.ledger_model.{specs.ByDirection.{in_direction, in_each, flows_toward, CanMinusFlows}, specs.declared.by_direction.ByDirection.ByDirection, specs.Periods.Periods, specs.declared.order.Order.Order, specs.declared.order.Order.TheVariants.Sequence, specs.declared.reading.Direction.Direction, specs.declared.reading.Direction.TheVariants.{Import, Export}, specs.Board.Flowed, specs.Content.Entry, specs.Deltas.{came_by, gone_by}, specs.Energy.{Pair, all_pairs_by, difference, parts_over, quarter_of, rising}, specs.Parts.Part}
use Rattle.quarter_table.{specs.declared.row.QuarterRow.QuarterRow, specs.Rows.{row_at, set_row, with_pair, without_pair}}

-- Differences added up, field by field, in each direction.
abbrev pub total : List Flowed → ByDirection Energy
total flows = in_each (λ d. record { up = sum_by (λ (f : Flowed). (in_direction d f.1).up) flows; down = sum_by (λ (f : Flowed). (in_direction d f.1).down) flows })

-- The row of a period: how many of the pairs belong to it, and their sums.
abbrev pub row_of : ℕ → List Flowed → QuarterRow
row_of quarter flows =
    let own = filter (λ f. f.0 == quarter) flows in
    record { quarter = quarter; pairs = length own; energy = total own }

-- The rows of pairs: one for each period that has a pair, in rising order. A pair is given by its period and its
-- difference.
abbrev pub rows_of : List Flowed → List QuarterRow
rows_of flows = map (λ quarter. row_of quarter flows) (rising (map (λ f. f.0) flows))

-- Pairs of readings of one direction, each given by its period and its difference.
abbrev pub flows_of : Periods → Direction → List Pair → List Flowed
flows_of period d pairs = map (λ p. (quarter_of period p, flows_toward d (difference p))) pairs

-- The pairs of a station in both directions, with the readings of each transaction in the given
-- order.
abbrev pub station_flows_by : Order → Periods → List Entry → List Flowed
station_flows_by order period es = flows_of period Import (all_pairs_by order Import es) ++ flows_of period Export (all_pairs_by order Export es)

-- The pairs of a station in both directions, by sequence.
abbrev pub station_flows : Periods → List Entry → List Flowed
station_flows period es = station_flows_by Sequence period es

-- Parts of differences of one direction, each given by its period and its energy.
abbrev pub parts_toward : Direction → List Part → List Flowed
parts_toward d parts = map (λ t. (t.0, flows_toward d t.1)) parts

-- The parts of a station's differences in both directions, with the readings of each transaction in the given order.
abbrev pub board_flows_by : Order → Periods → List Entry → List Flowed
board_flows_by order period es = parts_toward Import (parts_over period (all_pairs_by order Import es)) ++ parts_toward Export (parts_over period (all_pairs_by order Export es))

-- The pairs that go with one more live event.
abbrev pub gone_flows : Periods → List Entry → Entry → List Entry → List Flowed
gone_flows period front e back = flows_of period Import (gone_by Import front e back) ++ flows_of period Export (gone_by Export front e back)

-- The pairs that come with it.
abbrev pub came_flows : Periods → List Entry → Entry → List Entry → List Flowed
came_flows period front e back = flows_of period Import (came_by Import front e back) ++ flows_of period Export (came_by Export front e back)

-- What a board shows of a row.
abbrev pub line_of : QuarterRow → Flowed
line_of row = (row.quarter, row.energy)

-- Rows after a pair was added.
abbrev pub rows_plus : Flowed → List QuarterRow → List QuarterRow
rows_plus f rows = set_row (with_pair f.1 (row_at f.0 rows)) rows

-- Rows after a pair was taken out.
abbrev pub rows_minus : Flowed → List QuarterRow → List QuarterRow
rows_minus f rows = set_row (without_pair f.1 (row_at f.0 rows)) rows

-- Rows after these pairs were added, one after the other.
abbrev pub rows_with : List Flowed → List QuarterRow → List QuarterRow
rows_with [] rows = rows
rows_with (f ∷ fs) rows = rows_with fs (rows_plus f rows)

-- Rows after these pairs were taken out, one after the other.
abbrev pub rows_without : List Flowed → List QuarterRow → List QuarterRow
rows_without [] rows = rows
rows_without (f ∷ fs) rows = rows_without fs (rows_minus f rows)

-- A row has a pair of this difference: it counts the pair, its sums include the difference in each direction, and are
-- just that difference if it counts no other pair.
pub record HasPair (flows : ByDirection Energy) (row : QuarterRow) : Type 0 where
  pub there : 0 < row.pairs
  pub within : CanMinusFlows row.energy flows
  pub last : row.pairs ≡ 1 → row.energy ≡ flows

-- With one more live event, the new rows are the old ones with the pairs that go taken out and
-- those that come added; with one less, the other way round.
pub record RowsFollow (period : Periods) (es more front : List Entry) (e : Entry) (back : List Entry) : Type 0 where
  pub one_more : rows_with (came_flows period front e back) (rows_without (gone_flows period front e back) (rows_of (station_flows period es)))
      ≡ rows_of (station_flows period more)
  pub one_less : rows_with (gone_flows period front e back) (rows_without (came_flows period front e back) (rows_of (station_flows period more)))
      ≡ rows_of (station_flows period es)
