-- Rows of a table, one for each settlement period that has a pair.
use Rattle.std.specs.Prelude.{ℕ, ◌+◌, ◌-◌, ◌<◌, ◌==◌, nat_lt, if◌then◌else◌, List, [], ◌∷◌, ◌++◌, filter}
use Rattle.energy_flow.specs.Flow.{Energy}
use Rattle.ledger_model.{specs.ByDirection.{no_flows, plus_flows, minus_flows}, specs.declared.by_direction.ByDirection.ByDirection}
use Rattle.quarter_table.specs.declared.row.QuarterRow.{QuarterRow}

-- The row of a period that has no pair.
abbrev pub no_row : ℕ → QuarterRow
no_row quarter = record { quarter = quarter; pairs = 0; energy = no_flows }

-- The row of a period.
abbrev pub row_at : ℕ → List QuarterRow → QuarterRow
row_at quarter [] = no_row quarter
row_at quarter (row ∷ rows) = if row.quarter == quarter then row else row_at quarter rows

-- A row with one pair more, of this difference in each direction.
abbrev pub with_pair : ByDirection Energy → QuarterRow → QuarterRow
with_pair flows row = record { quarter = row.quarter; pairs = row.pairs + 1; energy = plus_flows row.energy flows }

-- A row with one pair less, of this difference in each direction.
abbrev pub without_pair : ByDirection Energy → QuarterRow → QuarterRow
without_pair flows row = record { quarter = row.quarter; pairs = row.pairs - 1; energy = minus_flows row.energy flows }

-- The rows of earlier periods.
abbrev pub earlier : ℕ → List QuarterRow → List QuarterRow
earlier quarter rows = filter (λ r. nat_lt r.quarter quarter) rows

-- The rows of later periods.
abbrev pub later : ℕ → List QuarterRow → List QuarterRow
later quarter rows = filter (λ r. nat_lt quarter r.quarter) rows

-- A list of the row, if it has a pair; else none.
abbrev pub if_any : QuarterRow → List QuarterRow
if_any row = if row.pairs == 0 then [] else row ∷ []

-- The rows with the row of one period replaced, or left out if it has no pair.
abbrev pub set_row : QuarterRow → List QuarterRow → List QuarterRow
set_row row rows = earlier row.quarter rows ++ (if_any row ++ later row.quarter rows)

-- Each row is of a later period.
abbrev pub AreAfter : ℕ → List QuarterRow → Type 0
AreAfter quarter [] = Unit {0}
AreAfter quarter (row ∷ rows) = (quarter < row.quarter) × AreAfter quarter rows

-- Each row is of a later period than those before it.
abbrev pub AreInOrder : List QuarterRow → Type 0
AreInOrder [] = Unit {0}
AreInOrder (row ∷ rows) = AreAfter row.quarter rows × AreInOrder rows

-- Each row has a pair.
abbrev pub HavePairs : List QuarterRow → Type 0
HavePairs [] = Unit {0}
HavePairs (row ∷ rows) = (0 < row.pairs) × HavePairs rows
