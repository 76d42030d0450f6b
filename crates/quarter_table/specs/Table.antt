-- A table as its callers see it.
use Rattle.std.specs.Prelude.{ℕ, List}
use Rattle.quarter_table.specs.declared.row.QuarterRow.{QuarterRow}

-- The rows by rising period, and how many there may be.
pub record Table : Type 0 where
  pub rows : List QuarterRow
  pub capacity : ℕ

-- A table of these rows.
abbrev pub table : List QuarterRow → ℕ → Table
table rows capacity = record { rows = rows; capacity = capacity }
