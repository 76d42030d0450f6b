-- Rows with the shares of differences.
use Rattle.std.specs.Prelude.{ℕ, List}
use Rattle.ledger_model.{specs.Periods.Periods, specs.declared.reading.Direction.Direction, specs.declared.settle.Settle.TheVariants.Even, specs.Energy.{Pair, parts_over}}
use Rattle.quarter_table.{specs.declared.row.QuarterRow.QuarterRow, specs.Pairs.{parts_toward, rows_with}}

-- Settlement periods of so many seconds, among which differences are shared.
abbrev pub evenly : ℕ → Periods
evenly length = record { length = length; rule = Even }

-- Rows with the shares of pairs of one direction added, in periods of so many seconds.
abbrev pub with_shares : ℕ → Direction → List Pair → List QuarterRow → List QuarterRow
with_shares length d ps rows = rows_with (parts_toward d (parts_over (evenly length) ps)) rows
