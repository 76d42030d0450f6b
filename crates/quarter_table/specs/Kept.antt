-- What a table keeps, and the places of its rows.
use Rattle.std.{specs.Prelude.{◌≡◌, ℕ, suc, ◌<◌, ◌≤◌, List, length, take, drop, Some, slice_get}, specs.Vec.vec_capacity, specs.declared.vec.Vec.Vec}
use Rattle.quarter_table.{specs.declared.row.QuarterRow.QuarterRow, specs.Rows.{no_row, row_at, earlier, later, AreInOrder, HavePairs}}

-- Rows in order, each with a pair, at most as many as the capacity, which is reserved.
pub record IsKept {Z : Type 0} (rows : Vec QuarterRow Z) (capacity : ℕ) : Type 0 where
  pub in_order : AreInOrder rows.items
  pub pairs : HavePairs rows.items
  pub few : length rows.items ≤ capacity
  pub room : capacity ≤ vec_capacity rows

-- The row of the period is at the place.
pub record StandsAt (quarter : ℕ) (rows : List QuarterRow) (at : ℕ) : Type 0 where
  pub row : slice_get rows at ≡ Some (row_at quarter rows)
  pub quarter_is : (row_at quarter rows).quarter ≡ quarter
  pub within : at < length rows
  pub front : take at rows ≡ earlier quarter rows
  pub back : drop (suc at) rows ≡ later quarter rows

-- The table has no row of the period; one belongs at the place.
pub record BelongsAt (quarter : ℕ) (rows : List QuarterRow) (at : ℕ) : Type 0 where
  pub absent : row_at quarter rows ≡ no_row quarter
  pub within : at ≤ length rows
  pub front : take at rows ≡ earlier quarter rows
  pub back : drop at rows ≡ later quarter rows
