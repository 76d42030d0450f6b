-- The rows of pairs, each pair given by its settlement period and its difference.
use Rattle.station_ledger.{specs.declared.pairs.Way.Way, specs.declared.pairs.Way.TheVariants.{Coming, Going}}
use Rattle.std.specs.Prelude.{◌≡◌, ℕ, ◌+◌, ◌*◌, ◌≤◌, false, List, ◌++◌, Some, length}
use Rattle.std.specs.FinMap as finite
use Rattle.event_chain.{specs.Chains.Chained, specs.Room.readings_under}
use Rattle.energy_flow.specs.Flow.{Energy}
use Rattle.ledger_model.{specs.Periods.Periods, specs.ByDirection.in_direction, specs.declared.by_direction.ByDirection.ByDirection, specs.declared.reading.Direction.Direction, specs.declared.reading.Direction.TheVariants.{Import, Export}, specs.Board.Flowed, specs.Energy.{Pair, energy_over}, specs.Event.{EventContent, MeterReading}, specs.Key.KeyName, specs.Ranges.{greatest_reading, most_readings}}
use Rattle.quarter_table.{specs.declared.row.QuarterRow.QuarterRow, specs.Table.Table, specs.Pairs.{rows_of, rows_with, rows_without, flows_of, total}}

-- A difference of two readings: neither its rise nor its fall is more than a reading can show.
pub record IsDifference (flow : Energy) : Type 0 where
  pub up : flow.up ≤ greatest_reading
  pub down : flow.down ≤ greatest_reading

-- Pairs of one direction, by their settlement periods of so many seconds and their differences.
abbrev pub quartered : Periods → Direction → List Pair → List Flowed
quartered period d ps = flows_of period d ps

-- The pairs of both directions by their periods.
abbrev pub both_quartered : Periods → (Direction → List Pair) → List Flowed
both_quartered period ps = quartered period Import (ps Import) ++ quartered period Export (ps Export)

-- How many pairs both directions have.
abbrev pub both_length : (Direction → List Pair) → ℕ
both_length ps = length (ps Import) + length (ps Export)

-- A table of these pairs, with room for so many more; the sums of all stay far below 2^64 in each direction.
pub record AreRows (pairs : List Flowed) (more : ℕ) (t : Table) : Type 0 where
  pub rows : t.rows ≡ rows_of pairs
  pub room : length pairs + more ≤ t.capacity
  pub up : (d : Direction) → (in_direction d (total pairs)).up + greatest_reading * more ≤ greatest_reading * (2 * most_readings)
  pub down : (d : Direction) → (in_direction d (total pairs)).down + greatest_reading * more ≤ greatest_reading * (2 * most_readings)
  pub few : t.capacity ≤ most_readings

-- A table of pairs with room for so many more.
abbrev pub HasRoom : ℕ → Table → Type 0
HasRoom more t = (pairs : List Flowed) × AreRows pairs more t

-- A table of pairs, these of one direction among them.
abbrev pub HoldsPairs : Periods → Direction → List Pair → Table → Type 0
HoldsPairs period d ps t = (others : List Flowed) × (t.rows ≡ rows_of (quartered period d ps ++ others))

-- A table of pairs, these of both directions among them.
abbrev pub HoldsBoth : Periods → (Direction → List Pair) → Table → Type 0
HoldsBoth period ps t = (others : List Flowed) × (t.rows ≡ rows_of (both_quartered period ps ++ others))

-- The sum of pairs: no more than so many differences can have.
pub record IsSumOf (ps : List Pair) (e : Energy) : Type 0 where
  pub is : e ≡ energy_over ps
  pub up : e.up ≤ greatest_reading * length ps
  pub down : e.down ≤ greatest_reading * length ps

-- The count of work grew by at most so much.
pub record IsWork (most old new : ℕ) : Type 0 where
  pub bound : new ≤ old + most
  pub grows : old ≤ new

-- Rows that pairs come to, or go from.
abbrev pub rows_moved : Way → List Flowed → List QuarterRow → List QuarterRow
rows_moved Coming pairs rows = rows_with pairs rows
rows_moved Going pairs rows = rows_without pairs rows

-- A table that pairs came to or went from, with as much room.
pub record IsTableMoved (way : Way) (pairs : List Flowed) (old new : Table) : Type 0 where
  pub rows : new.rows ≡ rows_moved way pairs old.rows
  pub capacity : new.capacity ≡ old.capacity

-- Pairs of one direction may come to a table that has room for them, and go from one that has them.
abbrev pub MayMove : Way → Periods → Direction → List Pair → Table → Type 0
MayMove Coming period d ps t = HasRoom (length ps) t
MayMove Going period d ps t = HoldsPairs period d ps t

-- They came or went, with their work and their sum.
pub record DidMove (way : Way) (period : Periods) (d : Direction) (ps : List Pair) (old new : Table) (before after : ℕ) (flow : Energy) : Type 0 where
  pub sum : IsSumOf ps flow
  pub quarters : IsTableMoved way (quartered period d ps) old new
  pub work : IsWork (length ps) before after

-- Pairs of both directions may come or go.
abbrev pub MayMoveBoth : Way → Periods → (Direction → List Pair) → Table → Type 0
MayMoveBoth Coming period ps t = HasRoom (both_length ps) t
MayMoveBoth Going period ps t = HoldsBoth period ps t

-- They came or went.
pub record DidMoveBoth (way : Way) (period : Periods) (ps : Direction → List Pair) (old new : Table) (before after : ℕ) (flows : ByDirection Energy) : Type 0 where
  pub sums : (d : Direction) → IsSumOf (ps d) (in_direction d flows)
  pub quarters : IsTableMoved way (both_quartered period ps) old new
  pub work : IsWork (both_length ps) before after

-- The readings of a direction of the event of a key.
abbrev pub readings_at : Direction → Chained → KeyName → List MeterReading
readings_at d chains key = readings_under d (finite.get chains.events key)

-- The chains have this event, live, under a key.
abbrev pub HasEvent : KeyName → EventContent → Chained → Type 0
HasEvent key event chains = finite.get chains.events key ≡ Some (record { event = event; voided = false })
