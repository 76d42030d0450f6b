-- A table of transactions as its callers see it.
use Rattle.std.{specs.Prelude.{◌≡◌, ℕ, ◌<◌, ◌≤◌, List, Option, Some, not}, specs.List.filter, specs.Ordering.eq_by_cmp, specs.FinMap.{find, put}}
use Rattle.transaction_map.{specs.Map.Mapped, specs.Places.IsAt}
use Rattle.event_chain.specs.declared.row.TableRow.{TableRow}
-- The order of transaction ids by their bytes, and rows by rising id.
pub use Rattle.transaction_map.specs.Map.{id_cmp, AreRising}

-- A transaction's id, and what the table keeps of it.
abbrev pub TxRow : Type 0
TxRow = List ℕ × TableRow

-- The transactions by rising id, and how many there may be.
abbrev pub Table : Type 0
Table = Mapped TableRow

-- What the table keeps of a transaction.
abbrev pub row_of : List ℕ → List TxRow → Option TableRow
row_of tx rows = find id_cmp tx rows

-- The row of a transaction is at this place.
abbrev pub IsRowAt : List ℕ → List TxRow → ℕ → Type 0
IsRowAt tx rows i = IsAt tx rows i

-- The rows, with this row for a transaction.
abbrev pub with_row : List ℕ → TableRow → List TxRow → List TxRow
with_row tx row rows = put id_cmp tx row rows

-- The rows without the row of a transaction.
abbrev pub without_row : List ℕ → List TxRow → List TxRow
without_row tx rows = filter (λ r. not (eq_by_cmp id_cmp tx r.0)) rows

-- No transaction has this slot.
abbrev pub IsFresh : ℕ → List TxRow → Type 0
IsFresh slot rows = (tx : List ℕ) (row : TableRow) → row_of tx rows ≡ Some row → row.slot ≡ slot → ⊥

-- No two transactions have the same slot.
abbrev pub AreApart : List TxRow → Type 0
AreApart rows = (tx other : List ℕ) (a b : TableRow) → row_of tx rows ≡ Some a → row_of other rows ≡ Some b → a.slot ≡ b.slot → tx ≡ other

-- Each slot is below the number.
abbrev pub AreBelow : ℕ → List TxRow → Type 0
AreBelow n rows = (tx : List ℕ) (row : TableRow) → row_of tx rows ≡ Some row → row.slot < n

-- The transactions rise. Each has a slot of its own, below the table's capacity, which fits in 32 bits.
pub record AreSlotted (t : Table) : Type 0 where
  pub rising : AreRising t.rows
  pub apart : AreApart t.rows
  pub below : AreBelow t.capacity t.rows
  pub few : t.capacity ≤ 4_294_967_295
