-- An index as its callers see it.
use Rattle.std.specs.Prelude.{ℕ, List}
use Rattle.key_index.specs.Entries.{Entry}

-- The entries by rising rank, and how many there may be.
pub record Index (V : Type 0) : Type 0 where
  pub entries : List (Entry V)
  pub capacity : ℕ

-- An index of these entries.
abbrev pub index : {V : Type 0} → List (Entry V) → ℕ → Index V
index entries capacity = record { entries = entries; capacity = capacity }
