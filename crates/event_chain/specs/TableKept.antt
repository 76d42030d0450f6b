-- What a table of transactions keeps.
use Rattle.std.specs.Prelude.{◌≡◌, ℕ, ◌+◌, ◌<◌, ◌≤◌, List, [], ◌∷◌, length}
use Rattle.slot_arena.specs.Free.{IsApart}
use Rattle.event_chain.specs.Table.{TxRow, AreRising, AreApart, AreBelow, IsFresh}

-- Slots to spare: each once, below the number, and no transaction's.
abbrev pub AreSpare : ℕ → List TxRow → List ℕ → Type 0
AreSpare n rows [] = Unit {0}
AreSpare n rows (s ∷ ss) = IsFresh s rows × ((s < n) × (IsApart s ss × AreSpare n rows ss))

-- Rows by rising id, each with a slot of its own, and the spare slots: together the capacity, which fits in 32 bits.
pub record IsTable (rows : List TxRow) (spare : List ℕ) (capacity : ℕ) : Type 0 where
  pub rising : AreRising rows
  pub apart : AreApart rows
  pub below : AreBelow capacity rows
  pub spare_are : AreSpare capacity rows spare
  pub total : length rows + length spare ≡ capacity
  pub few : capacity ≤ 4_294_967_295
