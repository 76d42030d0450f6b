-- What a map of transactions keeps.
use Rattle.std.specs.Prelude.{ℕ, ◌^◌, ◌<◌, ◌≤◌, List, length}
use Rattle.transaction_map.specs.Map.{AreRising}

-- The rows are by rising id, at most `capacity`; there is room for as many, and the capacity fits
-- in 32 bits.
pub record IsMap {X : Type 0} (rows : List (List ℕ × X)) (capacity room : ℕ) : Type 0 where
  pub rising : AreRising rows
  pub within : length rows ≤ capacity
  pub reserved : capacity ≤ room
  pub fits : capacity < 2 ^ 32
