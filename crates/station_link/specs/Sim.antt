-- Simulated stations.
use Rattle.std.specs.Prelude.{ℕ, ◌≤◌}

-- A simulated station: its number, and how many events it sends.
pub record Simulated : Type 0 where
  pub number : ℕ
  pub events : ℕ

-- The numbers of a simulated station are from 1 to 64, and its transaction has 2 to 64 events (this product's profile).
pub record IsSimulated (number events : ℕ) : Type 0 where
  pub first : 1 ≤ number
  pub last : number ≤ 64
  pub least : 2 ≤ events
  pub most : events ≤ 64
