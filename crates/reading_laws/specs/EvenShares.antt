-- A difference that a site settles by `even`, in the subject's own words.
use Rattle.std.specs.Prelude.{◌≡◌, ◌↔◌, ℕ, ◌+◌, ◌-◌, ◌*◌, ◌/◌, ◌<◌, ◌≤◌, nat_lt, List, filter, map}
use Rattle.energy_flow.specs.Flow.{share_of}
use Rattle.ledger_model.{specs.BoardLaws.{AreRising, IsIn}, specs.Energy.{Pair, difference}, specs.Parts.{Part, energy_of_parts}, specs.Periods.Periods, specs.declared.settle.Settle.TheVariants.Even}

-- The settlement periods of a site that settles by `even`.
abbrev pub evenly : ℕ → Periods
evenly length = record { length = length; rule = Even }

-- The later reading is after the earlier one, by at most a day.
pub record IsWithinDay (p : Pair) : Type 0 where
  pub later : p.0.moment < p.1.moment
  pub day : p.1.moment - p.0.moment ≤ 86_400_000_000_000

-- The whole seconds of a moment.
abbrev pub second_of : ℕ → ℕ
second_of nanos = nanos / 1_000_000_000

-- The parts in periods that begin before the period of this number.
abbrev pub begun_before : ℕ → List Part → List Part
begun_before k parts = filter (λ t. nat_lt t.0 k) parts

-- The boundary between two periods, in seconds: here the one of this number begins.
abbrev pub boundary : ℕ → ℕ → ℕ
boundary length k = k * length

-- A boundary lies between the seconds of two readings, or at one of them.
pub record IsBetween (length k : ℕ) (p : Pair) : Type 0 where
  pub after : second_of p.0.moment ≤ boundary length k
  pub before : boundary length k ≤ second_of p.1.moment
  pub apart : second_of p.0.moment < second_of p.1.moment

-- The period of this number begins before the later reading, and ends after the earlier one.
pub record Overlaps (length k : ℕ) (p : Pair) : Type 0 where
  pub begins : boundary length k * 1_000_000_000 < p.1.moment
  pub ends : p.0.moment < boundary length (k + 1) * 1_000_000_000

-- These parts are even shares of a pair's difference. At each boundary between the readings, the parts that begin before
-- it add up to the share of the time that has passed: of the rise and of the fall, in whole seconds and rounded down.
-- There is one part for each period that the time between the readings overlaps, in their order.
pub record AreEvenShares (length : ℕ) (p : Pair) (parts : List Part) : Type 0 where
  pub add_up : (k : ℕ) → IsBetween length k p
      → energy_of_parts (begun_before k parts) ≡ share_of (difference p) (boundary length k - second_of p.0.moment) (second_of p.1.moment - second_of p.0.moment)
  pub periods : (k : ℕ) → IsIn k (map (λ t. t.0) parts) ↔ Overlaps length k p
  pub once : AreRising (map (λ t. t.0) parts)
