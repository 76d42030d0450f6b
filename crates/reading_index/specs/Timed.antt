-- Readings by their ranks.
use Rattle.std.{specs.Prelude.{ℕ, Bool, ◌==◌, not, nat_lt, List, Option, None, Some, filter, map, if◌then◌else◌}, specs.List.list_any}
use Rattle.key_index.specs.Entries.{Entry}
pub use Rattle.key_index.specs.Entries.{first_of, last_of, AreAbove, AreBelow, AreRising}
use Rattle.key_index.specs.Index as keyed
use Rattle.ledger_model.specs.Event.{MeterReading}
use Rattle.reading_index.{specs.Ranks.{number_of, owner_of, place_of}, specs.declared.placed.PlacedReading.PlacedReading}

-- A reading with its rank.
abbrev pub Timed : Type 0
Timed = ℕ × MeterReading

-- The readings by rising rank, and how many there may be.
pub record TimedReadings : Type 0 where
  pub entries : List Timed
  pub capacity : ℕ

-- The readings of one owner.
abbrev pub owned : ℕ → List Timed → List Timed
owned owner es = filter (λ e. owner_of e.0 == owner) es

-- The readings in front of a rank.
abbrev pub in_front : ℕ → List Timed → List Timed
in_front r es = filter (λ e. nat_lt e.0 r) es

-- The readings without their ranks.
abbrev pub bare : List Timed → List MeterReading
bare es = map (λ e. e.1) es

-- A reading with the number and the place that its rank has.
abbrev pub placed_at : Timed → PlacedReading
placed_at e = record { number = number_of e.0; place = place_of e.0; reading = e.1 }

-- The readings from a rank on.
abbrev pub from_on : ℕ → List Timed → List Timed
from_on r es = filter (λ e. not (nat_lt e.0 r)) es

-- The readings that don't have this rank.
abbrev pub without : ℕ → List Timed → List Timed
without r es = filter (λ e. not (e.0 == r)) es

-- Whether a reading has this rank.
abbrev pub has_rank : ℕ → List Timed → Bool
has_rank r es = list_any (λ e. e.0 == r) es

-- The reading, if this is its owner.
abbrev pub only_owned : ℕ → Option Timed → Option Timed
only_owned owner None = None
only_owned owner (Some e) = if owner_of e.0 == owner then Some e else None

-- The rank and the reading of an entry.
abbrev pub with_rank : Entry MeterReading → Timed
with_rank e = (e.0, e.1.value)

-- The readings of an index of entries.
abbrev pub timed_in : keyed.Index MeterReading → TimedReadings
timed_in i = record { entries = map with_rank i.entries; capacity = i.capacity }
