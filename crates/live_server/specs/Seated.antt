-- Which worker serves which connection, and which connection is asked to end.
use Rattle.std.{specs.Prelude.{◌≡◌, ◌≢◌, ℕ, ◌<◌, ◌≤◌, Bool, true, false, cond, leb, List, length, Option, None, Some, eqb, slice_get, slice_set, is_none}, specs.List.filter}
use Rattle.live_server.specs.declared.seats.ServedConnection.{ServedConnection}

-- Whether both are the same station, or both none.
abbrev pub is_same : Option ℕ → Option ℕ → Bool
is_same None None = true
is_same None (Some _) = false
is_same (Some _) None = false
is_same (Some a) (Some b) = eqb a b

-- Whether a worker serves a session of this station, or a handshake if there is none.
abbrev pub is_at : Option ℕ → Option ServedConnection → Bool
is_at station None = false
is_at station (Some one) = is_same one.station station

-- How many sessions of a station there are, or handshakes.
abbrev pub count_at : Option ℕ → List (Option ServedConnection) → ℕ
count_at station rows = length (filter (is_at station) rows)

-- How many workers serve nobody.
abbrev pub free : List (Option ServedConnection) → ℕ
free rows = length (filter is_none rows)

-- The worker's session is the oldest of this station among the first so many workers, or its handshake.
pub record IsOldest (count : ℕ) (station : Option ℕ) (rows : List (Option ServedConnection)) (worker : ℕ) : Type 0 where
  pub one : ServedConnection
  pub there : slice_get rows worker ≡ Some (Some one)
  pub its : one.station ≡ station
  pub oldest : (k : ℕ) (other : ServedConnection) → k < count → slice_get rows k ≡ Some (Some other) → other.station ≡ station → one.number ≤ other.number

-- This is the worker of the oldest session of a station among the first so many workers, or of the oldest handshake, if
-- there is one.
abbrev pub IsOldestOf : ℕ → Option ℕ → List (Option ServedConnection) → Option ℕ → Type 0
IsOldestOf count station rows None = (k : ℕ) (one : ServedConnection) → k < count → slice_get rows k ≡ Some (Some one) → one.station ≢ station
IsOldestOf count station rows (Some worker) = IsOldest count station rows worker

-- The oldest is asked to end, and no longer counts; if there is none, nothing changes.
abbrev pub IsTold : Option ℕ → List (Option ServedConnection) → Option ℕ → List (Option ServedConnection) → Type 0
IsTold station before None now = IsOldestOf (length before) station before None × (now ≡ before)
IsTold station before (Some worker) now = IsOldestOf (length before) station before (Some worker) × (now ≡ slice_set before worker None)

-- A worker serves from now on a session of this station, or a handshake, of this number.
abbrev pub serving : ℕ → Option ℕ → ℕ → List (Option ServedConnection) → List (Option ServedConnection)
serving worker station number rows = slice_set rows worker (Some (record { station = station; number = number }))

-- A worker's handshake begins. Before, if fewer than 16 workers serve nobody, the oldest handshake is asked to end.
pub record HasGreeted (worker number : ℕ) (before : List (Option ServedConnection)) (told : Option ℕ) (now : List (Option ServedConnection)) : Type 0 where
  pub left : List (Option ServedConnection)
  pub few : free before < 16 → IsTold None before told left
  pub many : 16 ≤ free before → (told ≡ None) × (left ≡ before)
  pub serves : now ≡ serving worker None number left

-- A worker's session of a station begins: if the station then has more than two, the oldest is asked
-- to end.
pub record HasBegun (worker station number : ℕ) (before : List (Option ServedConnection)) (told : Option ℕ) (now : List (Option ServedConnection)) : Type 0 where
  pub few : count_at (Some station) (serving worker (Some station) number before) ≤ 2 → (told ≡ None) × (now ≡ serving worker (Some station) number before)
  pub many : 2 < count_at (Some station) (serving worker (Some station) number before) → IsTold (Some station) (serving worker (Some station) number before) told now

-- The first of two workers, unless it serves nobody or its connection's number is greater than this one, the
-- second worker's.
abbrev pub older_by : Option (Option ServedConnection) → ℕ → ℕ → ℕ → Option ℕ
older_by None first second number = Some second
older_by (Some None) first second number = Some second
older_by (Some (Some one)) first second number = Some (cond (leb one.number number) first second)
