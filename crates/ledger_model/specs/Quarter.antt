use Rattle.std.specs.Prelude.{◌≡◌, ℕ, ◌*◌, ◌/◌, ◌≤◌, ◌⊎◌}
use Rattle.ledger_model.specs.Moment.{IsMoment}

-- The length of a settlement period in seconds is one that markets settle by: 5, 15, 30 or 60
-- minutes.
abbrev pub IsPeriod : ℕ → Type 0
IsPeriod seconds = (seconds ≡ 300) ⊎ (seconds ≡ 900) ⊎ (seconds ≡ 1_800) ⊎ (seconds ≡ 3_600)

-- The length of period of a site that declares none, in seconds.
abbrev pub default_period : ℕ
default_period = 900

-- The period of the first moment, by the longest length.
abbrev pub first_quarter : ℕ
first_quarter = 262_968

-- The period of the last moment, by the shortest length.
abbrev pub last_quarter : ℕ
last_quarter = 13_674_815

-- The number is that of a period which moments fall into, by some length.
abbrev pub IsQuarter : ℕ → Type 0
IsQuarter number = (first_quarter ≤ number) × (number ≤ last_quarter)

-- The period of this number and length begins at a moment.
abbrev pub IsQuarterOf : ℕ → ℕ → Type 0
IsQuarterOf period number = IsMoment (number * period * 1_000_000_000)

-- The number, counted from 1970, of the settlement period of so many seconds that a moment falls
-- into.
abbrev pub quarter_at : ℕ → ℕ → ℕ
quarter_at period nanos = nanos / 1_000_000_000 / period
