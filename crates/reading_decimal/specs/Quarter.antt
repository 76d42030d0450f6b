-- Where a settlement period begins.
use Rattle.std.specs.Prelude.{◌≡◌, ℕ, ◌*◌, ◌≤◌}
use Rattle.ledger_model.{specs.Moment.IsMoment, specs.Quarter.quarter_at}

-- the first nanosecond, counted from 1970, of the period of this number and of so many seconds
abbrev pub quarter_start : ℕ → ℕ → ℕ
quarter_start period number = number * period * 1_000_000_000

-- `start` is a moment, and the first of all nanoseconds that fall into the period of this number
pub record IsStart (period number start : ℕ) : Type 0 where
  pub is_moment : IsMoment start
  pub within : quarter_at period start ≡ number
  pub first : (nanos : ℕ) → quarter_at period nanos ≡ number → start ≤ nanos
