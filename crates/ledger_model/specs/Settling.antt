-- In which settlement period a difference counts.
use Rattle.std.specs.Prelude.{ℕ, ◌-◌, max}
use Rattle.ledger_model.{specs.Periods.Periods, specs.declared.settle.Settle.Settle, specs.declared.settle.Settle.TheVariants.{Later, Closing, Even}, specs.Moment.first_moment, specs.Quarter.{default_period, quarter_at}}

-- The settlement period of so many seconds that a moment closes: that of the nanosecond before it. The
-- first moment closes none; it gets the period that begins there.
abbrev pub closed_at : ℕ → ℕ → ℕ
closed_at period nanos = quarter_at period (max (nanos - 1) first_moment)

-- The settlement period of so many seconds in which a difference counts by this rule, if its later
-- reading was taken at this moment. What counts by Even are the shares of a difference.
abbrev pub settled_by : Settle → ℕ → ℕ → ℕ
settled_by Later period nanos = quarter_at period nanos
settled_by Closing period nanos = closed_at period nanos
settled_by Even period nanos = closed_at period nanos

-- The settlement period of a site in which a difference counts, if its later reading was taken at this
-- moment.
abbrev pub settled_at : Periods → ℕ → ℕ
settled_at period nanos = settled_by period.rule period.length nanos

-- The settlement periods of a site that declares none.
abbrev pub default_periods : Periods
default_periods = record { length = default_period; rule = Later }
