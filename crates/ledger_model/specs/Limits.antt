use Rattle.std.specs.Prelude.{ℕ, ◌≤◌}
use Rattle.ledger_model.specs.Ranges.{most_transactions, most_events, most_readings, most_changes}

-- What one station may keep: transactions, events and readings that are stored, and changes accepted in all.
pub record Bounds : Type 0 where
  pub transactions : ℕ
  pub events : ℕ
  pub readings : ℕ
  pub changes : ℕ

-- Each limit is in its range.
pub record AreBounds (transactions events readings changes : ℕ) : Type 0 where
  pub some_transactions : 1 ≤ transactions
  pub most_transactions : transactions ≤ most_transactions
  pub some_events : 1 ≤ events
  pub most_events : events ≤ most_events
  pub some_readings : 1 ≤ readings
  pub most_readings : readings ≤ most_readings
  pub some_changes : 1 ≤ changes
  pub most_changes : changes ≤ most_changes

-- The limits of a station that declares none.
abbrev pub default_limits : Bounds
default_limits = record { transactions = 1_024; events = 16_384; readings = 16_384; changes = most_changes }
