use Rattle.std.specs.Prelude.{length}
use Rattle.ledger_model.{specs.Content.{Content, entries, transactions_of}, specs.Step.readings_stored}
use Rattle.station_ledger.specs.declared.used.UsedLimits.{UsedLimits}

-- How much of each limit a content uses.
abbrev pub used_limits : Content → UsedLimits
used_limits c = record { transactions = length (transactions_of (entries c)); events = length (entries c); readings = readings_stored (entries c); changes = c.changes }
