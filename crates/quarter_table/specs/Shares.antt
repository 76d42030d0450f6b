-- The shares of a difference, as energy.
use Rattle.std.specs.Prelude.{ℕ, ◌-◌}
use Rattle.energy_flow.specs.Flow.{Energy}
use Rattle.ledger_model.specs.Parts.{Change, share}

-- How much of a difference has come by a second.
abbrev pub come_by : Change → ℕ → Energy
come_by c second = record { up = share c (c.later - c.earlier) second; down = share c (c.earlier - c.later) second }
