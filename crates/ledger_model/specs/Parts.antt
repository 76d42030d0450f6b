-- The parts of a difference: what of it belongs to each settlement period.
use Rattle.std.specs.Prelude.{ℕ, zero, suc, Bool, ◌+◌, ◌*◌, ◌-◌, ◌/◌, ◌&&◌, nat_lt, nat_le, List, [], ◌∷◌, sum_by, if◌then◌else◌}
use Rattle.energy_flow.specs.Flow.{Energy, difference_of}
use Rattle.ledger_model.{specs.Quarter.quarter_at, specs.Settling.settled_by, specs.declared.settle.Settle.Settle, specs.declared.settle.Settle.TheVariants.{Later, Closing, Even}}

-- A settlement period, and what of a difference belongs to it.
abbrev pub Part : Type 0
Part = ℕ × Energy

-- What a register showed twice: the earlier and the later moment, in nanoseconds since 1970, and the earlier and the
-- later level, in milliwatt-hours.
pub record Change : Type 0 where
  pub since : ℕ
  pub until : ℕ
  pub earlier : ℕ
  pub later : ℕ

-- A day, in nanoseconds: a difference over more time is not shared.
abbrev pub longest_share : ℕ
longest_share = 86_400_000_000_000

-- Whether a difference is shared by time: its moments rise, by at most a day.
abbrev pub is_shared : Change → Bool
is_shared c = nat_lt c.since c.until && nat_le (c.until - c.since) longest_share

-- How much of a number has come by a second, if it comes evenly from the whole second of the earlier moment to that of
-- the later one: rounded down.
abbrev pub share : Change → ℕ → ℕ → ℕ
share c number second = number * (second - c.since / 1_000_000_000) / (c.until / 1_000_000_000 - c.since / 1_000_000_000)

-- What a register shows at a second if it rises or falls evenly.
abbrev pub level_at : Change → ℕ → ℕ
level_at c second = (c.earlier + share c (c.later - c.earlier) second) - share c (c.earlier - c.later) second

-- The shares of a difference from a period and a level on: that period's, up to the level at its end, and those of so
-- many periods behind it; the last one's goes up to the later level.
abbrev pub shares_from : ℕ → Change → ℕ → ℕ → ℕ → List Part
shares_from length c quarter level zero = (quarter, difference_of level c.later) ∷ []
shares_from length c quarter level (suc more) =
    (quarter, difference_of level (level_at c ((quarter + 1) * length))) ∷ shares_from length c (quarter + 1) (level_at c ((quarter + 1) * length)) more

-- The shares of a difference in periods of a length: from the period of the earlier moment to the one that the later
-- moment closes.
abbrev pub shares : ℕ → Change → List Part
shares length c = shares_from length c (quarter_at length c.since) c.earlier (quarter_at length (c.until - 1) - quarter_at length c.since)

-- The whole of a difference, in the period that a rule gives for the later moment.
abbrev pub whole : Settle → ℕ → Change → List Part
whole rule length c = (settled_by rule length c.until, difference_of c.earlier c.later) ∷ []

-- The parts of a difference by a rule.
abbrev pub parts_by : Settle → ℕ → Change → List Part
parts_by Later length c = whole Later length c
parts_by Closing length c = whole Closing length c
parts_by Even length c = if is_shared c then shares length c else whole Even length c

-- The energy of parts: the sum of their rises, and the sum of their falls.
abbrev pub energy_of_parts : List Part → Energy
energy_of_parts ts = record { up = sum_by (λ t. t.1.up) ts; down = sum_by (λ t. t.1.down) ts }
