use Rattle.std.specs.Prelude.{ℕ, ℤ, pos, ◌+◌, ◌-◌, ◌*◌, ◌/◌, ◌-ℤ◌, ◌<◌, ◌≤◌, ◌^◌}

-- Energy that a register rose by and fell by, in milliwatt-hours, added up separately.
pub record Energy : Type 0 where
  pub up : ℕ
  pub down : ℕ

-- No energy.
abbrev pub no_energy : Energy
no_energy = record { up = 0; down = 0 }

-- The difference of two levels of one register: a rise counts up and a fall counts down.
abbrev pub difference_of : ℕ → ℕ → Energy
difference_of earlier later = record { up = later - earlier; down = earlier - later }

-- The sum of both, field by field.
abbrev pub plus : Energy → Energy → Energy
plus a b = record { up = a.up + b.up; down = a.down + b.down }

-- The first without the second, field by field.
abbrev pub minus : Energy → Energy → Energy
minus a b = record { up = a.up - b.up; down = a.down - b.down }

-- A part of a whole of it: each field times the part over the whole, rounded down.
abbrev pub share_of : Energy → ℕ → ℕ → Energy
share_of e part whole = record { up = e.up * part / whole; down = e.down * part / whole }

-- Up less down.
abbrev pub net : Energy → ℤ
net a = pos a.up -ℤ pos a.down

-- Both sums fit in 64 bits.
pub record CanPlus (a b : Energy) : Type 0 where
  pub up : a.up + b.up < 2 ^ 64
  pub down : a.down + b.down < 2 ^ 64

-- Neither field falls below zero.
pub record CanMinus (a b : Energy) : Type 0 where
  pub up : b.up ≤ a.up
  pub down : b.down ≤ a.down
