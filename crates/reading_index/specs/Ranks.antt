-- The order of readings in an index: by owner, then by moment, then by the sequence number of their
-- event, then by their place in it.
use Rattle.std.specs.Prelude.{ℕ, ◌+◌, ◌*◌, ◌/◌, ◌%◌, ◌^◌}
use Rattle.ledger_model.{specs.declared.reading.Direction.Direction, specs.declared.reading.Direction.TheVariants.{Import, Export}}

-- The readings of a transaction and a direction have one owner: the transaction's slot and the direction.
abbrev pub owner : ℕ → Direction → ℕ
owner slot Import = slot * 2
owner slot Export = slot * 2 + 1

-- The rank of a reading.
abbrev pub rank : ℕ → ℕ → ℕ → ℕ → ℕ
rank owner moment number place = ((owner * 2 ^ 62 + moment) * 2 ^ 31 + number) * 2 ^ 10 + place

-- The owner of a rank.
abbrev pub owner_of : ℕ → ℕ
owner_of r = r / 2 ^ 10 / 2 ^ 31 / 2 ^ 62

-- The sequence number of a rank's event.
abbrev pub number_of : ℕ → ℕ
number_of r = r / 2 ^ 10 % 2 ^ 31

-- The place of a rank's reading in its event.
abbrev pub place_of : ℕ → ℕ
place_of r = r % 2 ^ 10
