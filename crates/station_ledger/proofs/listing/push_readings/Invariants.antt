use Rattle.std.proofs.Common.{◌≡◌, ◌≤◌, ◌-◌, ◌++◌, length}
use Rattle.station_ledger.{specs.Listing.placed_from, specs.Quarters.readings_at}
use Rattle.station_ledger.proofs.listing.push_readings.Given as goal

-- the readings that are left come behind those that are listed, with the next places
abbrev pub invariant-loop-reading : goal.invariant-loop-reading
invariant-loop-reading l =
    (l.listed.items ++ placed_from l.key.seq (length l.listed.items - length l.fn.listed.items) l.left ≡ l.fn.listed.items ++ placed_from l.key.seq 0 (readings_at l.fn.direction l.chains l.key))
    × (length l.fn.listed.items ≤ length l.listed.items)
