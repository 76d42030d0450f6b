use Rattle.std.proofs.Common.{◌≡◌, ◌≤◌, length, take}
use Rattle.site_desk.specs.Parts.{limits_at}
use Rattle.site_desk.proofs.parts.limits_of.Given as goal

-- the limits of the site's stations so far
abbrev pub invariant-loop-station : goal.invariant-loop-station
invariant-loop-station l = record { limits : l.limits.items ≡ limits_at (take l.station-index l.stations) l.site; few : length l.limits.items ≤ l.station-index }
