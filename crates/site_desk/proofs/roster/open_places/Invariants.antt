use Rattle.std.proofs.Common.{take}
use Rattle.site_desk.specs.Roster.{AreNewPlaces}
use Rattle.site_desk.proofs.roster.open_places.Given as goal

-- the places of the stations so far
abbrev pub invariant-loop-k : goal.invariant-loop-k
invariant-loop-k l = AreNewPlaces l.sites (take l.k l.stations) l.places.items
