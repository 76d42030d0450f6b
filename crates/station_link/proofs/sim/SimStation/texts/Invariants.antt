use Rattle.std.proofs.Common.{◌≡◌, length}
use Rattle.station_link.proofs.sim.SimStation.texts.Given as goal

abbrev pub invariant-loop-back : goal.invariant-loop-back
invariant-loop-back l = length l.texts.items ≡ l.back
