use Rattle.std.proofs.Common.{◌≡◌, length}
use Rattle.station_link.proofs.sim.ask_all.Given as goal

abbrev pub invariant-loop-text : goal.invariant-loop-text
invariant-loop-text g l = length l.replies.items ≡ l.text-index
