use Rattle.std.proofs.Common.{◌≤◌, length, drop}
use Rattle.ledger_model.proofs.Callers.{AreFrom}
use Rattle.station_ledger.proofs.MomentRanks.{at}
use Rattle.station_ledger.proofs.by_moment.place_of.Given as goal

-- those looked at are not in front
abbrev pub invariant-loop-at : goal.invariant-loop-at
invariant-loop-at l = record {
  within : l.at ≤ length l.listed;
  from : AreFrom at l.key (drop l.at l.listed);
}

-- proposed from the loop's first test
abbrev pub decreases-loop-at : goal.decreases-loop-at
decreases-loop-at l = l.at
