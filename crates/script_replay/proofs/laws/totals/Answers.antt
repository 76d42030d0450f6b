use Rattle.script_replay.proofs.ReachedStations.{totals_are_from_scratch}
use Rattle.script_replay.proofs.laws.totals.Goals as goal

pub returns : goal.returns
returns c = totals_are_from_scratch
