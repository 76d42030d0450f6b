use Rattle.script_replay.proofs.ReachedStations.{stations_are_reached}
use Rattle.script_replay.proofs.laws.stations.Goals as goal

pub returns : goal.returns
returns c = stations_are_reached
