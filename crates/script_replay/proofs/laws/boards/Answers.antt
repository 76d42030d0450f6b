use Rattle.script_replay.proofs.ReachedStations.{boards_are_from_scratch}
use Rattle.script_replay.proofs.laws.boards.Goals as goal

pub returns : goal.returns
returns c = boards_are_from_scratch
