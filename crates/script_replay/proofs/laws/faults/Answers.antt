use Rattle.script_replay.proofs.Faults.{faults_change_nothing}
use Rattle.script_replay.proofs.laws.faults.Goals as goal

pub returns : goal.returns
returns c = faults_change_nothing
