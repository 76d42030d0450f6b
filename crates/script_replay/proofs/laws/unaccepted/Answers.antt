use Rattle.script_replay.proofs.ScriptRuns.{unaccepted_changes_nothing}
use Rattle.script_replay.proofs.laws.unaccepted.Goals as goal

pub returns : goal.returns
returns c = unaccepted_changes_nothing
