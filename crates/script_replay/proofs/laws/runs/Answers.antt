use Rattle.script_replay.proofs.ScriptRuns.{worlds_are_runs}
use Rattle.script_replay.proofs.laws.runs.Goals as goal

pub returns : goal.returns
returns c = worlds_are_runs
