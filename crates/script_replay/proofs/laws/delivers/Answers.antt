use Rattle.script_replay.proofs.Delivers.{deliver_is_msg, delivers_make_the_same_state}
use Rattle.script_replay.proofs.laws.delivers.Goals as goal

pub returns-clause-line : goal.returns-clause-line
returns-clause-line c = deliver_is_msg

pub returns-clause-script : goal.returns-clause-script
returns-clause-script c = delivers_make_the_same_state
