use Rattle.script_replay.proofs.ScriptRuns.{order_changes_no_board}
use Rattle.script_replay.proofs.laws.orders.Goals as goal

pub returns : goal.returns
returns c = order_changes_no_board
