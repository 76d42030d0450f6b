use Rattle.script_replay.proofs.Delivers.{asks_is_the_meaning}
use Rattle.script_replay.proofs.laws.asks.Goals as goal

pub returns : goal.returns
returns c = asks_is_the_meaning
