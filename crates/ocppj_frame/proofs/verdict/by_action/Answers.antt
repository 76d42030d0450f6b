use Rattle.std.proofs.Common.{rules}
use Rattle.marked_json.specs.Reading.{node}
use Rattle.ocppj_frame.proofs.verdict.by_action.Goals as goal

pub returns : goal.returns
returns c = (node c.args.payload, search rules)
