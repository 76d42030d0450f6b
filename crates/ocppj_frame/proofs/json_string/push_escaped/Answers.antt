use Rattle.std.proofs.Common.{arith, lit<}
use Rattle.ocppj_frame.proofs.Escapes.{length-encode-le}
use Rattle.ocppj_frame.proofs.json_string.push_escaped.Goals as goal

pub push-requires-in_default : goal.push-requires-in_default
push-requires-in_default c = (lit< tt, omega (arith, length-encode-le c.args.character))
