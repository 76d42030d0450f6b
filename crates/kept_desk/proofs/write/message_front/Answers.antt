use Rattle.std.proofs.Common.{arith, rules}
use Rattle.kept_desk.proofs.Written.{short_name}
use Rattle.kept_desk.proofs.write.message_front.Goals as goal

pub push_str-requires-2 : goal.push_str-requires-2
push_str-requires-2 c = let short = short_name c.text.result.now c.text.ensures.named in search (rules, arith, short)

pub push_str-requires-3 : goal.push_str-requires-3
push_str-requires-3 c = let short = short_name c.text.result.now c.text.ensures.named in search (rules, arith, short)
