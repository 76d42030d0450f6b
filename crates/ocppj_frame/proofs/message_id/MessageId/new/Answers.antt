use Rattle.std.proofs.Common.{arith, rules}
use Rattle.ocppj_frame.proofs.Escapes.{length-le-chars}
use Rattle.ocppj_frame.proofs.message_id.MessageId.new.Goals as goal

pub push_str-requires : goal.push_str-requires
push_str-requires c = let short = length-le-chars c.args.text.now c.utf8.text in search (rules, arith, short, c.requires)
