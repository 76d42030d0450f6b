use Rattle.std.proofs.Common.{arith, rules}
use Rattle.ocppj_frame.proofs.Escapes.{length-le-chars}
use Rattle.transaction_event.proofs.message.kept_id.Goals as goal

pub push_str-requires : goal.push_str-requires
push_str-requires c = let short = length-le-chars c.id.result.now c.id.utf8 in search (rules, arith, short, c.id.ensures.short)
