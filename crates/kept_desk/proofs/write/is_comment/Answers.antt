use Rattle.std.proofs.Common.{length, refl, arith}
use Rattle.kept_desk.proofs.Notes.{comment_of}
use Rattle.kept_desk.proofs.write.is_comment.Goals as goal

pub returns : goal.returns
returns c = λ yes. comment_of c.args.bytes.now (length c.args.bytes.now) refl (omega arith) (omega arith) (omega arith) (omega arith) (c.has_no_feed.ensures.0 yes)
