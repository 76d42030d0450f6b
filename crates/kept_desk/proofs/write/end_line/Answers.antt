use Rattle.std.proofs.Common.{[], ◌∷◌}
use Rattle.kept_desk.proofs.Written.{unflushed}
use Rattle.kept_desk.proofs.write.end_line.Goals as goal

pub returns-in-Err-clause-written : goal.returns-in-Err-clause-written
returns-in-Err-clause-written g c = unflushed (10 ∷ []) _ _ _ c.in_ok-write_bytes.ensures c.in-Err.ensures.bytes
