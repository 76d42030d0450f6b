use Rattle.std.proofs.Common.{[], ◌∷◌}
use Rattle.kept_desk.proofs.Written.{ended, cut_short}
use Rattle.kept_desk.proofs.write.write_ended.Goals as goal

pub returns-in_err-write_bytes-clause-written : goal.returns-in_err-write_bytes-clause-written
returns-in_err-write_bytes-clause-written g c = cut_short c.args.bytes.now (10 ∷ []) _ _ c.from_residual.result c.from_residual.ensures.0 c.in_err-write_bytes.ensures

pub returns-clause-written : goal.returns-clause-written
returns-clause-written g c = ended c.args.bytes.now (10 ∷ []) _ _ _ c.end_line.result c.in_ok-write_bytes.ensures c.end_line.ensures.written
