use Rattle.std.proofs.Common.{Err}
use Rattle.station_link.proofs.Attended.{comes_behind, flushes, waits_more, waits_then}
use Rattle.station_link.proofs.session.await_message.Goals as goal

pub returns-then-is_err-clause-waits : goal.returns-then-is_err-clause-waits
returns-then-is_err-clause-waits g c = waits_then g.S.Read.remaining g.S.Write.contents _ _ _ c.loop.invariant (flushes g.S.Read.remaining g.S.Write.contents _ _ c.flush.ensures.sent)

pub returns-in-Ok-clause-comes : goal.returns-in-Ok-clause-comes
returns-in-Ok-clause-comes g c = comes_behind g.S.Read.remaining g.S.Write.contents _ _ _ _ _ c.loop.invariant c.flush.ensures.sent c.in-Ok.ensures

pub returns-then-not-is_patient-clause-waits : goal.returns-then-not-is_patient-clause-waits
returns-then-not-is_patient-clause-waits g c = waits_more g.S.Read.remaining g.S.Write.contents _ _ _ _ (Err c.in-Err.error) c.loop.invariant c.flush.ensures.sent tt c.in-Err.ensures

pub loop-preserved : goal.loop-preserved
loop-preserved g c = waits_more g.S.Read.remaining g.S.Write.contents _ _ _ _ (Err c.in-Err.error) c.loop.invariant c.flush.ensures.sent tt c.in-Err.ensures
