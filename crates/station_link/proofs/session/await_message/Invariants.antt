use Rattle.station_link.specs.Exchange.{Waits}
use Rattle.station_link.proofs.session.await_message.Given as goal

-- it only waited so far
abbrev pub invariant-loop : goal.invariant-loop
invariant-loop g l = Waits g.S.Read.remaining g.S.Write.contents l.fn.socket l.socket
