use Rattle.live_server.proofs.Told.{both_told}
use Rattle.live_server.proofs.acceptor.Acceptors.tell.Goals as goal

pub returns-in-Some : goal.returns-in-Some
returns-in-Some g c = both_told c.tell_port-in-Some.result _ _ _ c.in_ok-tell_port.ensures c.tell_port-in-Some.ensures
