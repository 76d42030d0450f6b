use Rattle.event_laws.proofs.EventRequests.{payloads}
use Rattle.event_laws.proofs.laws.event_payloads.Goals as goal

pub returns : goal.returns
returns c = payloads
