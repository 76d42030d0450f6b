use Rattle.event_laws.proofs.EventRequests.{texts}
use Rattle.event_laws.proofs.laws.event_texts.Goals as goal

pub returns : goal.returns
returns c = texts
