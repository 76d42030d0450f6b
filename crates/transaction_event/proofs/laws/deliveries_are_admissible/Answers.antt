use Rattle.transaction_event.proofs.AdmissibleRequests.{each_delivery_is_admissible}
use Rattle.transaction_event.proofs.laws.deliveries_are_admissible.Goals as goal

pub returns : goal.returns
returns c = each_delivery_is_admissible
