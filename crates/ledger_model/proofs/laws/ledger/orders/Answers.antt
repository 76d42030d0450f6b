use Rattle.ledger_model.proofs.Deliveries.{each_order_delivers}
use Rattle.ledger_model.proofs.laws.ledger.orders.Goals as goal

pub returns : goal.returns
returns c = each_order_delivers
