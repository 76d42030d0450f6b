use Rattle.std.proofs.Common.{refl}
use Rattle.ledger_model.proofs.laws.order.order_examples.Goals as goal

pub returns : goal.returns
returns c = record { read_again_at_end = refl; read_again = refl; end_voided = refl; ties = refl; ties_by_sequence = refl }
