use Rattle.ledger_model.proofs.OneMoreFigures.{energies_move}
use Rattle.ledger_model.proofs.laws.deltas.energies_with_one_event_more.Goals as goal

pub returns : goal.returns
returns c = energies_move
