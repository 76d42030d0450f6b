use Rattle.ledger_model.proofs.CompleteLemmas.{complete-conditions}
use Rattle.ledger_model.proofs.laws.board.complete_is_four_conditions.Goals as goal

pub returns : goal.returns
returns c = complete-conditions
