use Rattle.ledger_model.{proofs.EnergyLemmas.{quarters_shown, quarters_rise, evses_shown, evses_rise}, proofs.TransactionLemmas.{transactions-any, transactions_rise}, specs.Content.live}
use Rattle.ledger_model.proofs.laws.board.shown_once_and_rising.Goals as goal

pub returns : goal.returns
returns c = record {
  quarters = quarters_shown;
  quarters_rise = quarters_rise;
  evses = evses_shown;
  evses_rise = evses_rise;
  transactions = λ tx es. transactions-any tx (live es);
  transactions_rise = transactions_rise;
}
