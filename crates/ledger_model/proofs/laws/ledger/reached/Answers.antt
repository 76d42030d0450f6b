use Rattle.ledger_model.{proofs.Bounds.AreKept-reached, proofs.FigureBounds.figures_within}
use Rattle.ledger_model.proofs.laws.ledger.reached.Goals as goal

pub returns-clause-events : goal.returns-clause-events
returns-clause-events c limits n d reached = (AreKept-reached limits n d reached).events

pub returns-clause-readings : goal.returns-clause-readings
returns-clause-readings c limits n d reached = (AreKept-reached limits n d reached).readings

pub returns-clause-transactions : goal.returns-clause-transactions
returns-clause-transactions c limits n d reached = (AreKept-reached limits n d reached).transactions

pub returns-clause-figures : goal.returns-clause-figures
returns-clause-figures c = figures_within
