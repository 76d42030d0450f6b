use Rattle.std.proofs.Common.{ap}
use Rattle.ledger_model.specs.Figures.{figures_from}
use Rattle.ledger_model.proofs.figures.Figures.zero.Goals as goal

pub returns : goal.returns
returns c = ap figures_from c.from_array.ensures
