use Rattle.ledger_model.proofs.FigureLemmas.{figures-AreSums, site-AreSums}
use Rattle.ledger_model.proofs.laws.board.site_figures_are_sums.Goals as goal

pub returns : goal.returns
returns c = record { sums = figures-AreSums; site = site-AreSums }
