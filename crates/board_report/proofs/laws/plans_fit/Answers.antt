use Rattle.board_report.proofs.PlanLemmas.{plans_fit}
use Rattle.board_report.proofs.laws.plans_fit.Goals as goal

pub returns : goal.returns
returns c = plans_fit
