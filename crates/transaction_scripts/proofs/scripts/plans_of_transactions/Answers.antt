use Rattle.transaction_scripts.{proofs.AnyPlans.{any_plan, begins_alone}, proofs.SiteTexts.has_alone}
use Rattle.transaction_scripts.proofs.scripts.plans_of_transactions.Goals as goal

pub returns : goal.returns
returns c = record {
  begins = begins_alone;
  texts = λ name tx n s lone lines none h. (any_plan name tx n s lone lines none h).0;
  left = λ name tx n s lone lines none h. (any_plan name tx n s lone lines none h).1;
  script = has_alone;
}
