use Rattle.ledger_model.{specs.ReadingOrder.taken_when, proofs.InTimeLemmas.{in_time-rises, in_time-stable, in_time-only, in_time-sum, in_time-same, in_time-passed}}
use Rattle.ledger_model.proofs.laws.order.readings_by_moment.Goals as goal

pub returns : goal.returns
returns c = record {
  rises = in_time-rises taken_when;
  stable = in_time-stable taken_when;
  only = in_time-only taken_when;
  all = in_time-sum taken_when;
  same = in_time-same taken_when;
  passed = in_time-passed taken_when;
}
