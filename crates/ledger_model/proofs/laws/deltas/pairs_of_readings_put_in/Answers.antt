use Rattle.ledger_model.{specs.Deltas.{first_reading, last_reading}, proofs.Splices.{followed_cut, followed_sums, few_across, few_between}}
use Rattle.ledger_model.proofs.laws.deltas.pairs_of_readings_put_in.Goals as goal

pub returns : goal.returns
returns c front mid back = record {
  pairs = followed_cut front mid back;
  sums = λ f. followed_sums f front mid back;
  one_goes = few_across (last_reading front) (first_reading back);
  few_come = few_between (last_reading front) mid (first_reading back);
}
