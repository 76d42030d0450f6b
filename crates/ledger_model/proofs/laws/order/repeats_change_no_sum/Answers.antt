use Rattle.ledger_model.proofs.RepeatLemmas.{transaction_stays, evse_energy_stays, quarter_stays, station_stays}
use Rattle.ledger_model.proofs.laws.order.repeats_change_no_sum.Goals as goal

pub returns : goal.returns
returns c d es more key r one repeat = record {
  transaction = transaction_stays es more key r one repeat d;
  evse = evse_energy_stays es more key r one repeat d;
  quarter = quarter_stays es more key r one repeat d;
  station = station_stays es more key r one repeat d;
}
