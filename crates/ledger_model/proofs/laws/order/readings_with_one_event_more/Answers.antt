use Rattle.ledger_model.proofs.OrderLemmas.{numbered_readings, less_numbered, own_numbered, others_stay, transaction_moves, station_moves, few_come_and_go, runs_by_sequence}
use Rattle.ledger_model.proofs.laws.order.readings_with_one_event_more.Goals as goal

pub returns : goal.returns
returns c = record {
  readings = numbered_readings;
  moved = λ order d es more e one. record {
    without = less_numbered d es more e one order;
    own = own_numbered d es more e one order;
    transaction = transaction_moves d es more e one order;
    station = station_moves d es more e one order;
    few = few_come_and_go d es more e one order;
  };
  others = others_stay;
  one_run = runs_by_sequence;
}
