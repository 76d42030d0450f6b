use Rattle.ledger_model.proofs.OneMore.{live_with, live_without, live_else, pairs_with, pairs_without, pairs_less_kept, pairs_more_kept, less_kept as taken_and_left, more_kept as brought_and_left, few_moved as few_come_and_go}
use Rattle.ledger_model.proofs.laws.deltas.pairs_with_one_event_more.Goals as goal

pub returns : goal.returns
returns c = record {
  moved = λ d es more front e back one. record {
    own_without = pairs_without d es more front e back one;
    own_with = pairs_with d es more front e back one;
    station_without = λ f. pairs_less_kept d f es more front e back one;
    station_with = λ f. pairs_more_kept d f es more front e back one;
    less_kept = λ f. taken_and_left d f es more front e back one;
    more_kept = λ f. brought_and_left d f es more front e back one;
  };
  events_without = live_without;
  events_with = live_with;
  other_events = live_else;
  few_moved = λ d e front back. few_come_and_go d front e back;
}
