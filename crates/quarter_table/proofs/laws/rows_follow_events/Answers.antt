use Rattle.quarter_table.proofs.Several.{made_with, made_without, rows_event_more, rows_event_less}
use Rattle.quarter_table.proofs.laws.rows_follow_events.Goals as goal

pub returns : goal.returns
returns c = record {
  several_added = made_with;
  several_removed = made_without;
  events = λ period es more front e back one. record {
    one_more = rows_event_more period es more front e back one;
    one_less = rows_event_less period es more front e back one;
  };
}
