use Rattle.ledger_model.{proofs.OneMore.evse_counts, proofs.OneMoreFigures.{events_more, transactions_more, complete_more, missing_more, voided_delivered, voided_restored, voided_voided, voided_erased}}
use Rattle.ledger_model.proofs.laws.deltas.figures_with_one_event_more.Goals as goal

pub returns : goal.returns
returns c = record {
  counts = λ es more front e back one. record {
    events = events_more es more front e back one;
    transactions = transactions_more es more front e back one;
    complete = complete_more es more front e back one;
    missing = missing_more es more front e back one;
    at_evse = λ evse. evse_counts evse es more front e back one;
  };
  voided_by_delivery = voided_delivered;
  voided_by_restoration = λ es key s holds voided. voided_restored es key s holds.rising holds.stored voided;
  voided_by_void = λ es key s holds voided. voided_voided es key s holds.rising holds.stored voided;
  voided_by_erasure = λ es key s holds voided. voided_erased es key s holds.rising holds.stored voided;
}
