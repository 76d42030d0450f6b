use Rattle.ledger_model.{proofs.KeysByNumber.{own_before_key, own_behind_key}, proofs.OneMoreByCommand.{delivered_more, restored_more, voided_less, erased_same}}
use Rattle.ledger_model.proofs.laws.deltas.one_event_more_or_less.Goals as goal

pub returns : goal.returns
returns c = record {
  delivered = delivered_more;
  restored = λ es key s holds voided. restored_more es key s holds.rising holds.stored voided;
  voided = λ es key s holds live. voided_less es key s holds.rising holds.stored live;
  erased = λ es key s holds voided. erased_same es key s holds.rising holds.stored voided;
  in_front = own_before_key;
  behind = own_behind_key;
}
