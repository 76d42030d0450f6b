use Rattle.transaction_laws.{proofs.AloneEvents.{entries_alone, none_alone}, proofs.StepLemmas.{enough_itself, no_more_room, other_step, own_step, refused_step}}
use Rattle.transaction_laws.proofs.steps.steps_of_a_transaction.Goals as goal

pub returns : goal.returns
returns c = record {
  own = λ limits lone d tx n command enough less. own_step limits lone enough d tx n less command;
  others = other_step;
  refused = refused_step;
  empty = none_alone;
  same = enough_itself;
  room = no_more_room;
  entries = λ d tx n. entries_alone tx d.events;
}
