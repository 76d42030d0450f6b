use Rattle.std.proofs.Common.{ap, rules}
use Rattle.kept_desk.proofs.Moves.{parts_with_receipt}
use Rattle.kept_desk.proofs.steps.part.Goals as goal

pub split_seat-spent-requires : goal.split_seat-spent-requires
split_seat-spent-requires c = (search rules, search rules, parts_with_receipt _ _ (ap (λ m. m.0.is_journal) c.requires.reads))
