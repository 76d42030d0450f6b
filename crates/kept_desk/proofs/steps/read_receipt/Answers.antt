use Rattle.std.proofs.Common.{ap, rules}
use Rattle.kept_desk.proofs.Moves.{reads_receipt}
use Rattle.kept_desk.proofs.steps.read_receipt.Goals as goal

pub join_seat-requires : goal.join_seat-requires
join_seat-requires c = (search rules, search rules, search rules, search rules, reads_receipt _ _ _ _ (ap (λ m. m.0.is_journal) c.requires.keeps) (ap (λ m. m.0.is_receipt) c.requires.knows))
