use Rattle.std.proofs.Common.{ap, rules}
use Rattle.kept_desk.proofs.Moves.{receives}
use Rattle.kept_desk.proofs.steps.receive.Goals as goal

pub split_seat-requires : goal.split_seat-requires
split_seat-requires c = (search rules, search rules, receives _ _ (ap (λ m. m.0.is_journal) c.requires.keeps))
