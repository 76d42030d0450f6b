use Rattle.std.proofs.Common.{ap, rules}
use Rattle.kept_desk.proofs.Moves.{compares}
use Rattle.kept_desk.proofs.steps.compare.Goals as goal

pub load-requires : goal.load-requires
load-requires c = (search rules, search rules, compares _ _ _ (ap (λ m. m.0.is_journal) c.requires.joined) (ap (λ m. m.0.is_share) c.requires.joined))
