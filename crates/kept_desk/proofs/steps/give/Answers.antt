use Rattle.std.proofs.Common.{ap, rules}
use Rattle.kept_desk.proofs.Moves.{gives}
use Rattle.kept_desk.proofs.steps.give.Goals as goal

pub split_seat-requires : goal.split_seat-requires
split_seat-requires c = (search rules, search rules, gives _ _ (ap (λ m. m.0.is_journal) c.requires.joined) (ap (λ m. m.0.is_share) c.requires.joined))
