use Rattle.std.proofs.Common.{ap, rules}
use Rattle.kept_desk.proofs.Moves.{takes_in}
use Rattle.kept_desk.proofs.steps.absorb.Goals as goal

pub join_seat-requires : goal.join_seat-requires
join_seat-requires c = (search rules, search rules, search rules, search rules, takes_in _ _ _ _ (ap (λ m. m.0.is_journal) c.requires.keeps) (ap (λ m. m.0.is_share) c.requires.holds))
