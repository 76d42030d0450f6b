use Rattle.std.proofs.Common.{ap, rules}
use Rattle.kept_desk.proofs.Moves.{leaves}
use Rattle.kept_desk.proofs.steps.leave.Goals as goal

pub split_seat-requires : goal.split_seat-requires
split_seat-requires c = (search rules, search rules, leaves _ _ (ap (λ m. m.0.is_share) c.requires.holds))
