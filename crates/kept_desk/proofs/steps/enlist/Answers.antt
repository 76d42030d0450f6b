use Rattle.std.proofs.Common.{◌≤◌, ap, sym, subst, rules}
use Rattle.kept_desk.proofs.Moves.{enlists}
use Rattle.kept_desk.proofs.steps.enlist.Goals as goal

pub split_seat-requires : goal.split_seat-requires
split_seat-requires g c = (
  search rules,
  search rules,
  enlists _ c.args.seat.now.me.0 g.K.TheStation.station (ap (λ m. m.0.is_journal) c.requires.keeps)
      (subst (λ k. c.args.seat.now.me.0.made ≤ k) (sym c.requires.station) c.requires.fresh),
)
