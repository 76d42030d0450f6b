use Rattle.std.proofs.Common.{refl}
use Rattle.event_chain.proofs.Named.{left_out}
use Rattle.event_chain.proofs.look_ups.leave.Goals as goal

pub returns-then-not-has_place-clause-left : goal.returns-then-not-has_place-clause-left
returns-then-not-has_place-clause-left c =
    left_out c.args.table.now.rows c.remove.new.self.rows c.args.places.now.stored.entries c.args.tx.now c.args.row
    c.remove.ensures.rows c.requires (c.if-not-has_place.ensures.bare refl)
