use Rattle.std.proofs.Common.{None, option_map, refl, ap, ◌∙◌}
use Rattle.event_chain.{specs.Placed.place_in, proofs.MarkedIndexes.{first_read, rises_read}}
use Rattle.event_chain.proofs.place_index.PlaceIndex.first_from.Goals as goal

pub returns-clause-first : goal.returns-clause-first
returns-clause-first c =
    c.slot_under.ensures ∙ ap (option_map place_in) c.find-found.ensures
    ∙ first_read c.self.inside.index {o = None} {x = c.args.self.now.stored} refl (λ i. (c.self.view_is i).stored) c.self.invariant.rising c.args.key

pub returns-clause-rising : goal.returns-clause-rising
returns-clause-rising c = rises_read c.self.inside.index {o = None} {x = c.args.self.now.stored} refl (λ i. (c.self.view_is i).stored) c.self.invariant.rising
