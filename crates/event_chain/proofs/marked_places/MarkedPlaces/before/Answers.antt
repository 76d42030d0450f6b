use Rattle.std.proofs.Common.{option_map, ap, ◌∙◌}
use Rattle.event_chain.{specs.Placed.place_in, proofs.MarkedIndexes.{last_read, rises_read}}
use Rattle.event_chain.proofs.marked_places.MarkedPlaces.before.Goals as goal

pub returns-in-Some-clause-last : goal.returns-in-Some-clause-last
returns-in-Some-clause-last c =
    c.slot_under.ensures ∙ ap (option_map place_in) c.before_marked.ensures
    ∙ last_read c.self.inside.index.now c.in-Some.is c.self.view_is c.self.invariant c.args.key

pub returns-in-None-clause-last : goal.returns-in-None-clause-last
returns-in-None-clause-last c =
    c.slot_under-in-None.ensures ∙ ap (option_map place_in) c.before-in-None.ensures
    ∙ last_read c.self.inside.index.now c.in-None.is c.self.view_is c.self.invariant c.args.key

pub returns-in-Some-clause-rising : goal.returns-in-Some-clause-rising
returns-in-Some-clause-rising c = rises_read c.self.inside.index.now c.in-Some.is c.self.view_is c.self.invariant

pub returns-in-None-clause-rising : goal.returns-in-None-clause-rising
returns-in-None-clause-rising c = rises_read c.self.inside.index.now c.in-None.is c.self.view_is c.self.invariant
