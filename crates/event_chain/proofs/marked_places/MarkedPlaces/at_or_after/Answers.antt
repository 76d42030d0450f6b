use Rattle.std.proofs.Common.{option_map, ap, ◌∙◌}
use Rattle.event_chain.{specs.Placed.place_in, proofs.MarkedIndexes.{first_read, rises_read}}
use Rattle.event_chain.proofs.marked_places.MarkedPlaces.at_or_after.Goals as goal

pub returns-in-Some-clause-first : goal.returns-in-Some-clause-first
returns-in-Some-clause-first c =
    c.slot_under.ensures ∙ ap (option_map place_in) c.at_or_after_marked.ensures
    ∙ first_read c.self.inside.index.now c.in-Some.is c.self.view_is c.self.invariant c.args.key

pub returns-in-None-clause-first : goal.returns-in-None-clause-first
returns-in-None-clause-first c =
    c.slot_under-in-None.ensures ∙ ap (option_map place_in) c.at_or_after.ensures
    ∙ first_read c.self.inside.index.now c.in-None.is c.self.view_is c.self.invariant c.args.key

pub returns-in-Some-clause-rising : goal.returns-in-Some-clause-rising
returns-in-Some-clause-rising c = rises_read c.self.inside.index.now c.in-Some.is c.self.view_is c.self.invariant

pub returns-in-None-clause-rising : goal.returns-in-None-clause-rising
returns-in-None-clause-rising c = rises_read c.self.inside.index.now c.in-None.is c.self.view_is c.self.invariant
