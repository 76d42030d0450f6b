use Rattle.std.proofs.Common.{option_map, ap, ◌∙◌}
use Rattle.event_chain.{specs.Placed.place_in, proofs.MarkedIndexes.{first_read, last_read, rises_read}}
use Rattle.event_chain.proofs.marked_places.MarkedPlaces.around.Goals as goal

pub returns-in-Some-clause-before : goal.returns-in-Some-clause-before
returns-in-Some-clause-before c =
    c.slot_under-before.ensures ∙ ap (option_map place_in) c.around_marked-found.ensures.before
    ∙ last_read c.self.inside.index.now c.in-Some.is c.self.view_is c.self.invariant c.args.key

pub returns-in-Some-clause-from : goal.returns-in-Some-clause-from
returns-in-Some-clause-from c =
    c.slot_under-from.ensures ∙ ap (option_map place_in) c.around_marked-found.ensures.from
    ∙ first_read c.self.inside.index.now c.in-Some.is c.self.view_is c.self.invariant c.args.key

pub returns-in-None-clause-before : goal.returns-in-None-clause-before
returns-in-None-clause-before c =
    c.slot_under-before-in-None.ensures ∙ ap (option_map place_in) c.before-in-None.ensures
    ∙ last_read c.self.inside.index.now c.in-None.is c.self.view_is c.self.invariant c.args.key

pub returns-in-None-clause-from : goal.returns-in-None-clause-from
returns-in-None-clause-from c =
    c.slot_under-from-in-None.ensures ∙ ap (option_map place_in) c.at_or_after.ensures
    ∙ first_read c.self.inside.index.now c.in-None.is c.self.view_is c.self.invariant c.args.key

pub returns-in-Some-clause-rising : goal.returns-in-Some-clause-rising
returns-in-Some-clause-rising c = rises_read c.self.inside.index.now c.in-Some.is c.self.view_is c.self.invariant

pub returns-in-None-clause-rising : goal.returns-in-None-clause-rising
returns-in-None-clause-rising c = rises_read c.self.inside.index.now c.in-None.is c.self.view_is c.self.invariant
