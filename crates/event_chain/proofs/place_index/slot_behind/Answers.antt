use Rattle.std.proofs.Common.{option_map, sym, ap, ◌∙◌}
use Rattle.event_chain.{specs.Lists.slot_in, proofs.Lists.{sides_absent, next_absent}}
use Rattle.event_chain.proofs.place_index.slot_behind.Goals as goal

pub next-requires : goal.next-requires
next-requires c = (sides_absent c.args.live.now c.args.links.now c.requires.listed c.requires.rising c.args.key c.requires.absent).0 c.in-Some.slot (sym c.requires.before ∙ c.in-Some.is)

pub returns-in-Some : goal.returns-in-Some
returns-in-Some c = c.next.ensures ∙ next_absent c.args.live.now c.args.links.now c.requires.listed c.requires.rising c.args.key c.requires.absent c.in-Some.slot (sym c.requires.before ∙ c.in-Some.is)

pub returns-in-None : goal.returns-in-None
returns-in-None c = c.slot_of_place.ensures ∙ ap (option_map slot_in) c.place_behind.ensures
