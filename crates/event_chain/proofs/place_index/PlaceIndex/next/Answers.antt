use Rattle.std.proofs.Common.{◌∙◌}
use Rattle.event_chain.proofs.Lists.{live_slot, live_next}
use Rattle.event_chain.proofs.place_index.PlaceIndex.next.Goals as goal

pub next-requires : goal.next-requires
next-requires c = live_slot c.self.invariant c.self.view_is c.requires.rank c.requires.found

pub returns : goal.returns
returns c rank found = c.next.ensures ∙ live_next c.self.invariant c.self.view_is rank found
