use Rattle.std.proofs.Common.{◌∙◌}
use Rattle.event_chain.proofs.Places.{found_at}
use Rattle.event_chain.proofs.place_index.PlaceIndex.find.Goals as goal

pub returns : goal.returns
returns c = c.first_slot.ensures.slot ∙ found_at c.args.key c.args.self.now.stored.entries c.first_slot.ensures.rising
