use Rattle.std.proofs.Common.{length, sym, ap, ◌∙◌}
use Rattle.event_chain.proofs.Facts.{all_seen}
use Rattle.event_chain.proofs.chains.Chains.stored_events.Goals as goal

pub returns : goal.returns
returns c = let k = c.self.invariant in c.len.ensures ∙ sym k.counted.all_are ∙ ap length (all_seen k c.self.view_is)
