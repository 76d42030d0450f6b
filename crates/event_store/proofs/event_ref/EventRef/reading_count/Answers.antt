use Rattle.std.proofs.Common.{length, sym, ap, ◌∙◌}
use Rattle.event_store.{specs.Slots.Held, proofs.Runs.chain_long}
use Rattle.event_store.proofs.event_ref.EventRef.reading_count.Goals as goal

pub returns : goal.returns
returns c = c.from.ensures ∙ sym (chain_long c.self.inside.links.now c.self.inside.slot.first c.self.inside.slot.count) ∙ ap (λ (h : Held). length h.1.event.readings) c.self.view_is
