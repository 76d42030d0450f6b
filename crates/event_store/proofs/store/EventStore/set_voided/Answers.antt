use Rattle.std.proofs.Common.{ap}
use Rattle.event_store.{specs.Slots.Slots, proofs.Views.voided_slots}
use Rattle.event_store.proofs.store.EventStore.set_voided.Goals as goal

pub returns-clause-slots : goal.returns-clause-slots
returns-clause-slots c =
    voided_slots c.self.inside.links c.self.inside.events c.args.self.now.slots c.args.slot c.new.result c.get_mut.result.now
    c.args.voided c.new.ensures c.get_mut.ensures.value (ap (λ (s : Slots). s.slots) c.self.view_is)
