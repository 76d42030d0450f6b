use Rattle.std.proofs.Common.{refl, ap, ◌∙◌, set, None, arith}
use Rattle.event_store.{specs.Slots.Slots, proofs.Views.{taken_out, slot_readings}}
use Rattle.event_store.proofs.store.EventStore.take_out.Goals as goal

pub invariant_of-self : goal.invariant_of-self
invariant_of-self c =
    (taken_out c.self.inside.events c.give-event.new.self c.self.inside.links c.take_all.new.links c.args.slot c.new.result
    c.args.slot c.new.ensures refl c.give-event.ensures.given c.self.invariant c.take_all.ensures.kept).chained

pub returns-clause-slots : goal.returns-clause-slots
returns-clause-slots c =
    (taken_out c.self.inside.events c.give-event.new.self c.self.inside.links c.take_all.new.links c.args.slot c.new.result
    c.args.slot c.new.ensures refl c.give-event.ensures.given c.self.invariant c.take_all.ensures.kept).shown
    ∙ ap (λ (s : Slots). set s.slots c.args.slot None) c.self.view_is

pub returns-clause-readings : goal.returns-clause-readings
returns-clause-readings c =
    let r = slot_readings c.self.inside.links c.self.inside.events c.args.self.now.slots c.args.slot c.new.result c.give-event.result
    c.new.ensures c.give-event.ensures.value (ap (λ (s : Slots). s.slots) c.self.view_is) in
    let h = ap (λ (s : Slots). s.readings) c.self.view_is in omega (arith, r, h, c.take_all.ensures.held)
