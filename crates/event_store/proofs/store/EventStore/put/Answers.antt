use Rattle.std.proofs.Common.{refl, length, ap, sym, ◌∙◌, set, Some, false, ℕ}
use Rattle.event_store.{specs.Slots.Slots, proofs.Views.put_in}
use Rattle.event_store.proofs.store.EventStore.put.Goals as goal

pub invariant_of-self : goal.invariant_of-self
invariant_of-self c =
    let e = c.put_slot-number.ensures in let r = c.put_all-ends.ensures in
    (put_in c.self.inside.events c.put_slot-number.new.events c.set_run.new.events c.self.inside.links c.put_all-ends.new.links
    c.put_slot-number.result c.put_slot-number.result c.put_all-ends.result.first c.put_all-ends.result.last
    (length c.readings-readings.result.now) c.args.key c.args.event.now
    refl e.free e.within e.put c.set_run.ensures r.kept (record { run = r.run; ends = r.ends }) (r.chain ∙ c.readings-readings.ensures.value) c.self.invariant).chained

pub returns-clause-slots : goal.returns-clause-slots
returns-clause-slots c =
    let e = c.put_slot-number.ensures in let r = c.put_all-ends.ensures in
    (put_in c.self.inside.events c.put_slot-number.new.events c.set_run.new.events c.self.inside.links c.put_all-ends.new.links
    c.put_slot-number.result c.put_slot-number.result c.put_all-ends.result.first c.put_all-ends.result.last
    (length c.readings-readings.result.now) c.args.key c.args.event.now
    refl e.free e.within e.put c.set_run.ensures r.kept (record { run = r.run; ends = r.ends }) (r.chain ∙ c.readings-readings.ensures.value) c.self.invariant).shown
    ∙ ap (λ (s : Slots). set s.slots c.put_slot-number.result (Some (c.args.key, record { event = c.args.event.now; voided = false }))) c.self.view_is
    ∙ ap (λ (k : ℕ). set c.args.self.now.slots k (Some (c.args.key, record { event = c.args.event.now; voided = false }))) (sym c.from.ensures)
