use Rattle.std.proofs.Common.{ℕ, false, not, cond, ◌&&◌, is_some, Some, ap, ◌∙◌, arith}
use Rattle.ledger_model.{specs.Deltas.first_reading, specs.Event.toward, specs.Content.Stored, specs.Step.marked}
use Rattle.event_chain.{specs.declared.row.TableRow.TableRow, specs.Table.with_row, specs.Chains.Chained, specs.Kept.{end_count, is_end}, proofs.Used.unused_voided, proofs.Ops.{IsDone, chains_done, moved_more}, proofs.Marks.{location_was_voided, is_placed, location_event, location_here, location_place, location_is, location_dark, location_few, marked_done, marked_events}, proofs.chains.Chains.relink.Goals.After-set}
use Rattle.event_chain.proofs.chains.Chains.relink.Goals as goal

pub locate-at-requires : goal.locate-at-requires
locate-at-requires c = is_placed c.self.inside.places c.self.invariant c.args.key.now c.self.view_is c.requires

pub get-event-requires : goal.get-event-requires
get-event-requires c = ap is_some (location_here c.self.inside.places c.self.invariant c.args.key.now c.locate-at.ensures)

pub restore-requires : goal.restore-requires
restore-requires c =
    let m = c.self.inside in let k = c.self.invariant in let at = c.locate-at.ensures in let void = location_was_voided m.places k c.args.key.now at c.self.view_is c.requires in
    let here = location_place m.places k c.args.key.now at in
    record {
      stored = at.slot;
      not_live = location_dark m.places k c.args.key.now at void;
      slot_for = record {
        within = omega (arith, here.within, k.counted.slots_are, k.roomy.for_live);
        unused = unused_voided m.places.stored.entries m.places.live.entries m.store.slots k.indexed.lives c.locate-at.result.slot c.locate-at.result.key _ here.here void;
      };
    }

pub row_with-after-requires : goal.row_with-after-requires
row_with-after-requires c = location_few c.self.inside.places c.self.invariant c.args.key.now c.locate-at.ensures

-- What was done to each part.
done : (c : After-set) → let at = c.locate-at.result in let s = location_event c.self.inside.places c.self.invariant c.args.key.now c.locate-at.ensures in
    IsDone c.self.inside.table c.set.new.self c.self.inside.store c.set_voided.new.self c.self.inside.places c.restore.new.self c.args.key.now at.row at.key at.slot
    (Some s) (Some (record { event = s.event; voided = false }))
done c =
    let m = c.self.inside in let k = c.self.invariant in let key = c.args.key.now in let at = c.locate-at.ensures in
    let void = location_was_voided m.places k key at c.self.view_is c.requires in let ev = location_is m.places k key at c.get-event.result c.get-event.ensures in
    marked_done m.places k key at c.row_with-after.result (c.set.ensures.rows ∙ ap (λ t. with_row t c.row_with-after.result m.table.rows) c.tx.ensures) c.set.ensures.capacity
    c.set.ensures.slotted (ap (λ (r : TableRow). r.slot) c.row_with-after.ensures) c.set_voided.ensures.slots c.set_voided.ensures.readings c.set_voided.ensures.capacity c.restore.ensures.stored
    (moved_more c.locate-at.result.key c.locate-at.result.slot _ c.carried-carries.result c.is_some-names_evse.result m.places c.restore.new.self
    c.restore.ensures.lives (location_dark m.places k key at void)
    (λ d. c.carried-carries.ensures d ∙ ap (λ (x : Stored). is_some (first_reading (toward d x.event.readings))) ev)
    (c.is_some-names_evse.ensures ∙ ap is_some (c.evse.ensures ∙ ap (λ (x : Stored). x.event.evse) ev)))
    (omega (arith, ap (λ (r : TableRow). r.live) c.row_with-after.ensures, ap (λ v. cond {A = ℕ} (not v) 1 0) void))
    (omega (
      arith,
      ap (λ (r : TableRow). r.ends) c.row_with-after.ensures,
      ap end_count (c.kind-kind.ensures ∙ ap (λ (x : Stored). x.event.kind) ev),
      ap (λ v. cond {A = ℕ} (not v && is_end (location_event m.places k key at).event.kind) 1 0) void,
    ))

pub invariant_of-self : goal.invariant_of-self
invariant_of-self c = chains_done c.self.invariant (done (goal.at.invariant_of-self c).After-set)

pub returns-clause-events : goal.returns-clause-events
returns-clause-events c = marked_events c.self.inside.places c.self.invariant c.args.key.now c.locate-at.ensures (done (goal.at.returns-clause-events c).After-set)
    ∙ ap (λ (x : Chained). marked x.events c.args.key.now false) c.self.view_is
