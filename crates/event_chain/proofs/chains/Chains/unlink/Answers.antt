use Rattle.std.proofs.Common.{ℕ, true, not, cond, Some, None, ◌&&◌, is_some, ap, ◌∙◌, arith}
use Rattle.ledger_model.{specs.Content.Stored, specs.Step.marked}
use Rattle.event_chain.{specs.declared.row.TableRow.TableRow, specs.Table.with_row, specs.Chains.Chained, specs.Kept.{end_count, is_end, is_live}, proofs.Ops.{IsDone, chains_done, moved_less}, proofs.Marks.{location_was_live, is_placed, location_event, location_here, location_is, location_sub, location_live, location_ends, marked_done, marked_events}, proofs.chains.Chains.unlink.Goals.After-set}
use Rattle.event_chain.proofs.chains.Chains.unlink.Goals as goal

pub locate-at-requires : goal.locate-at-requires
locate-at-requires c = is_placed c.self.inside.places c.self.invariant c.args.key.now c.self.view_is c.requires

pub get-event-requires : goal.get-event-requires
get-event-requires c = ap is_some (location_here c.self.inside.places c.self.invariant c.args.key.now c.locate-at.ensures)

pub void-requires-clause-live : goal.void-requires-clause-live
void-requires-clause-live c =
    let m = c.self.inside in let k = c.self.invariant in let key = c.args.key.now in let at = c.locate-at.ensures in
    location_sub m.places k key at is_live m.places.live.entries k.indexed.lives
    ∙ ap (λ v. cond (not v) (Some c.locate-at.result.slot) None) (location_was_live m.places k key at c.self.view_is c.requires)

pub row_without-after-requires : goal.row_without-after-requires
row_without-after-requires c =
    let p = c.self.inside.places in let k = c.self.invariant in let key = c.args.key.now in let at = c.locate-at.ensures in
    let void = location_was_live p k key at c.self.view_is c.requires in let ev = location_is p k key at c.get-event.result c.get-event.ensures in
    let kind = ap end_count (c.kind-kind.ensures ∙ ap (λ (x : Stored). x.event.kind) ev) in (
      omega (arith, location_live p k key at, ap (λ v. cond {A = ℕ} (not v) 1 0) void),
      omega (arith, location_ends p k key at, ap (λ v. cond {A = ℕ} (not v && is_end (location_event p k key at).event.kind) 1 0) void, kind),
    )

-- What was done to each part.
done : (c : After-set) → let at = c.locate-at.result in let s = location_event c.self.inside.places c.self.invariant c.args.key.now c.locate-at.ensures in
    IsDone c.self.inside.table c.set.new.self c.self.inside.store c.set_voided.new.self c.self.inside.places c.void.new.self c.args.key.now at.row at.key at.slot
    (Some s) (Some (record { event = s.event; voided = true }))
done c =
    let m = c.self.inside in let k = c.self.invariant in let key = c.args.key.now in let at = c.locate-at.ensures in
    let void = location_was_live m.places k key at c.self.view_is c.requires in let ev = location_is m.places k key at c.get-event.result c.get-event.ensures in
    marked_done m.places k key at c.row_without-after.result (c.set.ensures.rows ∙ ap (λ t. with_row t c.row_without-after.result m.table.rows) c.tx.ensures) c.set.ensures.capacity
    c.set.ensures.slotted (ap (λ (r : TableRow). r.slot) c.row_without-after.ensures) c.set_voided.ensures.slots c.set_voided.ensures.readings c.set_voided.ensures.capacity c.void.ensures.stored
    (moved_less c.locate-at.result.key c.locate-at.result.slot _ m.places c.void.new.self c.void.ensures.lives)
    (omega (arith, ap (λ (r : TableRow). r.live) c.row_without-after.ensures, ap (λ v. cond {A = ℕ} (not v) 1 0) void, location_live m.places k key at))
    (omega (
      arith,
      ap (λ (r : TableRow). r.ends) c.row_without-after.ensures,
      ap end_count (c.kind-kind.ensures ∙ ap (λ (x : Stored). x.event.kind) ev),
      ap (λ v. cond {A = ℕ} (not v && is_end (location_event m.places k key at).event.kind) 1 0) void,
      location_ends m.places k key at,
    ))

pub invariant_of-self : goal.invariant_of-self
invariant_of-self c = chains_done c.self.invariant (done (goal.at.invariant_of-self c).After-set)

pub returns-clause-events : goal.returns-clause-events
returns-clause-events c = marked_events c.self.inside.places c.self.invariant c.args.key.now c.locate-at.ensures (done (goal.at.returns-clause-events c).After-set)
    ∙ ap (λ (x : Chained). marked x.events c.args.key.now true) c.self.view_is
