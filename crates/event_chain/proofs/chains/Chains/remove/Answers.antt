use Rattle.std.proofs.Common.{Some, None, is_some, refl, ap, ◌∙◌, subst, arith}
use Rattle.std.specs.FinMap as finite
use Rattle.event_chain.{specs.Chains.Chained, specs.Kept.IsLeft, proofs.Changes.change_out, proofs.Looks.turned_left, proofs.Ops.{IsDone, chains_done, events_out, moved_none}, proofs.Marks.{is_placed, location_dark, location_event, location_here, location_place, location_was_voided}, proofs.chains.Chains.remove.Goals.After-leave}
use Rattle.event_store.specs.Slots.{readings_in}
use Rattle.event_chain.proofs.chains.Chains.remove.Goals as goal

pub locate-at-requires : goal.locate-at-requires
locate-at-requires c = is_placed c.self.inside.places c.self.invariant c.args.key.now c.self.view_is c.requires

pub take_out-requires : goal.take_out-requires
take_out-requires c = ap is_some (location_here c.self.inside.places c.self.invariant c.args.key.now c.locate-at.ensures)

pub remove-requires-clause-not_live : goal.remove-requires-clause-not_live
remove-requires-clause-not_live c =
    let p = c.self.inside.places in let k = c.self.invariant in let key = c.args.key.now in let at = c.locate-at.ensures in
    location_dark p k key at (location_was_voided p k key at c.self.view_is c.requires)

-- What was done to each part.
done : (c : After-leave) → let at = c.locate-at.result in
    IsDone c.self.inside.table c.leave.new.table c.self.inside.store c.take_out.new.self c.self.inside.places c.remove.new.self c.args.key.now at.row at.key at.slot
    (Some (location_event c.self.inside.places c.self.invariant c.args.key.now c.locate-at.ensures)) None
done c =
    let m = c.self.inside in let k = c.self.invariant in let key = c.args.key.now in let at = c.locate-at.ensures in let left = c.remove.new.self.stored in
    let void = location_was_voided m.places k key at c.self.view_is c.requires in let location = c.locate-at.result in
    record {
      place = location_place m.places k key at;
      turned = turned_left m.table.rows c.leave.new.table.rows left.entries key.tx location.row (location_event m.places k key at)
          (subst (λ t. IsLeft m.table.rows c.leave.new.table.rows left.entries t location.row) c.tx.ensures c.leave.ensures.left)
          (c.leave.ensures.rising k.keyed.rising) (c.leave.ensures.apart k.keyed.apart) void;
      places = change_out location.key None m.places.stored left c.remove.ensures.stored refl;
      slots = c.take_out.ensures.slots;
      moved = moved_none location.key location.slot m.places c.remove.new.self c.remove.ensures.lives (location_dark m.places k key at void);
      transactions = c.leave.ensures.capacity;
      readings = omega (arith, ap readings_in (location_here m.places k key at), c.take_out.ensures.readings);
      readings_room = c.take_out.ensures.capacity;
      stored_room = λ i. (c.remove.ensures.stored i).capacity;
    }

pub invariant_of-self : goal.invariant_of-self
invariant_of-self c = chains_done c.self.invariant (done (goal.at.invariant_of-self c).After-leave)

pub returns-clause-events : goal.returns-clause-events
returns-clause-events c = events_out c.self.invariant (done (goal.at.returns-clause-events c).After-leave) refl ∙ ap (λ (x : Chained). finite.remove x.events c.args.key.now) c.self.view_is
