use Rattle.std.proofs.Common.{◌≡◌, ◌<◌, ◌≤◌, Some, None, length, refl, sym, ap, subst, ◌∙◌}
use Rattle.energy_flow.specs.Flow.{Energy}
use Rattle.event_chain.{specs.Chains.stored, specs.Table.{Table, row_of, without_row}}
use Rattle.ledger_model.{specs.Content.live_of, specs.Ranges.most_event_readings, specs.declared.by_direction.ByDirection.ByDirection, specs.declared.order.Order.TheVariants.Moment, specs.declared.reading.Direction.TheVariants.{Import, Export}}
use Rattle.station_ledger.{specs.declared.by_moment.ByMoment.ByMoment, specs.ByMoment.IsSlotGiven, specs.Moved.IsExchanged, specs.Runs.by_way, proofs.MomentSides.{can_move, few_listed}, proofs.MomentTurning.{all_then, first_step, room_for_slot, rows_then, second_step, some_live, timed_then, work_then}, proofs.by_moment.move_event.Goals.After-slot_of-slot}
use Rattle.station_ledger.proofs.by_moment.move_event.Goals as goal

pub slot_of-slot-requires : goal.slot_of-slot-requires
slot_of-slot-requires c =
    let rows = c.args.by_moment.now.slots.rows in
    subst (λ tx. row_of tx rows ≡ None → length rows < c.args.by_moment.now.slots.capacity) (sym c.tx-tx.ensures) (room_for_slot c.args.way c.requires.2)

-- the slot is given to the event's transaction
given : (c : After-slot_of-slot) → IsSlotGiven c.args.key.now.tx c.args.by_moment.now.slots c.slot_of-slot.new.slots c.slot_of-slot.result
given c = subst (λ tx. IsSlotGiven tx c.args.by_moment.now.slots c.slot_of-slot.new.slots c.slot_of-slot.result) c.tx-tx.ensures c.slot_of-slot.ensures.given

pub list-requires-clause-few : goal.list-requires-clause-few
list-requires-clause-few c = few_listed c.requires.2 c.slot_of-slot.result Import

pub move_listed-import-requires : goal.move_listed-import-requires
move_listed-import-requires c = can_move c.requires.2 _ (first_step c.requires.2 (given (goal.at.move_listed-import-requires c).After-slot_of-slot)) c.list.ensures.items

pub list-requires-2-clause-few : goal.list-requires-2-clause-few
list-requires-2-clause-few c = few_listed c.requires.2 c.slot_of-slot.result Export

pub move_listed-export-requires : goal.move_listed-export-requires
move_listed-export-requires c =
    let g = given (goal.at.move_listed-export-requires c).After-slot_of-slot in
    can_move c.requires.2 _ (second_step c.requires.2 g c.list.ensures.items c.move_listed-import.ensures.moved) c.list-2.ensures.items

pub free_slot-requires-clause-there : goal.free_slot-requires-clause-there
free_slot-requires-clause-there c = λ none.
    let slots = c.move_listed-export.ensures.slots ∙ c.move_listed-import.ensures.slots in
    let some : Some c.slot_of-slot.ensures.given.row ≡ None = sym c.slot_of-slot.ensures.given.there ∙ sym (ap (λ (s : Table). row_of c.tx-tx.result.now s.rows) slots) ∙ none in
    cc

pub free_slot-requires-clause-lives : goal.free_slot-requires-clause-lives
free_slot-requires-clause-lives c = λ comes none. some_live c.requires.2 comes (sym (ap (λ tx. length (live_of tx (stored c.args.chains.now))) c.tx-tx.ensures) ∙ none)

pub returns : goal.returns
returns c =
    let g = given (goal.at.returns c).After-slot_of-slot in let imported = c.list.ensures.items in let exported = c.list-2.ensures.items in
    let first = c.move_listed-import.ensures.moved in let second = c.move_listed-export.ensures.moved in
    let slots = c.move_listed-export.ensures.slots ∙ c.move_listed-import.ensures.slots in
    let after : ByMoment = record { slots = c.free_slot.new.slots; index = c.move_listed-export.new.by_moment.index; listed = c.move_listed-export.new.by_moment.listed } in
    let counted = ap (λ tx. length (live_of tx (stored c.args.chains.now))) c.tx-tx.ensures in
    record {
      exchanged = λ less more is. subst (λ (m : ByDirection Energy × ByDirection Energy). IsExchanged Moment c.args.key.now.tx (by_way c.args.way less more) (stored c.args.chains.now) m.0 m.1)
          (sym (λ i. (c.exchange_of.ensures.less i, c.exchange_of.ensures.more i))) (all_then is g imported first exported second);
      rows = rows_then c.requires.2 g imported first exported second;
      timed = timed_then c.requires.2 g imported first exported second after c.slot_of-slot.ensures.slotted.apart c.slot_of-slot.ensures.slotted.rising
          (λ some. ap (λ (s : Table). s.rows) (c.free_slot.ensures.kept (λ none. some (sym counted ∙ none)) ∙ slots))
          (λ none. c.free_slot.ensures.rows (counted ∙ none) ∙ (λ i. without_row (c.tx-tx.ensures i) (slots i).rows))
          (c.free_slot.ensures.capacity ∙ ap (λ (s : Table). s.capacity) slots) refl (subst (λ n. most_event_readings ≤ n) (sym c.move_listed-export.ensures.room) c.list-2.ensures.room);
      work = λ less more is. work_then is g imported first exported second;
    }
