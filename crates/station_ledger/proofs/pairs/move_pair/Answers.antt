use Rattle.std.proofs.Common.{arith, ◌∙◌, ◌∷◌, Some, ap, subst, sym}
use Rattle.energy_flow.specs.Flow.{Energy, difference_of}
use Rattle.ledger_model.{specs.ByDirection.flows_toward, specs.Deltas.across, specs.Settling.settled_at}
use Rattle.quarter_table.specs.Pairs.{rows_of}
use Rattle.station_ledger.{specs.Quarters.{HasRoom, MayMove}, proofs.Rows.{room_for_row, room_for_pair, room_for_flow, there, held, last, HasPair}, proofs.pairs.move_pair.Goals.{In-Coming, In-Going}}
use Rattle.station_ledger.proofs.pairs.move_pair.Goals as goal

-- there is room for the pair, or it is there
room : (c : In-Coming) → HasRoom 1 c.args.quarters.now
room c = subst (λ way. MayMove way c.args.period c.args.direction (across (Some c.args.earlier) (Some c.args.later)) c.args.quarters.now) c.in-Coming.is c.requires

pair : (c : In-Going) → HasPair c.settled_quarter-quarter.result (flows_toward c.args.direction c.difference-flow.result) c.args.quarters.now
pair c =
    let may = subst (λ way. MayMove way c.args.period c.args.direction (across (Some c.args.earlier) (Some c.args.later)) c.args.quarters.now) c.in-Going.is c.requires in
    let q = c.settled_quarter-quarter.ensures.value ∙ ap (settled_at c.args.period) c.moment.ensures in
    let f = c.difference-flow.ensures.flow ∙ (λ i. difference_of (c.level.ensures.value i) (c.level-2.ensures.value i)) in
    record { others = may.0; is = may.1 ∙ sym (λ i. rows_of ((q i, flows_toward c.args.direction (f i)) ∷ may.0)) }

pub add-requires-clause-room : goal.add-requires-clause-room
add-requires-clause-room c = λ none. room_for_row (room (goal.at.add-requires-clause-room c).In-Coming) (omega arith)

pub add-requires-clause-number : goal.add-requires-clause-number
add-requires-clause-number c = room_for_pair (room (goal.at.add-requires-clause-number c).In-Coming) c.settled_quarter-quarter.result

pub add-requires-clause-sums : goal.add-requires-clause-sums
add-requires-clause-sums c =
    room_for_flow (room (goal.at.add-requires-clause-sums c).In-Coming) c.settled_quarter-quarter.result c.args.direction c.difference-flow.result (record {
      up = omega (arith, ap (λ (e : Energy). e.up) c.difference-flow.ensures.flow, c.level-2.ensures.range);
      down = omega (arith, ap (λ (e : Energy). e.down) c.difference-flow.ensures.flow, c.level.ensures.range);
    })

pub remove-requires-clause-there : goal.remove-requires-clause-there
remove-requires-clause-there c = there (pair (goal.at.remove-requires-clause-there c).In-Going)

pub remove-requires-clause-sums : goal.remove-requires-clause-sums
remove-requires-clause-sums c = held (pair (goal.at.remove-requires-clause-sums c).In-Going)

pub remove-requires-clause-last : goal.remove-requires-clause-last
remove-requires-clause-last c = last (pair (goal.at.remove-requires-clause-last c).In-Going)
