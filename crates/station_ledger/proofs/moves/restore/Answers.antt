use Rattle.std.proofs.Common.{true, arith}
use Rattle.std.specs.FinMap as finite
use Rattle.event_chain.specs.Chains.{stored}
use Rattle.ledger_model.specs.ByDirection.{in_direction}
use Rattle.station_ledger.{specs.declared.pairs.Way.TheVariants.Coming, specs.Sums.{AreTurning, order_in}, proofs.Commands.{found, restored, restored_voided, some_voided, restored_spends, summed_voided}, proofs.moves.restore.Goals.After-relink}
use Rattle.station_ledger.proofs.moves.restore.Goals as goal

turning : (c : After-relink) → AreTurning Coming (stored c.args.chains.now) c.relink.new.self c.args.key.now c.around-place.result c.args.sums.now
turning c =
    restored c.args.chains.now c.relink.new.self c.args.key.now c.around-place.result (λ d. in_direction d c.carries-has.result) c.args.sums.now
    c.around-place.ensures c.relink.ensures.limits c.relink.ensures.events c.requires c.carries-has.ensures

pub turn_event-requires-clause-turns : goal.turn_event-requires-clause-turns
turn_event-requires-clause-turns c = (stored c.args.chains.now, turning (goal.at.turn_event-requires-clause-turns c).After-relink)

pub overflow_sub-sums : goal.overflow_sub-sums
overflow_sub-sums c =
    let old = c.args.chains.now in let key = c.args.key.now in
    omega (arith, c.turn_event.ensures.voided, c.requires.voided, some_voided old key (found (finite.get old.events key) true c.requires.ready))

pub returns : goal.returns
returns c =
    let old = c.args.chains.now in let new = c.relink.new.self in let key = c.args.key.now in let e = c.relink.ensures.events in
    let f = found (finite.get old.events key) true c.requires.ready in let t = c.turn_event.ensures in
    let voided = restored_voided old new key e f in let spends = restored_spends old new key (order_in c.args.sums.now) e f in
    let work = t.work (stored old) (turning (goal.at.returns c).After-relink) in
    record {
      done = record {
        limits = c.relink.ensures.limits;
        events = e;
        summed = summed_voided t.summed;
        period = t.period;
        order = t.order;
        voided = omega (arith, t.voided, c.requires.voided, voided);
      };
      work = omega (arith, work, spends);
    }
