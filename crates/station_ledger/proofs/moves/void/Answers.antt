use Rattle.std.proofs.Common.{false, arith}
use Rattle.std.specs.FinMap as finite
use Rattle.event_chain.specs.Chains.{stored}
use Rattle.ledger_model.specs.ByDirection.{in_direction}
use Rattle.station_ledger.{specs.declared.pairs.Way.TheVariants.Going, specs.Sums.{AreTurning, order_in}, proofs.Commands.{found, voided, voided_voided_more, voided_spends, summed_voided}, proofs.moves.void.Goals.After-unlink}
use Rattle.station_ledger.proofs.moves.void.Goals as goal

turning : (c : After-unlink) → AreTurning Going (stored c.args.chains.now) c.unlink.new.self c.args.key.now c.around-place.result c.args.sums.now
turning c =
    voided c.args.chains.now c.unlink.new.self c.args.key.now c.around-place.result (λ d. in_direction d c.carries-has.result) c.args.sums.now
    c.around-place.ensures c.unlink.ensures.limits c.unlink.ensures.events c.requires c.carries-has.ensures

pub turn_event-requires-clause-turns : goal.turn_event-requires-clause-turns
turn_event-requires-clause-turns c = (stored c.args.chains.now, turning (goal.at.turn_event-requires-clause-turns c).After-unlink)

pub overflow_add-sums : goal.overflow_add-sums
overflow_add-sums c = let b = c.requires.before in omega (arith, c.turn_event.ensures.voided, c.requires.voided, b.figures_within.events, b.most_events_within)

pub returns : goal.returns
returns c =
    let old = c.args.chains.now in let new = c.unlink.new.self in let key = c.args.key.now in let e = c.unlink.ensures.events in
    let f = found (finite.get old.events key) false c.requires.ready in let t = c.turn_event.ensures in
    let voided = voided_voided_more old new key e f in let spends = voided_spends old new key (order_in c.args.sums.now) e f in
    let work = t.work (stored old) (turning (goal.at.returns c).After-unlink) in
    record {
      done = record {
        limits = c.unlink.ensures.limits;
        events = e;
        summed = summed_voided t.summed;
        period = t.period;
        order = t.order;
        voided = omega (arith, t.voided, c.requires.voided, voided);
      };
      work = omega (arith, work, spends);
    }
