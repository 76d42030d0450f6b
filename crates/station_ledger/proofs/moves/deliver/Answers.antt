-- the search changes nothing that the chains and the sums show
use Rattle.std.proofs.Common.{refl, sym, subst, ◌∙◌, arith}
use Rattle.event_chain.specs.Chains.{stored}
use Rattle.ledger_model.specs.Event.{toward}
use Rattle.station_ledger.{specs.declared.pairs.Way.TheVariants.Coming, specs.Sides.has_some, specs.Sums.{AreTurning, order_in}, proofs.Commands.{delivered, delivered_there, delivered_voided, delivered_spends}, proofs.moves.deliver.Goals.After-look_near}
use Rattle.station_ledger.proofs.moves.deliver.Goals as goal

turning : (c : After-look_near) → AreTurning Coming (stored c.args.chains.now) c.admit-around.new.self c.args.key.now c.admit-around.result (record c.args.sums.now { kept = c.look_near.new.self })
turning c =
    let new = c.admit-around.new.self in let event = c.args.event.now in let e = c.admit-around.ensures in let sums = c.args.sums.now in
    subst (λ k. AreTurning Coming (stored c.args.chains.now) new c.args.key.now c.admit-around.result (record sums { kept = k })) (sym c.look_near.ensures)
    (delivered c.args.chains.now new c.args.key.now c.admit-around.result (λ d. has_some (toward d event.readings)) sums e.sides e.limits event e.events c.requires (λ d. refl))

pub turn_event-requires-clause-turns : goal.turn_event-requires-clause-turns
turn_event-requires-clause-turns c = (stored c.args.chains.now, turning (goal.at.turn_event-requires-clause-turns c).After-look_near)

pub turn_event-requires-clause-own : goal.turn_event-requires-clause-own
turn_event-requires-clause-own c = delivered_there c.args.chains.now c.admit-around.new.self c.args.key.now c.args.event.now c.admit-around.ensures.events

pub returns : goal.returns
returns c =
    let old = c.args.chains.now in let new = c.admit-around.new.self in let key = c.args.key.now in let event = c.args.event.now in let e = c.admit-around.ensures in let t = c.turn_event.ensures in
    let voided = sym (delivered_voided old new key event e.events c.requires.ready.0) in let spends = delivered_spends old new key (order_in c.args.sums.now) event e.events in
    let work = t.work (stored old) (turning (goal.at.returns c).After-look_near) in
    record {
      done = record {
        limits = e.limits;
        events = e.events;
        summed = t.summed;
        period = t.period;
        order = t.order;
        voided = t.voided ∙ c.requires.voided ∙ voided;
      };
      work = omega (arith, work, spends);
    }
