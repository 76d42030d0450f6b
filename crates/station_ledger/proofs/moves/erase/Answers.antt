use Rattle.std.proofs.Common.{true, refl, sym, subst, arith}
use Rattle.std.specs.FinMap as finite
use Rattle.event_chain.specs.Chains.{stored}
use Rattle.station_ledger.{specs.Sums.AreSummed, proofs.Commands.{found, erased, erased_voided, some_voided, summed_same, summed_voided}}
use Rattle.station_ledger.proofs.moves.erase.Goals as goal

pub overflow_sub-sums : goal.overflow_sub-sums
overflow_sub-sums c =
    let old = c.args.chains.now in let key = c.args.key.now in
    omega (arith, c.requires.voided, some_voided old key (found (finite.get old.events key) true c.requires.ready))

pub returns : goal.returns
returns c =
    let old = c.args.chains.now in let new = c.remove.new.self in let key = c.args.key.now in let e = c.remove.ensures in let f = found (finite.get old.events key) true c.requires.ready in
    record {
      limits = e.limits;
      events = e.events;
      summed = summed_voided (summed_same (stored new) (erased old new key e.events f) (subst (λ l. AreSummed l (stored old) c.args.sums.now) (sym e.limits) c.requires.summed));
      period = refl;
      order = refl;
      voided = omega (arith, c.requires.voided, erased_voided old new key e.events f);
    }
