use Rattle.std.{proofs.Common.{◌≡◌, sym, ap, subst}, specs.Prelude.{IfOk, IfSome}, proofs.lemmas.Result.IfOk-weaker}
use Rattle.event_chain.specs.Chains.{stored}
use Rattle.station_ledger.{specs.Listing.placed_by, specs.ByMoment.AreByMoment, specs.Sums.{order_in, order_of}}
use Rattle.station_ledger.proofs.listing.readings_in_order.Goals as goal

pub returns-in-Some : goal.returns-in-Some
returns-in-Some c =
    let es = stored c.args.chains.now in let d = c.args.direction in let tx = c.args.tx.now in
    let timed = subst (λ o. IfSome o (AreByMoment c.args.chains.now.limits es)) c.in-Some.is c.requires.timed in
    subst (λ order. IfOk c.readings_in_time.result (λ listed. listed.items ≡ placed_by order d tx es)) (sym (ap order_of c.in-Some.is))
    (IfOk-weaker c.readings_in_time.result _ _ (λ listed each. each (order_in c.args.sums.now) c.args.chains.now.limits es c.requires.within timed) c.readings_in_time.ensures)
