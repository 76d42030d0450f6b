use Rattle.std.proofs.Common.{◌∙◌}
use Rattle.event_chain.specs.Chains.{stored}
use Rattle.station_ledger.specs.Sums.{order_in}
use Rattle.station_ledger.proofs.listing.listing_of.Goals as goal

pub returns : goal.returns
returns c =
    let energy = c.energies_of.ensures (order_in c.args.sums.now) c.args.chains.now.limits (stored c.args.chains.now) c.requires.summed.standing in
    let events = c.of.ensures ∙ c.in_ok-events.ensures in
    let imported = c.of-2.ensures ∙ c.in_ok-imported.ensures in
    let exported = c.of-3.ensures ∙ c.in_ok-exported.ensures in
    λ i. record { order = c.order.ensures i; period = c.args.sums.now.period; events = events i; energy = energy i; imported = imported i; exported = exported i }
