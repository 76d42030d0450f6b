use Rattle.std.proofs.Common.{sym, ◌∙◌}
use Rattle.ledger_model.specs.Complete.{kinds_of}
use Rattle.event_chain.specs.Chains.{stored}
use Rattle.station_ledger.{specs.Standing.starts_and_ends_by, proofs.EndKinds.{by_ends, not_two}}
use Rattle.station_ledger.proofs.standing.has_ends.Goals as goal

pub returns-then-end_count-ne2 : goal.returns-then-end_count-ne2
returns-then-end_count-ne2 c = sym (not_two (kinds_of c.args.tx.now (stored c.args.chains.now)) (λ two. c.if-end_count-ne2.true (c.end_count.ensures ∙ two)))

pub returns : goal.returns
returns c =
    let e = c.standing.ensures in
    c.starts_and_ends.ensures ∙ (λ i. starts_and_ends_by (e.first_kind i) (e.last_kind i) (e.ends i)) ∙ by_ends (kinds_of c.args.tx.now (stored c.args.chains.now))
