use Rattle.std.proofs.Common.{◌≡◌, IfOk, subst}
use Rattle.ledger_model.specs.Content.{entries}
use Rattle.station_ledger.{specs.Ledger.Ledger, specs.Listing.listing_by, proofs.Reaching.{kept_allowed, kept_numbered, kept_summed}}
use Rattle.station_ledger.proofs.ledger.StationLedger.listing.Goals as goal

pub listing_of-requires-clause-within : goal.listing_of-requires-clause-within
listing_of-requires-clause-within c = kept_allowed c.self.invariant

pub listing_of-requires-clause-numbered : goal.listing_of-requires-clause-numbered
listing_of-requires-clause-numbered c = kept_numbered c.self.invariant

pub listing_of-requires-clause-summed : goal.listing_of-requires-clause-summed
listing_of-requires-clause-summed c = kept_summed c.self.invariant

pub returns : goal.returns
returns c = subst (λ (x : Ledger). IfOk c.listing_of.result (λ l. l ≡ listing_by x.order x.period c.args.tx.now (entries x.content))) c.self.view_is c.listing_of.ensures
