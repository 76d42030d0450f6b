use Rattle.site_desk.proofs.Operators.{listing_shown}
use Rattle.site_desk.proofs.operator.listing_of.Goals as goal

pub returns : goal.returns
returns c = listing_shown c.listing.result c.args.cell.now.limits c.ledger.result.now.order c.args.cell.now.order
    c.ledger.result.now.period c.args.cell.now.period c.args.tx.now c.ledger.result.now.content c.args.cell.now.content
    c.listing.ensures c.ledger.ensures.order c.ledger.ensures.period c.ledger.ensures.content c.ledger.ensures.reached
