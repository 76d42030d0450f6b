use Rattle.site_desk.proofs.Settled.{tied_told}
use Rattle.site_desk.proofs.steps.tied.Goals as goal

pub returns : goal.returns
returns g c = tied_told c.args.cell.now c.args.book.now c.are_same.result c.row.result c.row-2.result c.figures.result
    c.ledger.result.now.order c.ledger.result.now.content c.are_same.ensures c.row.ensures c.row-2.ensures c.ledger.ensures.order
    c.ledger.ensures.content c.figures.ensures.value
