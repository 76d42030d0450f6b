use Rattle.std.proofs.Common.{sym, ◌∙◌}
use Rattle.site_desk.proofs.Comparisons.{plus_told}
use Rattle.site_desk.proofs.checks.plus_at.Goals as goal

pub returns-then-site : goal.returns-then-site
returns-then-site c =
    plus_told c.checked_add.result c.args.cell.now c.args.site c.args.sum.now c.figures.result c.ledger.result.now.order
    c.ledger.result.now.content (sym c.site.ensures ∙ c.if-site.true) c.ledger.ensures.order c.ledger.ensures.content
    c.figures.ensures.value c.checked_add.ensures.sum
