use Rattle.std.{proofs.Common.{◌≡◌, length, map, ◌∙◌, subst}, specs.List.range_with_len}
use Rattle.ledger_model.{specs.Board.sum_of_figures, specs.Posts.row_after}
use Rattle.site_book.proofs.Totals.{totals-sums}
use Rattle.site_book.proofs.book.SiteBook.totals.Goals as goal

pub returns-clause-sums : goal.returns-clause-sums
returns-clause-sums g c =
    let i = c.self.invariant in
    subst (λ b. c.self.inside.totals ≡ sum_of_figures (map (λ row. row_after row b.posts) (range_with_len 0 (length b.limits)))) c.self.view_is
    (i.totals_are ∙ totals-sums c.self.inside.rows.items c.self.inside.seat.me.0.log i.rows_are)
