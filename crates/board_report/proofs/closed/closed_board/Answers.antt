use Rattle.std.proofs.Common.{[], ap, ◌∙◌, map, get_or, arith}
use Rattle.ledger_model.specs.Board.{sum_of_figures}
use Rattle.board_report.{specs.Texts.board_text, specs.Boards.{site_boards, site_under}, proofs.SiteBoards.stands, proofs.ClosedSites.{figures_alike, name_at, named_alike, value_told}}
use Rattle.site_desk.{specs.declared.plan.SitePlan.SitePlan, specs.Close.figures_at, specs.Plan.{order_at, period_at}}
use Rattle.board_report.proofs.closed.closed_board.Goals as goal

pub returns-clause-text : goal.returns-clause-text
returns-clause-text g c =
    let sites = c.args.plan.now.sites.items in
    let xs = c.args.plan.now.stations.items in
    let closed = c.args.closed.now in
    let site = c.args.site in
    let book = stands closed.books site (omega (arith, c.requires.planned, c.requires.closed.books)) in
    let summed = c.requires.closed.summed site book.0 book.1 in
    let period = period_at sites site in
    let order = order_at sites site in
    let boards = site_boards sites xs closed.cells site in
    let totals = c.totals-totals.ensures book.0 book.1 ∙ summed.totals in
    let sums = ap sum_of_figures
    (figures_alike order period xs closed.cells site c.requires.closed.cells.count c.requires.closed.at_sites
    (λ k s d at is e. c.requires.closed.cells.orders k s d at is ∙ ap (order_at sites) e)) in
    let x = c.index-as_slice-number.result in
    let name = c.copied-name.ensures ∙ ap (λ l. (get_or l site x).name) c.as_slice.ensures.value ∙ name_at sites site x c.requires.planned in
    let there = ap (λ l. site_under sites xs l site c.copied-name.result c.totals-totals.result) c.cells.ensures in
    let same = named_alike c.copied-name.result (get_or (map (λ (p : SitePlan). p.name) sites) site []) period order c.totals-totals.result (figures_at closed.cells site) boards name totals sums in
    value_told c.site_text.result _ _ (λ text h. h ∙ ap board_text there ∙ ap board_text same) c.site_text.ensures.text
