use Rattle.std.proofs.Common.{[], map, get_or, sym, subst, ap, ◌∙◌, arith}
use Rattle.ledger_model.specs.Board.{site_board}
use Rattle.board_report.{specs.Sums.AreOfPeriod, specs.Texts.board_text, proofs.PlanLemmas.plans_fit, proofs.ClosedSites.{name_at, value_told}, proofs.RunningBoards.{boards_by, boards_within, places_like}, proofs.SiteBoards.{named_is, sum_at}}
use Rattle.site_desk.{specs.declared.plan.SitePlan.SitePlan, specs.Parts.limits_at, specs.Plan.{order_at, period_at}}
use Rattle.board_report.proofs.running.running_text.Goals as goal

pub site_board-requires-clause-periods : goal.site_board-requires-clause-periods
site_board-requires-clause-periods c =
    let plan = c.args.plan.now in
    let places = c.requires.opened.places in
    let boards = c.args.boards.items in
    subst (λ p. AreOfPeriod p boards) (sym c.period-period.ensures)
    (boards_by plan.sites.items c.args.site plan.stations.items places boards (places_like plan.sites.items plan.stations.items places c.requires.opened.opened) c.requires.opened.of_site)

pub site_board-requires-clause-fit : goal.site_board-requires-clause-fit
site_board-requires-clause-fit c =
    let plan = c.args.plan.now in
    let places = c.requires.opened.places in
    let boards = c.args.boards.items in
    plans_fit (limits_at plan.stations.items c.args.site) boards (omega (arith, sum_at plan.stations.items c.args.site, c.requires.readings))
    (boards_within plan.sites.items c.args.site plan.stations.items places boards (places_like plan.sites.items plan.stations.items places c.requires.opened.opened) c.requires.opened.of_site)

pub returns : goal.returns
returns c =
    let sites = c.args.plan.now.sites.items in
    let site = c.args.site in
    let x = c.index-as_slice-number.result in
    let boards = c.args.boards.items in
    let b = c.in_ok-board in
    let name = b.ensures.name ∙ c.copied-name.ensures ∙ ap (λ l. (get_or l site x).name) c.as_slice.ensures.value ∙ name_at sites site x c.requires.planned in
    value_told c.write_board.result _ _
    (λ _ h.
    h
    ∙ ap board_text (named_is b.board (get_or (map (λ (p : SitePlan). p.name) sites) site []) (period_at sites site)
    (order_at sites site) _ boards name (b.ensures.figures ∙ c.requires.totals) (b.ensures.period ∙ c.period-period.ensures)
    (b.ensures.order ∙ c.order-order.ensures)
    (b.ensures.quarters ∙ ap (λ p. (site_board p boards).quarters) c.period-period.ensures) b.ensures.stations))
    c.write_board.ensures
