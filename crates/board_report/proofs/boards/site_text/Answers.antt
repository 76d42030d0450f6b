use Rattle.std.proofs.Common.{sym, subst, arith}
use Rattle.board_report.{specs.Sums.AreOfPeriod, proofs.PlanLemmas.plans_fit, proofs.SiteBoards.{boards_period, sum_at}}
use Rattle.site_desk.{specs.Parts.limits_at, specs.Plan.{order_at, period_at}}
use Rattle.board_report.proofs.boards.site_text.Goals as goal

pub site_board-requires-clause-periods : goal.site_board-requires-clause-periods
site_board-requires-clause-periods c =
    let plan = c.args.plan.now in
    subst (λ p. AreOfPeriod p c.in_ok-boards.boards.items) (sym c.period-period.ensures)
    (subst (AreOfPeriod (period_at plan.sites.items c.args.site)) (sym c.in_ok-boards.ensures.boards)
    (boards_period (order_at plan.sites.items c.args.site) (period_at plan.sites.items c.args.site) plan.stations.items c.args.cells.now c.args.site))

pub site_board-requires-clause-fit : goal.site_board-requires-clause-fit
site_board-requires-clause-fit c =
    let stations = c.args.plan.now.stations.items in
    plans_fit (limits_at stations c.args.site) c.in_ok-boards.boards.items (omega (arith, sum_at stations c.args.site, c.requires.readings)) c.in_ok-boards.ensures.within
