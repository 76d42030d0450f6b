-- A script's answer to the question for a board, over the cells that its stations have the contents of.
use Rattle.std.proofs.Common.{◌≡◌, true, cond, refl, sym, ap, ◌∙◌}
use Rattle.board_report.{specs.Texts.board_text, specs.Boards.boards_at, specs.Closed.closed_site}
use Rattle.script_lines.{specs.declared.script_line.LineFault.TheVariants.UnknownSite, specs.Texts.fault_line}
use Rattle.script_ledgers.{specs.Drafts.{planned_world, site_name}, specs.Running.filled, specs.Script.{is_among, order_named, order_of, period_named, period_of, shown_site, site_number, stations_of, step_by}, proofs.Boards.{at_site, board_is, site_shown}, proofs.Places.some_placed, proofs.SettledBy.{order_found, period_found}}
use Rattle.site_desk.{specs.declared.plan.SitePlan.SitePlan, specs.Plan.{order_at, period_at}}
use Rattle.journal_script.specs.Journals.{BoardsAreThoseOfCells}

pub boards_are_those_of_cells : BoardsAreThoseOfCells
boards_are_those_of_cells s sites stations cells site line once shows less says =
    let name = site_name sites site in
    let found = at_site sites site once.sites_once less in
    let among : is_among name s.sites ≡ true = ap (is_among name) shows.sites_are ∙ (some_placed {X = SitePlan} (λ x. x.name) name sites site found).among in
    let period : period_named s name ≡ period_at sites site = (λ i. period_of (site_number name (shows.sites_are i)) (shows.periods_are i)) ∙ period_found name sites site found in
    let order : order_named s name ≡ order_at sites site = (λ i. order_of (site_number name (shows.sites_are i)) (shows.orders_are i)) ∙ order_found name sites site found in
    let shown = site_shown (order_at sites site) (period_at sites site) sites stations cells name site once.sites_once once.placed found in
    let is = board_is name (order_at sites site) (order_at sites site) (period_at sites site) (period_at sites site)
    (closed_site sites stations cells site) (stations_of name (filled (planned_world sites stations) cells))
    (boards_at (order_at sites site) (period_at sites site) stations cells site) shown refl refl refl refl refl refl refl refl in
    ap (λ m. (step_by s m).1) says
    ∙ ap (λ b. cond b (board_text (shown_site name (order_named s name) (period_named s name) (stations_of name s.world))) (fault_line UnknownSite)) among
    ∙ (λ i. board_text (shown_site name (order i) (period i) (stations_of name (shows.world_is i))))
    ∙ ap board_text (sym is)
