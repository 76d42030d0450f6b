use Rattle.std.{proofs.Common.{◌≡◌, ◌≤◌, ◌<◌, List, length, refl, ap, sym, subst, ◌∙◌, arith}, specs.Prelude.sum_by, proofs.lemmas.Option.slice_get_read}
use Rattle.ledger_model.specs.Ranges.{most_plan_readings}
use Rattle.board_report.{specs.Texts.board_text, specs.Boards.{AreOpenedFor, boards_at, site_named}}
use Rattle.site_desk.{specs.declared.plan.SitePlan.SitePlan, specs.declared.plan.StationPlan.StationPlan, specs.Plan.{order_at, period_at}}
use Rattle.script_ledgers.{specs.Script.{order_named, period_named, stations_of}, specs.State.script_of, proofs.Answered.value_told, proofs.Boards.{board_is, site_shown, totals_are}, proofs.Places.some_placed, proofs.SettledBy.{order_found, period_found}}
use Rattle.script_ledgers.proofs.opened_script.OpenedScript.board_text.Goals as goal

pub site_text-requires-clause-planned : goal.site_text-requires-clause-planned
site_text-requires-clause-planned g c =
    let there = some_placed {X = SitePlan} (λ x. x.name) c.args.name.now c.args.self.now.draft.sites c.args.site c.requires in
    subst (λ (l : List SitePlan). c.args.site < length l) (sym c.plan.ensures.sites) there.less

pub site_text-requires-clause-cells : goal.site_text-requires-clause-cells
site_text-requires-clause-cells g c =
    let s = c.args.self.now in
    let all : AreOpenedFor s.draft.sites s.draft.stations s.cells.items =
    record {
      count = s.running.all_cells;
      limits = λ k t d at is. (s.running.placed k t d at is).limits;
      periods = λ k t d at is. (s.running.placed k t d at is).period;
      orders = λ k t d at is. (s.running.placed k t d at is).order;
    } in
    subst (λ xs. AreOpenedFor c.plan.result.now.sites.items xs c.deref.result.now) (sym c.plan.ensures.stations)
    (subst (λ l. AreOpenedFor l s.draft.stations c.deref.result.now) (sym c.plan.ensures.sites) (subst (AreOpenedFor s.draft.sites s.draft.stations) (sym c.deref.ensures.value) all))

pub site_text-requires-clause-readings : goal.site_text-requires-clause-readings
site_text-requires-clause-readings g c =
    subst (λ xs. sum_by (λ (t : StationPlan). t.limits.readings) xs ≤ most_plan_readings) (sym c.plan.ensures.stations) c.args.self.now.running.plan.few_readings

pub returns-clause-text : goal.returns-clause-text
returns-clause-text g c =
    let s = c.args.self.now in
    let name = c.args.name.now in
    let site = c.args.site in
    let there = some_placed {X = SitePlan} (λ x. x.name) name s.draft.sites site c.requires in
    let book = slice_get_read s.books.items (length s.books.items) site c.index.result.now refl (omega (arith, there.less, s.running.all_books)) c.index.ensures in
    let order = order_at s.draft.sites site in
    let period = period_at s.draft.sites site in
    let boards = boards_at order period s.draft.stations s.cells.items site in
    let stations = stations_of name (script_of s).world in
    let totals = c.totals-totals.ensures.sums ∙ totals_are s.draft s.cells.items s.books.items s.tallies.items s.running period site c.index.result.now book in
    let alike : site_named name (period_at c.plan.result.now.sites.items site) (order_at c.plan.result.now.sites.items site)
    c.totals-totals.result
    (boards_at (order_at c.plan.result.now.sites.items site) (period_at c.plan.result.now.sites.items site) c.plan.result.now.stations.items c.deref.result.now site)
    ≡ site_named name period order c.totals-totals.result boards =
    (λ i. site_named name (period_at (c.plan.ensures.sites i) site) (order_at (c.plan.ensures.sites i) site) c.totals-totals.result
    (boards_at (order_at (c.plan.ensures.sites i) site) (period_at (c.plan.ensures.sites i) site) (c.plan.ensures.stations i) (c.deref.ensures.value i) site)) in
    let is = board_is name (order_named (script_of s) name) order (period_named (script_of s) name) period
    (site_named name period order c.totals-totals.result boards) stations boards
    (site_shown order period s.draft.sites s.draft.stations s.cells.items name site s.running.plan.sites_once s.running.plan.placed c.requires)
    (order_found name s.draft.sites site c.requires) (period_found name s.draft.sites site c.requires) refl refl refl totals refl
    refl in
    value_told c.site_text.result _ _ (λ text h. h ∙ ap board_text alike ∙ ap board_text is) c.site_text.ensures.text
