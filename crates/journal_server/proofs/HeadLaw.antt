-- A head, with the new cells of its plan, leaves them.
use Rattle.std.{proofs.Common.{◌≡◌, ℕ, List, [], ◌∷◌, All, length, refl, sym, ap, subst, ◌∙◌, arith}, proofs.lemmas.List.Elements.{All-head, All-tail}, proofs.lemmas.Option.get_or_from_slice_get}
use Rattle.board_report.proofs.SiteBoards.{some_same, stands}
use Rattle.ledger_model.specs.Content.{empty_content}
use Rattle.script_ledgers.{specs.Drafts.{planned, planned_world, site_name}, specs.Running.filled, specs.Script.new_station}
use Rattle.site_desk.{specs.declared.plan.SitePlan.SitePlan, specs.declared.plan.StationPlan.StationPlan, specs.Parts.{AreNewCells, row_at}, specs.Plan.{order_at, period_at}, specs.Roster.{AreCellsOf, StandsAt, new_place}, specs.Cell.{Cell, new_cell}}
use Rattle.journal_script.specs.Head.{IsHeadOf}
use Rattle.journal_server.specs.Served.{Leaves}

-- they are those of the plan's stations
pub new_cells_of : (sites : List SitePlan) (stations : List StationPlan) (cells : List Cell) → AreNewCells sites stations cells → AreCellsOf sites stations cells
new_cells_of sites stations cells new = record {
  count = new.count;
  each = λ k s c planned there.
      let first = new_cell k s.site (row_at stations s.site k) s.limits (period_at sites s.site) (order_at sites s.site) in
      let is : first ≡ c = some_same first c (sym (new.each k s planned) ∙ there) in
      subst (StandsAt k (new_place sites stations k s)) is (record { station = refl; site = refl; row = refl; limits = refl; period = refl; order = refl });
}

-- they are empty
pub new_cells_empty : (sites : List SitePlan) (stations : List StationPlan) (cells : List Cell) → AreNewCells sites stations cells → All (λ c. c.content ≡ empty_content) cells
new_cells_empty sites stations cells new k d less =
    let s = stands stations k (omega (arith, less, new.count)) in
    ap (λ (c : Cell). c.content) (get_or_from_slice_get cells k _ d (new.each k s.0 s.1))

filled_empty : (sites : List SitePlan) (stations : List StationPlan) (cells : List Cell) → length cells ≡ length stations → All (λ c. c.content ≡ empty_content) cells
    → filled (planned_world sites stations) cells ≡ planned_world sites stations
filled_empty sites [] cells count empty = refl
filled_empty sites (s ∷ stations) [] count empty = absurd (omega (arith, count))
filled_empty sites (s ∷ stations) (c ∷ cells) count empty =
    let none = λ (x : Cell). x.content ≡ empty_content in
    let rest = filled_empty sites stations cells (omega (arith, count)) (All-tail none c cells empty) in
    λ i. record (new_station s.limits (site_name sites s.site) s.name) { content = All-head none c cells empty i } ∷ rest i

-- a head with its new cells leaves them
pub head_leaves : (sites : List SitePlan) (stations : List StationPlan) (cells : List Cell) (head : List ℕ) → IsHeadOf sites stations head → AreNewCells sites stations cells
    → Leaves head sites stations cells
head_leaves sites stations cells head is new = record {
  whole = is.whole;
  shows = record {
    sites_are = is.sites_are;
    periods_are = is.periods_are;
    orders_are = is.orders_are;
    world_is = is.world_is ∙ sym (filled_empty sites stations cells new.count (new_cells_empty sites stations cells new));
  };
}
