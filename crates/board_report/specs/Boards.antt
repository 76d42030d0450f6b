-- The stations of a site, by a plan and its cells, and the board that they make.
use Rattle.std.specs.Prelude.{◌≡◌, ◌==◌, ℕ, List, [], ◌∷◌, if◌then◌else◌, length, Some, slice_get}
use Rattle.ledger_model.{specs.Periods.Periods, specs.declared.figures.Figures.Figures, specs.declared.order.Order.Order, specs.Board.{Board, board_by, site_board}, specs.Content.entries}
use Rattle.board_report.specs.Named.{NamedBoard}
use Rattle.site_desk.{specs.declared.plan.SitePlan.SitePlan, specs.declared.plan.StationPlan.StationPlan, specs.Plan.{order_at, period_at}, specs.Cell.Cell}

-- Each station has its cell, opened with its limits and with its site's length of periods and order of
-- readings.
pub record AreOpenedFor (sites : List SitePlan) (stations : List StationPlan) (cells : List Cell) : Type 0 where
  pub count : length cells ≡ length stations
  pub limits : (k : ℕ) (s : StationPlan) (c : Cell) → slice_get stations k ≡ Some s → slice_get cells k ≡ Some c → c.limits ≡ s.limits
  pub periods : (k : ℕ) (s : StationPlan) (c : Cell) → slice_get stations k ≡ Some s → slice_get cells k ≡ Some c → c.period ≡ period_at sites s.site
  pub orders : (k : ℕ) (s : StationPlan) (c : Cell) → slice_get stations k ≡ Some s → slice_get cells k ≡ Some c → c.order ≡ order_at sites s.site

-- The boards of the stations of the site of this number, by the stations' names, each from scratch
-- from its cell's content, in this order of readings and with periods of this length.
abbrev pub boards_at : Order → Periods → List StationPlan → List Cell → ℕ → List (List ℕ × Board)
boards_at order period [] cells site = []
boards_at order period (s ∷ stations) [] site = []
boards_at order period (s ∷ stations) (c ∷ cells) site =
    if s.site == site then (s.name, board_by order period (entries c.content)) ∷ boards_at order period stations cells site else boards_at order period stations cells site

-- The boards of the stations of the site of this number, with the site's own length of periods and order of readings.
abbrev pub site_boards : List SitePlan → List StationPlan → List Cell → ℕ → List (List ℕ × Board)
site_boards sites stations cells site = boards_at (order_at sites site) (period_at sites site) stations cells site

-- The board of a site over its stations' boards, under its name, with this length of periods, this
-- order of readings and these totals; its periods have the sums over the stations.
abbrev pub site_named : List ℕ → Periods → Order → Figures → List (List ℕ × Board) → NamedBoard
site_named name period order totals stations = record { name = name; period = period; order = order; figures = totals; quarters = (site_board period stations).quarters; stations = stations }

-- The board of the site of this number over the cells of its stations, under this name and with
-- these totals: with the site's length of periods and order of readings.
abbrev pub site_under : List SitePlan → List StationPlan → List Cell → ℕ → List ℕ → Figures → NamedBoard
site_under sites stations cells site name totals = site_named name (period_at sites site) (order_at sites site) totals (site_boards sites stations cells site)
