-- The boards of a desk that was closed.
use Rattle.std.specs.Prelude.{◌≡◌, ℕ, zero, suc, List, [], ◌++◌, length, map, slice_get, get_or, Some}
use Rattle.ledger_model.specs.Board.{site_board}
use Rattle.board_report.{specs.Named.NamedBoard, specs.Texts.board_text, specs.Boards.{AreOpenedFor, site_boards}}
use Rattle.site_desk.{specs.declared.plan.SitePlan.SitePlan, specs.declared.plan.StationPlan.StationPlan, specs.Plan.{order_at, period_at}, specs.Close.{AreSummed, Ended}, specs.Cell.Cell}

-- A closed desk of these sites and stations: each site has its book, each station its cell at its site, and each book's
-- totals are the sums over its site's cells.
pub record IsClosedOf (sites : List SitePlan) (stations : List StationPlan) (closed : Ended) : Type 0 where
  pub books : length closed.books ≡ length sites
  pub cells : AreOpenedFor sites stations closed.cells
  pub at_sites : (k : ℕ) (s : StationPlan) (c : Cell) → slice_get stations k ≡ Some s → slice_get closed.cells k ≡ Some c → c.site ≡ s.site
  pub summed : AreSummed closed.cells closed.books

-- The board of the site of this number, from scratch, by the site's length of periods and order of
-- readings: its stations' boards, the sums of their figures, and the sums of their periods.
abbrev pub closed_site : List SitePlan → List StationPlan → List Cell → ℕ → NamedBoard
closed_site sites stations cells site =
    let b = site_board (period_at sites site) (site_boards sites stations cells site) in
    record { name = get_or (map (λ s. s.name) sites) site []; period = b.period; order = order_at sites site; figures = b.figures; quarters = b.quarters; stations = b.stations }

-- The texts of the boards of the first so many sites, in the plan's order.
abbrev pub boards_text : List SitePlan → List StationPlan → List Cell → ℕ → List ℕ
boards_text sites stations cells zero = []
boards_text sites stations cells (suc site) = boards_text sites stations cells site ++ board_text (closed_site sites stations cells site)
