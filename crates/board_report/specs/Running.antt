-- The board of a site of a running desk.
use Rattle.std.specs.Prelude.{◌≡◌, ℕ, List, [], map, get_or}
use Rattle.ledger_model.specs.Board.{Board, site_board}
use Rattle.board_report.{specs.Named.NamedBoard, specs.Texts.board_text}
use Rattle.site_desk.{specs.declared.plan.SitePlan.SitePlan, specs.declared.plan.StationPlan.StationPlan, specs.declared.roster.StationPlace.StationPlace, specs.Operator.AreBoardsAt, specs.Plan.{order_at, period_at}, specs.Roster.AreNewPlaces}

-- The board of a site over these stations' boards, by the site's name, length of periods and order
-- of readings: the sums of their figures, and of their periods.
abbrev pub running_site : List SitePlan → ℕ → List (List ℕ × Board) → NamedBoard
running_site sites site boards =
    let b = site_board (period_at sites site) boards in
    record { name = get_or (map (λ s. s.name) sites) site []; period = b.period; order = order_at sites site; figures = b.figures; quarters = b.quarters; stations = b.stations }

-- The text is that of the board over boards of the site's stations, each once and in the plan's
-- order. Each of these is the board of a content that accepted commands reach.
pub record IsRunningBoard (sites : List SitePlan) (places : List StationPlace) (site : ℕ) (text : List ℕ) : Type 0 where
  pub boards : List (List ℕ × Board)
  pub of_site : AreBoardsAt places site boards
  pub is : text ≡ board_text (running_site sites site boards)

-- The boards are of the stations of the site of this number, of a desk that was opened for this plan.
pub record AreBoardsOfPlan (sites : List SitePlan) (stations : List StationPlan) (site : ℕ) (boards : List (List ℕ × Board)) : Type 0 where
  pub places : List StationPlace
  pub opened : AreNewPlaces sites stations places
  pub of_site : AreBoardsAt places site boards
