-- The boards of one plan: the sums of their settlement periods.
use Rattle.std.specs.Prelude.{◌≡◌, ◌≤◌, ℕ, List, [], ◌∷◌, sum_by}
use Rattle.ledger_model.{specs.declared.order.Order.Order, specs.Board.{Board, board_by}, specs.Content.Entry, specs.Figures.AreWithin, specs.Limits.Bounds, specs.Ranges.most_plan_readings}
use Rattle.board_report.specs.Sums.{station_quarters, QuartersFit}

-- A board is that of a station's events, by its own length of periods and in one of the orders of
-- readings, and its figures are within the station's limits.
pub record IsBoardWithin (limits : Bounds) (shown : Board) : Type 0 where
  pub entries : List Entry
  pub order : Order
  pub is : shown ≡ board_by order shown.period entries
  pub within : AreWithin limits shown.figures

-- As many boards as limits, each within the limits at its position.
abbrev pub AreBoardsWithin : List Bounds → List (List ℕ × Board) → Type 0
AreBoardsWithin [] [] = Unit {0}
AreBoardsWithin [] (s ∷ stations) = ⊥
AreBoardsWithin (limits ∷ plan) [] = ⊥
AreBoardsWithin (limits ∷ plan) (s ∷ stations) = IsBoardWithin limits s.1 × AreBoardsWithin plan stations

-- The sums of each period fit for the boards of each plan if its stations store no more readings in all than a
-- plan may have.
abbrev pub PlansFit : Type 0
PlansFit = (plan : List Bounds) (stations : List (List ℕ × Board)) → sum_by (λ limits. limits.readings) plan ≤ most_plan_readings
    → AreBoardsWithin plan stations → QuartersFit (station_quarters stations)
