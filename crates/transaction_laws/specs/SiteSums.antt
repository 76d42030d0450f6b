-- The board of a site as the sum of the boards of its stations' transactions.
use Rattle.std.{specs.Prelude.{ℕ, List, map}, specs.List.flat_map}
use Rattle.ledger_model.{specs.Board.{Board, SiteBoard, sum_of_figures}, specs.declared.order.Order.Order, specs.Periods.Periods, specs.World.Station}
use Rattle.transaction_laws.specs.BoardSums.{added_up, board_alone, sum_of_boards, transactions}

-- A station of a site: its name, and the board of each of its transactions.
abbrev pub StationBoards : Type 0
StationBoards = List ℕ × List Board

-- A station under its name, with the sum of these boards.
abbrev pub station_sum : Periods → StationBoards → List ℕ × Board
station_sum period station = (station.0, sum_of_boards period station.1)

-- The board of a site that has these settlement periods, put together from the boards of its stations' transactions: the
-- sums of all their figures and of the energies of each period, and each station with the sum of its own, in the order of
-- declaration.
abbrev pub sum_of_stations : Periods → List StationBoards → SiteBoard
sum_of_stations period stations =
    let boards = flat_map (λ (station : StationBoards). station.1) stations in
    record {
      period = period;
      figures = sum_of_figures (map (λ b. b.figures) boards);
      quarters = added_up (flat_map (λ b. b.quarters) boards);
      stations = map (station_sum period) stations;
    }

-- A station with the board of each of its transactions alone.
abbrev pub boards_alone : Order → Periods → Station → StationBoards
boards_alone order period station = (station.name, map (board_alone order period station.content) (transactions station.content))
