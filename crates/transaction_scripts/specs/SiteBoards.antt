-- The board of a site, put together from what scripts with one of its transactions each show.
use Rattle.std.{specs.Prelude.{◌≡◌, ℕ, true, List, [], ◌∷◌, map, Some, if◌then◌else◌}, specs.Str.bytes_eq}
use Rattle.board_report.specs.Named.{NamedBoard}
use Rattle.ledger_model.{specs.Board.{Board, board_by, sum_of_figures}, specs.declared.figures.Figures.Figures, specs.World.Station}
use Rattle.script_ledgers.specs.Script.{Script, board_of_site, order_named, period_named, station_named, stations_of}
use Rattle.transaction_laws.{specs.BoardSums.transactions, specs.SiteSums.{StationBoards, sum_of_stations}}
use Rattle.transaction_scripts.{specs.AnyPlan.HasAlone, specs.LoneBytes.{end_of_script, lone_script}}

-- The board of the station of this name among those that a site's board shows; without one, the board given.
abbrev pub station_shown : Board → List ℕ → List (List ℕ × Board) → Board
station_shown board name [] = board
station_shown board name (shown ∷ more) = if bytes_eq name shown.0 then shown.1 else station_shown board name more

-- The board of a station that a script in this state shows on the board of a site.
abbrev pub shown_on_site : List ℕ → List ℕ → Script → Board
shown_on_site site name s = let shown = board_of_site s site in station_shown (board_by shown.order shown.period []) name shown.stations

-- For each transaction of a station, a script.
abbrev pub ScriptEach : Type 0
ScriptEach = Station → List ℕ → Script

-- A station of the site with the boards of its transactions: of each, what its script shows of the station on the board
-- of the site.
abbrev pub boards_shown : ScriptEach → List ℕ → Station → StationBoards
boards_shown each site station = (station.name, map (λ tx. shown_on_site site station.name (each station tx)) (transactions station.content))

-- The sum of the figures that the scripts of a station's transactions show of it.
abbrev pub figures_together : ScriptEach → Station → Figures
figures_together each station = sum_of_figures (map (λ b. b.figures) (boards_shown each station.site station).1)

-- The board of a site put together from these: the sums of all figures and of the energies of each period, and each
-- station with the sum of its own.
abbrev pub board_together : ScriptEach → List ℕ → Script → NamedBoard
board_together each site s =
    let together = sum_of_stations (period_named s site) (map (boards_shown each site) (stations_of site s.world)) in
    record {
      name = site;
      period = together.period;
      order = order_named s site;
      figures = together.figures;
      quarters = together.quarters;
      stations = together.stations;
    }

-- For each transaction of a station, what the script of its lines alone leaves.
abbrev pub lone_scripts : ℕ → List ℕ → ScriptEach
lone_scripts max_line_bytes bytes station tx = end_of_script max_line_bytes (lone_script max_line_bytes station.name tx bytes)

-- Each of the scripts has its transaction of a station of the site as the whole has it.
abbrev pub EachHasAlone : ScriptEach → List ℕ → Script → Type 0
EachHasAlone each site s =
    (station : Station) (tx : List ℕ) → station_named station.name s.world ≡ Some station → bytes_eq site station.site ≡ true → (n : ℕ) × HasAlone station.name tx n s (each station tx)
