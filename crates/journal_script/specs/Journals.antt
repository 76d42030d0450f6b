-- The contents of stations after a journal's text, read as a script behind another one.
use Rattle.std.specs.Prelude.{◌≡◌, ℕ, ◌<◌, false, List, [], ◌∷◌, ◌++◌, ◌⊎◌, All, get_or, length, map, Some, slice_get}
use Rattle.board_report.{specs.Texts.board_text, specs.Closed.closed_site}
use Rattle.kept_desk.{specs.declared.entry.Entry.Entry, specs.Entries.{IsNote, of_station, text_of}, specs.Speaking.Speaks}
use Rattle.ledger_model.{specs.declared.command.Command.Command, specs.Laws.left_by}
use Rattle.script_lines.{specs.LineMeaning.{asks_board, line_meaning}, specs.Lines.{Line, lines_of}, specs.Ranges.longest_line}
use Rattle.script_ledgers.{specs.Drafts.{planned_world, site_name}, specs.Running.filled, specs.Script.{Script, line_step, start, script_after}}
use Rattle.site_desk.{specs.declared.plan.SitePlan.SitePlan, specs.declared.plan.StationPlan.StationPlan, specs.Plan.has_twice, specs.Cell.Cell}

-- The name of the station of this number.
abbrev pub station_name : List StationPlan → ℕ → List ℕ
station_name stations k = get_or (map (λ s. s.name) stations) k []

-- The entry belongs to one of these stations, its line asks for its command on that station, and in
-- front of the line is nothing or a comment.
pub record IsSpoken (stations : List StationPlan) (e : Entry) : Type 0 where
  pub there : e.station < length stations
  pub speaks : Speaks (station_name stations e.station) e.line e.command
  pub noted : IsNote e.note

-- The commands of entries, in their order.
abbrev pub commands_of : List Entry → List Command
commands_of es = map (λ e. e.command) es

-- There are no bytes, or they end with a line feed.
abbrev pub EndsWhole : List ℕ → Type 0
EndsWhole bytes = (bytes ≡ []) ⊎ ((front : List ℕ) × (bytes ≡ front ++ 10 ∷ []))

-- Each name of a plan is there once, and each station is at one of its sites.
pub record HasOnce (sites : List SitePlan) (stations : List StationPlan) : Type 0 where
  pub sites_once : has_twice (map (λ s. s.name) sites) ≡ false
  pub stations_once : has_twice (map (λ s. s.name) stations) ≡ false
  pub placed : All (λ s. s.site < length sites) stations

-- A script has the sites and stations of a plan, and the stations have the contents of these cells.
pub record Shows (s : Script) (sites : List SitePlan) (stations : List StationPlan) (cells : List Cell) : Type 0 where
  pub sites_are : s.sites ≡ map (λ x. x.name) sites
  pub periods_are : s.periods ≡ map (λ x. x.period) sites
  pub orders_are : s.orders ≡ map (λ x. x.order) sites
  pub world_is : s.world ≡ filled (planned_world sites stations) cells

-- The commands of each station's own entries, one after the other, lead from its first content to this one.
pub record AreLeft (stations : List StationPlan) (firsts cells : List Cell) (log : List Entry) : Type 0 where
  pub count_first : length firsts ≡ length stations
  pub count : length cells ≡ length stations
  pub left : (k : ℕ) (s : StationPlan) (f c : Cell) → slice_get stations k ≡ Some s → slice_get firsts k ≡ Some f
      → slice_get cells k ≡ Some c → left_by s.limits f.content (commands_of (of_station k log)) ≡ c.content

-- If a script ends with a plan's stations in these contents and a journal's text is written behind
-- it, the longer script ends with the contents to which the journal's entries lead, each station's
-- own. So one script says all that the stations hold.
abbrev pub JournalsAreScripts : Type 0
JournalsAreScripts = (read : List ℕ) (sites : List SitePlan) (stations : List StationPlan) (firsts cells : List Cell) (log : List Entry)
    → EndsWhole read → HasOnce sites stations → Shows (script_after start (lines_of longest_line read)) sites stations firsts
    → All (IsSpoken stations) log → AreLeft stations firsts cells log
    → Shows (script_after start (lines_of longest_line (read ++ text_of log))) sites stations cells

-- A script that has a plan's stations in the contents of a desk's cells answers the question for a
-- site's board with the text of that desk's board.
abbrev pub BoardsAreThoseOfCells : Type 0
BoardsAreThoseOfCells = (s : Script) (sites : List SitePlan) (stations : List StationPlan) (cells : List Cell) (site : ℕ) (line : Line)
    → HasOnce sites stations → Shows s sites stations cells → site < length sites → line_meaning line ≡ asks_board (site_name sites site)
    → (line_step s line).1 ≡ board_text (closed_site sites stations cells site)
