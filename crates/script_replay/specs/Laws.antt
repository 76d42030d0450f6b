-- What the text of a script means, in the subject's own words.
use Rattle.std.{specs.Prelude.{◌≡◌, ℕ, ◌==◌, true, List, [], ◌∷◌, ◌++◌, ⊤, All, filter, map, Option, None, Some, IsPermutation}, specs.List.flat_map}
use Rattle.ledger_model.{specs.Periods.Periods, specs.declared.command.Command.Command, specs.declared.command.Command.TheVariants.Deliver, specs.declared.order.Order.Order, specs.Board.figures_by, specs.BoardLaws.{AreSums, sum_of_energies}, specs.Content.{Entry, empty_content, entries, live, transactions_of}, specs.Parts.energy_of_parts, specs.declared.reading.Direction.Direction, specs.declared.reading.Direction.TheVariants.{Import, Export}, specs.ByDirection.in_each, specs.declared.by_direction.ByDirection.ByDirection, specs.Energy.{Pair, energy_by, energy_in_by, energy_over, followed, parts_over}, specs.Laws.IsAccepted, specs.Step.{Reached, answer}, specs.World.{Station, World, Happens, run}, specs.WorldLaws.{accepted_deliveries, commands_on}}
use Rattle.energy_flow.specs.Flow.{Energy}
use Rattle.board_report.specs.Texts.{board_text, total_text}
use Rattle.transaction_event.specs.Message.{Meaning, Event, Ready, Silence, message}
use Rattle.script_lines.{specs.declared.script_line.LineFault.LineFault, specs.declared.script_line.TxList.TxList, specs.Lines.{Line, lines_of}, specs.Texts.{ended_line, fault_line}, specs.LineMeaning.{LineMeaning, nothing, fails, sets_limits, declares, sets_period, sets_order, sets_settle, tells, sends, delivers, commands, asks_energy, asks_export, asks_total, asks_board, lists, asks_meaning, marks, line_meaning}}
use Rattle.reading_index.specs.declared.placed.PlacedReading.{PlacedReading}
use Rattle.station_ledger.specs.Listing.{listing_by, placed_by}
use Rattle.script_ledgers.specs.Script.{KeepsSites, Script, start, line_step, script_text, script_after, station_named, stations_of, is_among, energy_line, export_line, listed, order_named, period_named, shown_site}

-- the text of no bytes is empty
abbrev pub AnEmptyScriptWritesNothing : Type 0
AnEmptyScriptWritesNothing = (max_line_bytes : ℕ) → script_text start (lines_of max_line_bytes []) ≡ []

-- after a line with a fault as its text, the plan, all contents and the moment are as they were; it may have opened the
-- ledgers
abbrev pub FaultsChangeNothing : Type 0
FaultsChangeNothing = (s : Script) (line : Line) (fault : LineFault) → (line_step s line).1 ≡ fault_line fault
    → (line_step s line).0 ≡ record s { opened = (line_step s line).0.opened }

-- after any lines, as many admissible commands as a station's content counts, each accepted, lead
-- from the empty content to it
abbrev pub StationsAreReached : Type 0
StationsAreReached = (lines : List Line) (name : List ℕ) (station : Station) → station_named name (script_after start lines).world ≡ Some station
    → Reached station.limits station.content.changes station.content

-- after any lines, the answer to a question for a station's energy is the imported energy of its events that are
-- accepted and not voided, computed from all of them in its site's order of readings
abbrev pub EnergyIsFromScratch : Type 0
EnergyIsFromScratch = (lines : List Line) (line : Line) (name : List ℕ) (station : Station) → line_meaning line ≡ asks_energy name
    → station_named name (script_after start lines).world ≡ Some station
    → (line_step (script_after start lines) line).1 ≡ energy_line (energy_by (order_named (script_after start lines) station.site) Import (entries station.content))

-- and the answer to a question for a station's exported energy is the exported energy of these events in that
-- order
abbrev pub ExportIsFromScratch : Type 0
ExportIsFromScratch = (lines : List Line) (line : Line) (name : List ℕ) (station : Station) → line_meaning line ≡ asks_export name
    → station_named name (script_after start lines).world ≡ Some station
    → (line_step (script_after start lines) line).1 ≡ export_line (energy_by (order_named (script_after start lines) station.site) Export (entries station.content))

-- after any lines, the answer to a question for a station's total is its figures, computed from all its events in its
-- site's order of readings
abbrev pub TotalsAreFromScratch : Type 0
TotalsAreFromScratch = (lines : List Line) (line : Line) (name : List ℕ) (station : Station) → line_meaning line ≡ asks_total name
    → station_named name (script_after start lines).world ≡ Some station
    → (line_step (script_after start lines) line).1 ≡ ended_line (total_text (figures_by (order_named (script_after start lines) station.site) (entries station.content)))

-- after any lines, the answer to `events` or `readings` is the list of the transaction, computed from all events of its
-- station in its site's order of readings and settlement periods
abbrev pub ListsAreFromScratch : Type 0
ListsAreFromScratch = (lines : List Line) (line : Line) (what : TxList) (name tx : List ℕ) (station : Station) → line_meaning line ≡ lists what name tx
    → station_named name (script_after start lines).world ≡ Some station
    → (line_step (script_after start lines) line).1
    ≡ listed what name tx (listing_by (order_named (script_after start lines) station.site) (period_named (script_after start lines) station.site) tx (entries station.content))

-- the pairs that a list of readings shows in a direction: each reading with the one behind it
abbrev pub listed_pairs : List PlacedReading → List Pair
listed_pairs rs = followed (map (λ r. r.reading) rs)

-- the energies in the heading of a list of readings are those of the pairs that it shows
abbrev pub ListedPairsMakeEnergies : Type 0
ListedPairsMakeEnergies = (order : Order) (period : Periods) (tx : List ℕ) (es : List Entry) →
    let l = listing_by order period tx es in l.energy ≡ record { import = energy_over (listed_pairs l.imported); export = energy_over (listed_pairs l.exported) }

-- the energy of a period of a station is that of the parts of the period in the lists of its transactions: each part is
-- in one of them
abbrev pub ListedPartsMakePeriods : Type 0
ListedPartsMakePeriods = (order : Order) (period : Periods) (d : Direction) (quarter : ℕ) (es : List Entry)
    → energy_in_by order d period quarter es ≡ energy_of_parts (filter (λ t. t.0 == quarter) (flat_map (λ tx. parts_over period (listed_pairs (placed_by order d tx es))) (transactions_of (live es))))

-- after any lines, the answer to a question for a site's board is the board of its stations by its
-- order of readings and its length of periods, each computed from all its events
abbrev pub BoardsAreFromScratch : Type 0
BoardsAreFromScratch = (lines : List Line) (line : Line) (site : List ℕ) → line_meaning line ≡ asks_board site
    → is_among site (script_after start lines).sites ≡ true
    → (line_step (script_after start lines) line).1
    ≡ board_text (shown_site site (order_named (script_after start lines) site) (period_named (script_after start lines) site) (stations_of site (script_after start lines).world))

-- the imported and exported energies of stations in a period, in an order of readings, added up
abbrev pub sums_in : Order → Periods → ℕ → World → ByDirection Energy
sums_in order period quarter stations = in_each (λ d. sum_of_energies (map (λ s. energy_in_by order d period quarter (entries s.content)) stations))

-- the figures of a site are the sums over these stations; so are the energies of each period that
-- it shows, whatever the order of readings and the length of periods
pub record AreSitesSums (site : List ℕ) (order : Order) (period : Periods) (stations : World) : Type 0 where
  pub figures_are : AreSums (shown_site site order period stations).figures (map (λ s. figures_by order (entries s.content)) stations)
  pub quarters_are : All (λ line. line.1 ≡ sums_in order period line.0 stations) (shown_site site order period stations).quarters

-- the board of each site shows the sums over its stations
abbrev pub SitesAreSums : Type 0
SitesAreSums = (site : List ℕ) (order : Order) (period : Periods) (stations : World) → AreSitesSums site order period stations

-- the command to the station that a message of this meaning asks for
abbrev pub asked_by : Meaning → Station → List Happens
asked_by (Event id request) station = (station.name, Deliver request.key request.event) ∷ []
asked_by (Ready reply) station = []
asked_by Silence station = []

-- the same for a message to the station of a name, if there is one
abbrev pub sent_by : Option Station → List ℕ → ℕ → List Happens
sent_by None text moment = []
sent_by (Some station) text moment = asked_by (message text moment) station

-- the command on the station of a name, if there is one
abbrev pub commanded_by : Option Station → Command → List Happens
commanded_by None command = []
commanded_by (Some station) command = (station.name, command) ∷ []

-- the command that a line asks for, if it does
abbrev pub asked_of : Script → LineMeaning → List Happens
asked_of s nothing = []
asked_of s (fails _) = []
asked_of s (sets_limits _ _ _ _) = []
asked_of s (declares _ _) = []
asked_of s (sets_period _ _) = []
asked_of s (sets_order _ _) = []
asked_of s (sets_settle _ _) = []
asked_of s (tells _) = []
asked_of s (sends name text) = sent_by (station_named name s.world) text s.moment
asked_of s (delivers name text) = sent_by (station_named name s.world) text s.moment
asked_of s (commands name command) = commanded_by (station_named name s.world) command
asked_of s (asks_energy _) = []
asked_of s (asks_export _) = []
asked_of s (asks_total _) = []
asked_of s (asks_board _) = []
asked_of s (lists _ _ _) = []
asked_of s (asks_meaning _) = []
asked_of s (marks _) = []

-- all commands that these lines ask for, in their order
abbrev pub happened : Script → List Line → List Happens
happened s [] = []
happened s (line ∷ lines) = asked_of s (line_meaning line) ++ happened (line_step s line).0 lines

-- the stations without any event
abbrev pub emptied : World → World
emptied w = map (λ (s : Station). record s { content = empty_content }) w

-- the world after any lines is that after a run of just the commands that they ask for, beginning with the plan's
-- stations without events
abbrev pub WorldsAreRuns : Type 0
WorldsAreRuns = (lines : List Line) → (script_after start lines).world ≡ run (emptied (script_after start lines).world) (happened start lines)

-- whatever lines came before, a line that asks for a command which is a repeat or is refused
-- changes no station, and so no board, total or energy
abbrev pub UnacceptedChangesNothing : Type 0
UnacceptedChangesNothing = (lines : List Line) (line : Line) (name : List ℕ) (station : Station) (command : Command)
    → asked_of (script_after start lines) (line_meaning line) ≡ (name, command) ∷ []
    → station_named name (script_after start lines).world ≡ Some station → ¬ (IsAccepted (answer station.limits station.content command))
    → ((line_step (script_after start lines) line).0.world ≡ (script_after start lines).world) × KeepsSites (script_after start lines) (line_step (script_after start lines) line).0

-- no line voids, restores or erases
abbrev pub IsNoOperation : LineMeaning → Type 0
IsNoOperation (commands _ _) = ⊥
IsNoOperation _ = ⊤

-- two scripts have the same declarations, no void, restoration or erasure, and, station by station,
-- the same accepted deliveries in another order
pub record AreSameDeliveries (one other : List Line) : Type 0 where
  pub sites : (script_after start one).sites ≡ (script_after start other).sites
  pub periods : (script_after start one).periods ≡ (script_after start other).periods
  pub orders : (script_after start one).orders ≡ (script_after start other).orders
  pub stations : emptied (script_after start one).world ≡ emptied (script_after start other).world
  pub one_delivers : All (λ line. IsNoOperation (line_meaning line)) one
  pub other_delivers : All (λ line. IsNoOperation (line_meaning line)) other
  pub deliveries : All (λ s. IsPermutation (accepted_deliveries s.limits s.content (commands_on s.name (happened start one)))
      (accepted_deliveries s.limits s.content (commands_on s.name (happened start other))))
      (emptied (script_after start one).world)

-- such scripts have the same boards
abbrev pub OrderChangesNoBoard : Type 0
OrderChangesNoBoard = (one other : List Line) → AreSameDeliveries one other
    → (line : Line) (site : List ℕ) → line_meaning line ≡ asks_board site → (line_step (script_after start one) line).1 ≡ (line_step (script_after start other) line).1
