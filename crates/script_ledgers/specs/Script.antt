-- The text of a script: a fold over its lines (this product's profile).
use Rattle.std.{specs.Prelude.{◌≡◌, ℕ, Bool, true, false, ◌&&◌, ◌||◌, ◌+◌, ◌==◌, nat_le, nat_lt, List, [], ◌∷◌, ◌++◌, codes, filter, get_or, slice_set, length, map, sum_by, if◌then◌else◌, Option, None, Some}, specs.List.{list_any, position}, specs.Fmt.decimal, specs.Str.bytes_eq}
use Rattle.energy_flow.specs.Flow.{Energy}
use Rattle.ledger_model.{specs.Periods.Periods, specs.declared.command.Command.Command, specs.declared.command.Command.TheVariants.Deliver, specs.declared.order.Order.Order, specs.declared.order.Order.TheVariants.Sequence, specs.Board.{Board, board_by, figures_by, site_board}, specs.Content.{empty_content, entries}, specs.Energy.energy_by, specs.Key.KeyName, specs.declared.reading.Direction.TheVariants.{Import, Export}, specs.Limits.{Bounds, default_limits}, specs.Moment.first_moment, specs.Settling.default_periods, specs.declared.settle.Settle.Settle, specs.Ranges.{most_transactions, most_events, most_readings, most_changes, most_sites, most_stations, most_plan_readings}, specs.Step.answer, specs.World.{Station, World, world_after}}
use Rattle.board_report.{specs.Named.NamedBoard, specs.Listing.{events_text, readings_text}, specs.Texts.{board_text, energy_text, export_text, total_text}}
use Rattle.transaction_event.{specs.Message.{Meaning, Event, Ready, Silence, message}, specs.Reply.event_reply_bytes}
use Rattle.script_lines.{specs.declared.script_line.LineFault.TheVariants.{DeclaredLate, PlanLimit, StationTwice, UnknownStation, UnknownSite, UnknownTransaction}, specs.declared.script_line.TxList.TxList, specs.declared.script_line.TxList.TheVariants.{Events, Readings}, specs.Lines.{Line, text_by}, specs.LineMeaning.{LineMeaning, nothing, fails, sets_limits, declares, sets_period, sets_order, sets_settle, tells, sends, delivers, commands, asks_energy, asks_export, asks_total, asks_board, lists, asks_meaning, marks, line_meaning}, specs.Texts.{ended_line, fault_line, answer_text, delivered_line, reply_line}}
use Rattle.station_ledger.{specs.Listing.listing_by, specs.declared.listing.TxListing.TxListing}

-- the state of a script: the limits of the stations that are declared next; the sites of the plan
-- so far in the order of their first mention, each with its settlement periods and the order of its
-- readings; the world: the plan's stations, with empty contents until the ledgers are opened;
-- whether the ledgers are opened; and the moment
pub record Script : Type 0 where
  pub limits : Bounds
  pub sites : List (List ℕ)
  pub periods : List Periods
  pub orders : List Order
  pub world : World
  pub opened : Bool
  pub moment : ℕ

-- the sites of a script stay the same, with their lengths of periods and their orders of readings
pub record KeepsSites (old new : Script) : Type 0 where
  pub sites : new.sites ≡ old.sites
  pub periods : new.periods ≡ old.periods
  pub orders : new.orders ≡ old.orders

-- default limits, no station, ledgers not opened, 2000-01-01T00:00:00Z
abbrev pub start : Script
start = record { limits = default_limits; sites = []; periods = []; orders = []; world = []; opened = false; moment = first_moment }

-- a station as it is declared
abbrev pub new_station : Bounds → List ℕ → List ℕ → Station
new_station bounds site name = record { site = site; name = name; limits = bounds; content = empty_content }

-- the station of this name
abbrev pub station_named : List ℕ → World → Option Station
station_named name [] = None
station_named name (s ∷ ss) = if bytes_eq name s.name then Some s else station_named name ss

-- whether the name is among these
abbrev pub is_among : List ℕ → List (List ℕ) → Bool
is_among name names = list_any (λ n. bytes_eq name n) names

-- the stations of a site, in the order of their declaration
abbrev pub stations_of : List ℕ → World → World
stations_of site w = filter (λ s. bytes_eq site s.site) w

-- `energy up=<n> down=<n>`, in milliwatt-hours
abbrev pub energy_line : Energy → List ℕ
energy_line flow = ended_line (energy_text flow)

-- `export up=<n> down=<n>`, in milliwatt-hours
abbrev pub export_line : Energy → List ℕ
export_line flow = ended_line (export_text flow)

-- each limit is in its range
abbrev pub are_limits : ℕ → ℕ → ℕ → ℕ → Bool
are_limits transactions events readings changes =
    (nat_le 1 transactions && nat_le transactions most_transactions)
    && ((nat_le 1 events && nat_le events most_events)
    && ((nat_le 1 readings && nat_le readings most_readings)
    && (nat_le 1 changes && nat_le changes most_changes)))

-- limits before the ledgers are opened: they hold for the stations that follow
abbrev pub limited_to : Script → ℕ → ℕ → ℕ → ℕ → Script × List ℕ
limited_to s transactions events readings changes =
    if are_limits transactions events readings changes
    then (record s { limits = record { transactions = transactions; events = events; readings = readings; changes = changes } }, [])
    else (s, fault_line PlanLimit)

-- the sites after this one is mentioned: a site begins at its first mention
abbrev pub sites_with : List ℕ → List (List ℕ) → List (List ℕ)
sites_with site sites = if is_among site sites then sites else sites ++ site ∷ []

-- the settlement periods of these sites, one value for each, after this site is mentioned: a new one has
-- the default
abbrev pub periods_with : List ℕ → List (List ℕ) → List Periods → List Periods
periods_with site sites periods = if is_among site sites then periods else periods ++ default_periods ∷ []

-- the orders of readings of these sites, one for each, after this site is mentioned: a new one goes by sequence
abbrev pub orders_with : List ℕ → List (List ℕ) → List Order → List Order
orders_with site sites orders = if is_among site sites then orders else orders ++ Sequence ∷ []

-- one of the four lengths of settlement periods, in seconds
abbrev pub is_period : ℕ → Bool
is_period seconds = (seconds == 300) || ((seconds == 900) || ((seconds == 1_800) || (seconds == 3_600)))

-- the number of the site of this name
abbrev pub site_number : List ℕ → List (List ℕ) → Option ℕ
site_number site sites = position (bytes_eq site) sites

-- the settlement periods of the site of this number
abbrev pub period_of : Option ℕ → List Periods → Periods
period_of None periods = default_periods
period_of (Some number) periods = get_or periods number default_periods

-- a change of the settlement periods of the site of this number, if there is one
abbrev pub settled_by : Option ℕ → Script → (Periods → Periods) → Script × List ℕ
settled_by None s change = (s, fault_line UnknownSite)
settled_by (Some number) s change = (record s { periods = slice_set s.periods number (change (get_or s.periods number default_periods)) }, [])

-- periods with this length, and periods with this rule
abbrev pub lasting : ℕ → Periods → Periods
lasting seconds p = record p { length = seconds }

abbrev pub settling : Settle → Periods → Periods
settling rule p = record p { rule = rule }

-- the length of settlement periods before the ledgers are opened: it holds for all stations of the site, declared or not
abbrev pub period_to : Script → List ℕ → ℕ → Script × List ℕ
period_to s site seconds = if is_period seconds then settled_by (site_number site s.sites) s (lasting seconds) else (s, fault_line PlanLimit)

-- the rule of settling before the ledgers are opened: it holds for all stations of the site, declared or not
abbrev pub settle_to : Script → List ℕ → Settle → Script × List ℕ
settle_to s site rule = settled_by (site_number site s.sites) s (settling rule)

-- the order of readings of the site of this number
abbrev pub order_of : Option ℕ → List Order → Order
order_of None orders = Sequence
order_of (Some number) orders = get_or orders number Sequence

-- another order of readings for the site of this number, if there is one
abbrev pub ordered_by : Option ℕ → Script → Order → Script × List ℕ
ordered_by None s order = (s, fault_line UnknownSite)
ordered_by (Some number) s order = (record s { orders = slice_set s.orders number order }, [])

-- an order of readings before the ledgers are opened: it holds for all stations of the site, declared or not
abbrev pub order_to : Script → List ℕ → Order → Script × List ℕ
order_to s site order = ordered_by (site_number site s.sites) s order

-- with one more station, of this site, a plan would have more than it may: of stations, of readings, or of
-- sites
abbrev pub is_past_plan : Script → List ℕ → Bool
is_past_plan s site =
    nat_le most_stations (length s.world)
    || (nat_lt most_plan_readings (sum_by (λ station. station.limits.readings) s.world + s.limits.readings)
    || nat_lt most_sites (length (sites_with site s.sites)))

-- one more station, if no other has its name
abbrev pub joined_by : Option Station → Script → List ℕ → List ℕ → Script × List ℕ
joined_by None s site name = (
  record s {
    sites = sites_with site s.sites;
    periods = periods_with site s.sites s.periods;
    orders = orders_with site s.sites s.orders;
    world = s.world ++ new_station s.limits site name ∷ [];
  },
  [],
)
joined_by (Some _) s site name = (s, fault_line StationTwice)

-- a declaration before the ledgers are opened
abbrev pub declared_to : Script → List ℕ → List ℕ → Script × List ℕ
declared_to s site name = if is_past_plan s site then (s, fault_line PlanLimit) else joined_by (station_named name s.world) s site name

-- an operator's command on a station
abbrev pub commanded_to : Option Station → Script → Command → Script × List ℕ
commanded_to None s command = (record s { opened = true }, fault_line UnknownStation)
commanded_to (Some station) s command =
    (record s { opened = true; world = world_after s.world (station.name, command) }, ended_line (answer_text (answer station.limits station.content command)))

-- the imported energy of a station, computed from all its events; the first argument gives each site's order of
-- readings by the site's name
abbrev pub energy_answer : (List ℕ → Order) → Option Station → List ℕ
energy_answer order None = fault_line UnknownStation
energy_answer order (Some station) = energy_line (energy_by (order station.site) Import (entries station.content))

-- the exported energy of a station, computed from all its events
abbrev pub export_answer : (List ℕ → Order) → Option Station → List ℕ
export_answer order None = fault_line UnknownStation
export_answer order (Some station) = export_line (energy_by (order station.site) Export (entries station.content))

-- the figures of a station, computed from all its events
abbrev pub total_answer : (List ℕ → Order) → Option Station → List ℕ
total_answer order None = fault_line UnknownStation
total_answer order (Some station) = ended_line (total_text (figures_by (order station.site) (entries station.content)))

-- the board of a station under its name by an order of readings and settlement periods, computed from all
-- its events
abbrev pub shown_station : Order → Periods → Station → List ℕ × Board
shown_station order period station = (station.name, board_by order period (entries station.content))

-- the board of a site by its order and its settlement periods over these stations: the sums of their
-- figures and of their periods, and their boards
abbrev pub shown_site : List ℕ → Order → Periods → World → NamedBoard
shown_site site order period stations =
    let b = site_board period (map (shown_station order period) stations) in
    record { name = site; period = b.period; order = order; figures = b.figures; quarters = b.quarters; stations = b.stations }

-- the settlement periods of the site of this name
abbrev pub period_named : Script → List ℕ → Periods
period_named s site = period_of (site_number site s.sites) s.periods

-- the order of readings of the site of this name
abbrev pub order_named : Script → List ℕ → Order
order_named s site = order_of (site_number site s.sites) s.orders

-- a list of a transaction's events or readings
abbrev pub list_text : TxList → List ℕ → List ℕ → TxListing → List ℕ
list_text Events name tx l = events_text name tx l
list_text Readings name tx l = readings_text name tx l

-- the text, if there is any event
abbrev pub if_any : {X : Type 0} → List X → List ℕ → List ℕ
if_any [] text = fault_line UnknownTransaction
if_any (e ∷ es) text = text

-- a list of a transaction, if the station has an event of it
abbrev pub listed : TxList → List ℕ → List ℕ → TxListing → List ℕ
listed what name tx l = if_any l.events (list_text what name tx l)

-- a list of a transaction of a station, computed from all its events; the first arguments give each site's order of
-- readings and settlement periods by the site's name
abbrev pub list_answer : (List ℕ → Order) → (List ℕ → Periods) → TxList → List ℕ → List ℕ → Option Station → List ℕ
list_answer order period what name tx None = fault_line UnknownStation
list_answer order period what name tx (Some station) = listed what name tx (listing_by (order station.site) (period station.site) tx (entries station.content))

-- `mark <word>`
abbrev pub mark_line : List ℕ → List ℕ
mark_line word = ended_line (codes "mark " ++ word)

-- the board of the site of this name by its order and its settlement periods, computed from all events of
-- its stations
abbrev pub board_of_site : Script → List ℕ → NamedBoard
board_of_site s site = shown_site site (order_named s site) (period_named s site) (stations_of site s.world)

-- the text of a site's board, if there is a site of this name
abbrev pub board_answer : Script → List ℕ → List ℕ
board_answer s site = if is_among site s.sites then board_text (board_of_site s site) else fault_line UnknownSite

-- a message of a station: an event is delivered; any other message has its ready answer
abbrev pub by_meaning : Meaning → Station → Script → Script × List ℕ
by_meaning (Event id request) station s =
    let command = Deliver request.key request.event in
    (record s { opened = true; world = world_after s.world (station.name, command) }, ended_line (event_reply_bytes id request.token (answer station.limits station.content command)))
by_meaning (Ready reply) station s = (record s { opened = true }, ended_line reply)
by_meaning Silence station s = (record s { opened = true }, ended_line (codes "silent"))

-- the text is read at the script's moment
abbrev pub sent_to : Option Station → Script → List ℕ → Script × List ℕ
sent_to None s text = (record s { opened = true }, fault_line UnknownStation)
sent_to (Some station) s text = by_meaning (message text s.moment) station s

-- a message of a station with what becomes of it: of an event its answer and then the reply; of any other message that
-- it has this ready reply, or none
abbrev pub told_by : Meaning → Station → Script → Script × List ℕ
told_by (Event id request) station s =
    let command = Deliver request.key request.event in
    let answered = answer station.limits station.content command in
    (record s { opened = true; world = world_after s.world (station.name, command) }, delivered_line answered (event_reply_bytes id request.token answered))
told_by (Ready reply) station s = (record s { opened = true }, reply_line reply)
told_by Silence station s = (record s { opened = true }, ended_line (codes "silent"))

-- the text is read at the script's moment
abbrev pub delivered_to : Option Station → Script → List ℕ → Script × List ℕ
delivered_to None s text = (record s { opened = true }, fault_line UnknownStation)
delivered_to (Some station) s text = told_by (message text s.moment) station s

-- `event <transaction> <seqNo>`, with the transaction's id as boards show it
abbrev pub event_line : KeyName → List ℕ
event_line key = ended_line (codes "event " ++ (key.tx ++ (32 ∷ decimal key.seq)))

-- what a message of this meaning asks for: its event's key, `reply <reply>` or `silent`
abbrev pub asked_line : Meaning → List ℕ
asked_line (Event id request) = event_line request.key
asked_line (Ready reply) = reply_line reply
asked_line Silence = ended_line (codes "silent")

-- what a line does: the state that it leaves, and its text
abbrev pub step_by : Script → LineMeaning → Script × List ℕ
step_by s nothing = (s, [])
step_by s (fails fault) = (s, fault_line fault)
step_by s (sets_limits transactions events readings changes) = if s.opened then (s, fault_line DeclaredLate) else limited_to s transactions events readings changes
step_by s (declares site name) = if s.opened then (s, fault_line DeclaredLate) else declared_to s site name
step_by s (sets_period site seconds) = if s.opened then (s, fault_line DeclaredLate) else period_to s site seconds
step_by s (sets_order site order) = if s.opened then (s, fault_line DeclaredLate) else order_to s site order
step_by s (sets_settle site rule) = if s.opened then (s, fault_line DeclaredLate) else settle_to s site rule
step_by s (tells nanos) = (record s { moment = nanos }, [])
step_by s (sends name text) = sent_to (station_named name s.world) s text
step_by s (delivers name text) = delivered_to (station_named name s.world) s text
step_by s (commands name command) = commanded_to (station_named name s.world) s command
step_by s (asks_energy name) = (record s { opened = true }, energy_answer (order_named s) (station_named name s.world))
step_by s (asks_export name) = (record s { opened = true }, export_answer (order_named s) (station_named name s.world))
step_by s (asks_total name) = (record s { opened = true }, total_answer (order_named s) (station_named name s.world))
step_by s (asks_board site) = (record s { opened = true }, board_answer s site)
step_by s (lists what name tx) = (record s { opened = true }, list_answer (order_named s) (period_named s) what name tx (station_named name s.world))
step_by s (asks_meaning text) = (s, asked_line (message text s.moment))
step_by s (marks word) = (s, mark_line word)

-- the same for a line's bytes
abbrev pub line_step : Script → Line → Script × List ℕ
line_step s line = step_by s (line_meaning line)

-- the text that answers lines from here on
abbrev pub script_text : Script → List Line → List ℕ
script_text = text_by line_step

-- the state of a script after these lines
abbrev pub script_after : Script → List Line → Script
script_after s [] = s
script_after s (line ∷ lines) = script_after (line_step s line).0 lines

-- whether a line opens the ledgers
abbrev pub opening : LineMeaning → Bool
opening nothing = false
opening (fails _) = false
opening (sets_limits _ _ _ _) = false
opening (declares _ _) = false
opening (sets_period _ _) = false
opening (sets_order _ _) = false
opening (sets_settle _ _) = false
opening (tells _) = false
opening (sends _ _) = true
opening (delivers _ _) = true
opening (commands _ _) = true
opening (asks_energy _) = true
opening (asks_export _) = true
opening (asks_total _) = true
opening (asks_board _) = true
opening (lists _ _ _) = true
opening (asks_meaning _) = false
opening (marks _) = false

-- the script with its ledgers opened
abbrev pub opened_script : Script → Script
opened_script s = record s { opened = true }

-- the script with its ledgers opened, if a line of this meaning opens them
abbrev pub opened_for : LineMeaning → Script → Script
opened_for meaning s = if opening meaning then opened_script s else s
