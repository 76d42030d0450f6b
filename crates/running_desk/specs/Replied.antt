-- The answer to an operator's line: a replay's answer to the same line when it has the desk's stations.
use Rattle.std.{specs.Prelude.{◌≡◌, ◌⊎◌, ◌<◌, ℕ, ⊤, Bool, false, List, [], Option, None, Some, codes}, specs.List.{list_any, position}, specs.Str.bytes_eq}
use Rattle.ledger_model.{specs.declared.answer.Answer.Answer, specs.declared.answer.Answer.TheVariants.Refused, specs.declared.answer.Refusal.TheVariants.ChangesExhausted, specs.declared.command.Command.Command, specs.declared.order.Order.Order, specs.declared.order.Order.TheVariants.Sequence, specs.Board.Board, specs.Periods.Periods, specs.Settling.default_periods, specs.Step.Reached, specs.World.Station}
use Rattle.ledger_model.specs.declared.figures.Figures as figures
use Rattle.board_report.{specs.Texts.{board_text, total_text}, specs.Running.running_site}
use Rattle.energy_flow.specs.Flow.{Energy}
use Rattle.running_desk.{specs.declared.operator.WhichTotals.WhichTotals, specs.declared.operator.WhichTotals.TheVariants.{Figures, Import, Export}}
use Rattle.ocppj_frame.specs.Frame.{frame}
use Rattle.script_ledgers.{specs.declared.detail.Detail.Detail, specs.declared.detail.Detail.TheVariants.{Outcome, Reply}, specs.Detail.{event_text, message_text, message_to, ready_text}, specs.Script.{asked_line, commanded_to, energy_answer, energy_line, export_answer, export_line, list_answer, mark_line, start, total_answer}}
use Rattle.script_lines.{specs.declared.script_line.TxList.TxList, specs.declared.script_line.LineFault.TheVariants.{BadLine, DeclaredLate, UnknownSite, UnknownStation}, specs.LineMeaning.{LineMeaning, nothing, fails, sets_limits, declares, sets_period, sets_order, sets_settle, tells, sends, delivers, commands, asks_energy, asks_export, asks_total, asks_board, lists, asks_meaning, marks}, specs.Texts.{answer_text, ended_line, fault_line}}
use Rattle.site_desk.{specs.declared.plan.SitePlan.SitePlan, specs.declared.roster.StationPlace.StationPlace, specs.Operator.AreBoardsAt, specs.Roster.IsNamed, specs.Cell.Held}
use Rattle.station_link.specs.Answer.{IsSettled, Outcomes}
use Rattle.transaction_event.{specs.Message.{Meaning, Event, Ready, Silence, message}, specs.MessageMeaning.IsMemoryReply, specs.Reply.event_reply_bytes}

-- A replay may have this station under the name: the desk has a station of the name with these
-- limits, and some accepted commands lead to its content.
pub record IsStationOf (places : List StationPlace) (name : List ℕ) (s : Station) : Type 0 where
  pub number : ℕ
  pub named : IsNamed places name number
  pub called : s.name ≡ name
  pub limits : s.limits ≡ named.place.limits
  pub changes : ℕ
  pub reached : Reached s.limits changes s.content

-- What a replay may have under the name: one of these stations, or no station if the desk has none
-- of the name.
abbrev pub MayStand : List StationPlace → List ℕ → Option Station → Type 0
MayStand places name None = list_any (λ p. bytes_eq name p.name) places ≡ false
MayStand places name (Some s) = IsStationOf places name s

-- The text is a replay's answer to a line that names a station.
pub record IsOf (places : List StationPlace) (name : List ℕ) (answer : Option Station → List ℕ) (text : List ℕ) : Type 0 where
  pub station : Option Station
  pub stands : MayStand places name station
  pub is : text ≡ answer station

-- What is behind a lock is not as it should be, which no run meets.
abbrev pub torn : List ℕ
torn = ended_line (codes "fault Torn")

-- The totals of a station that a line asks for, with its readings in this order.
abbrev pub asked_answer : WhichTotals → Order → Option Station → List ℕ
asked_answer Figures order station = total_answer (λ _. order) station
asked_answer Import order station = energy_answer (λ _. order) station
asked_answer Export order station = export_answer (λ _. order) station

-- The order of readings of the station that a replay may have under the name: that of the station's
-- place; by sequence if there is no station.
abbrev pub order_under : (places : List StationPlace) (name : List ℕ) (station : Option Station) → MayStand places name station → Order
order_under places name None none = Sequence
order_under places name (Some s) stands = stands.named.place.order

-- The settlement periods of that station; the default if there is no station.
abbrev pub period_under : (places : List StationPlace) (name : List ℕ) (station : Option Station) → MayStand places name station → Periods
period_under places name None none = default_periods
period_under places name (Some s) stands = stands.named.place.period

-- The text is a replay's answer to a question for a list of a transaction of the station of this name, by the order and
-- the periods of its place.
pub record IsListOf (places : List StationPlace) (what : TxList) (name tx text : List ℕ) : Type 0 where
  pub station : Option Station
  pub stands : MayStand places name station
  pub is : text ≡ list_answer (λ _. order_under places name station stands) (λ _. period_under places name station stands) what name tx station

-- The answer to a question for a list of a transaction.
abbrev pub IsList : List StationPlace → TxList → List ℕ → List ℕ → List ℕ → Type 0
IsList places what name tx text = IsListOf places what name tx text ⊎ (text ≡ torn)

-- The text is a replay's answer to a question for the totals of the station of this name, by the order of its place.
pub record AreTotals (places : List StationPlace) (name : List ℕ) (asked : WhichTotals) (text : List ℕ) : Type 0 where
  pub station : Option Station
  pub stands : MayStand places name station
  pub is : text ≡ asked_answer asked (order_under places name station stands) station

-- The line of the totals that a line asks for, from these figures and imported and exported
-- energies.
abbrev pub totals_line : WhichTotals → figures.Figures → Energy → Energy → List ℕ
totals_line Figures f e x = ended_line (total_text f)
totals_line Import f e x = energy_line e
totals_line Export f e x = export_line x

-- The answer to a question for a station's totals.
abbrev pub IsTotals : List StationPlace → List ℕ → WhichTotals → List ℕ → Type 0
IsTotals places name asked text = AreTotals places name asked text ⊎ (text ≡ torn)

-- The text is that of the board over boards of the site's stations, each once and in the plan's
-- order. Each of these is the board of a content that accepted commands reach. What was seen
-- belongs to these boards.
pub record IsShownBoard {M : Type 0} (shows : ℕ → List (List ℕ × Board) → M → Type 0) (sites : List SitePlan) (places : List StationPlace) (site : ℕ) (text : List ℕ) (seen : Option M) : Type 0 where
  pub boards : List (List ℕ × Board)
  pub of_site : AreBoardsAt places site boards
  pub is : text ≡ board_text (running_site sites site boards)
  pub own : M
  pub seen_is : seen ≡ Some own
  pub shown : shows site boards own

-- The answer to a question for the board of the site of this number, if there is one, and what was seen with it.
abbrev pub IsBoard : {M : Type 0} → (ℕ → List (List ℕ × Board) → M → Type 0) → List SitePlan → List StationPlace → Option ℕ → List ℕ → Option M → Type 0
IsBoard shows sites places None text seen = text ≡ fault_line UnknownSite
IsBoard shows sites places (Some site) text seen = IsShownBoard shows sites places site text seen ⊎ (text ≡ torn)

-- A command was submitted with a pass at a station of this place, the line has the answer to it,
-- and what was seen belongs to that answer.
pub record IsCommandLine {M : Type 0} (gives : Command → Answer → Option M → Type 0) (at : StationPlace) (p : Held)
    (command : Command) (p' : Held) (line : List ℕ) (seen : Option M) : Type 0 where
  pub answer : Answer
  pub submitted : IsSettled at p command answer p'
  pub given : gives command answer seen
  pub is : line ≡ ended_line (answer_text answer)

-- The command was submitted with a pass of the station of this name, and the text is the desk's answer to it; or there
-- is no such station, and the text says so.
abbrev pub IsSubmitted : {M : Type 0} → (ℕ → StationPlace → Command → Answer → Option M → Type 0) → List StationPlace → List ℕ → Command → List ℕ → Option M → Type 0
IsSubmitted gives places name command text seen =
    ((p p' : Held) × (named : IsNamed places name p.station) × IsCommandLine (gives p.station named.place) named.place p command p' text seen)
    ⊎ ((list_any (λ s. bytes_eq name s.name) places ≡ false) × (text ≡ fault_line UnknownStation))

-- The answer to a command; it may be ChangesExhausted whatever the content is.
abbrev pub IsCommanded : List StationPlace → List ℕ → Command → List ℕ → Type 0
IsCommanded places name command text = IsOf places name (λ station. (commanded_to station start command).1) text ⊎ (text ≡ ended_line (answer_text (Refused ChangesExhausted)))

-- The text of an event with ChangesExhausted.
abbrev pub IsExhausted : Detail → Meaning → List ℕ → Type 0
IsExhausted detail (Event id request) text = text ≡ event_text detail (Refused ChangesExhausted) (event_reply_bytes id request.token (Refused ChangesExhausted))
IsExhausted detail (Ready reply) text = ⊥
IsExhausted detail Silence text = ⊥

-- The text has the reply that there was no memory to read the words.
pub record TellsMemory (detail : Detail) (words text : List ℕ) : Type 0 where
  pub reply : List ℕ
  pub tells : IsMemoryReply (frame words) reply
  pub is : text ≡ ready_text detail reply

-- The answer to a line `msg` or `deliver` with a station's words at a moment; it may also be ChangesExhausted whatever
-- the content is, or that there was no memory to read the words.
abbrev pub IsSent : Detail → List StationPlace → List ℕ → List ℕ → ℕ → List ℕ → Type 0
IsSent detail places name words moment text =
    IsOf places name (λ station. (message_to detail station (record start { moment = moment }) words).1) text
    ⊎ (IsExhausted detail (message words moment) text ⊎ TellsMemory detail words text)

-- A station's words were answered with a pass at some moment, the line has that answer, and what was seen belongs to
-- it.
pub record IsMessageLine {M : Type 0} (detail : Detail) (gives : ℕ → StationPlace → Command → Answer → Option M → Type 0)
    (places : List StationPlace) (p : Held) (words : List ℕ) (p' : Held) (line : List ℕ) (seen : Option M) : Type 0 where
  pub moment : ℕ
  pub outcome : Option Answer
  pub text : Option (List ℕ)
  pub memory : Bool
  pub outcomes : Outcomes gives places p words moment outcome text p' seen memory
  pub is : line ≡ message_text detail outcome text

-- The words were answered with a pass of the station of this name; or there is no such station, and the text says so.
abbrev pub IsMessaged : {M : Type 0} → Detail → (ℕ → StationPlace → Command → Answer → Option M → Type 0) → List StationPlace → List ℕ → List ℕ → List ℕ → Option M → Type 0
IsMessaged detail gives places name words text seen =
    ((p p' : Held) × IsNamed places name p.station × IsMessageLine detail gives places p words p' text seen)
    ⊎ ((list_any (λ s. bytes_eq name s.name) places ≡ false) × (text ≡ fault_line UnknownStation))

-- The answer to an operator's line at a desk of these sites and stations, by what the line says,
-- and what was seen of the desk's journal then: `gives` with an answer to a command, `shows` with a
-- site's boards. Moments come from the clock, so a line that gives one is at fault.
abbrev pub IsReply : {M : Type 0} → (ℕ → StationPlace → Command → Answer → Option M → Type 0)
    → (ℕ → List (List ℕ × Board) → M → Type 0) → List SitePlan → List StationPlace → LineMeaning → List ℕ → Option M → Type 0
IsReply gives shows sites places nothing text seen = text ≡ []
IsReply gives shows sites places (fails fault) text seen = text ≡ fault_line fault
IsReply gives shows sites places (sets_limits transactions events readings changes) text seen = text ≡ fault_line DeclaredLate
IsReply gives shows sites places (declares site name) text seen = text ≡ fault_line DeclaredLate
IsReply gives shows sites places (sets_period site seconds) text seen = text ≡ fault_line DeclaredLate
IsReply gives shows sites places (sets_order site order) text seen = text ≡ fault_line DeclaredLate
IsReply gives shows sites places (sets_settle site rule) text seen = text ≡ fault_line DeclaredLate
IsReply gives shows sites places (tells nanos) text seen = text ≡ fault_line BadLine
IsReply gives shows sites places (sends name words) text seen = ((moment : ℕ) × IsSent Reply places name words moment text) × IsMessaged Reply gives places name words text seen
IsReply gives shows sites places (delivers name words) text seen = ((moment : ℕ) × IsSent Outcome places name words moment text) × IsMessaged Outcome gives places name words text seen
IsReply gives shows sites places (commands name command) text seen = IsCommanded places name command text × IsSubmitted gives places name command text seen
IsReply gives shows sites places (asks_energy name) text seen = IsTotals places name Import text
IsReply gives shows sites places (asks_export name) text seen = IsTotals places name Export text
IsReply gives shows sites places (asks_total name) text seen = IsTotals places name Figures text
IsReply gives shows sites places (asks_board name) text seen = IsBoard shows sites places (position (λ s. bytes_eq name s.name) sites) text seen
IsReply gives shows sites places (lists what name tx) text seen = IsList places what name tx text
IsReply gives shows sites places (asks_meaning words) text seen = (moment : ℕ) × (text ≡ asked_line (message words moment))
IsReply gives shows sites places (marks word) text seen = text ≡ mark_line word

-- Room for so many bytes is less than the answer to a message or a command may need, and one is carried out only with
-- that room; or no station has the name.
abbrev pub LacksRoom : List StationPlace → List ℕ → ℕ → Type 0
LacksRoom places name room = (room < 542) ⊎ (list_any (λ s. bytes_eq name s.name) places ≡ false)

-- A line may find no memory for its answer with room for so many bytes: a message or a command only if it was not
-- carried out.
abbrev pub MayLackMemory : List StationPlace → LineMeaning → ℕ → Type 0
MayLackMemory places (sends name words) room = LacksRoom places name room
MayLackMemory places (delivers name words) room = LacksRoom places name room
MayLackMemory places (commands name command) room = LacksRoom places name room
MayLackMemory places meaning room = ⊤

-- An operator's line gets this answer, or `fault OutOfMemory`; with that nothing was seen of the desk's journal.
abbrev pub IsReplyOrMemory : {M : Type 0} → (ℕ → StationPlace → Command → Answer → Option M → Type 0)
    → (ℕ → List (List ℕ × Board) → M → Type 0) → List SitePlan → List StationPlace → LineMeaning → List ℕ → Option M → Type 0
IsReplyOrMemory gives shows sites places meaning text seen = IsReply gives shows sites places meaning text seen ⊎ ((text ≡ ended_line (codes "fault OutOfMemory")) × (seen ≡ None))
