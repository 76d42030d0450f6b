-- The lines of a script that belong to one transaction of one station, and what the script of these lines writes and
-- leaves.
use Rattle.std.{specs.Prelude.{◌≡◌, ℕ, Bool, true, false, ◌&&◌, not, List, [], ◌∷◌, codes, Option, None, Some, map, ⊤, if◌then◌else◌}, specs.Str.bytes_eq}
use Rattle.ledger_model.{specs.Admissible.key_of, specs.Board.{Board, board_by}, specs.Content.{empty_content, entries}, specs.declared.command.Command.Command, specs.declared.command.Command.TheVariants.Deliver, specs.declared.order.Order.Order, specs.Periods.Periods, specs.Step.answer, specs.World.Station}
use Rattle.script_ledgers.specs.Script.{Script, line_step, script_after, start, station_named, step_by}
use Rattle.script_lines.{specs.declared.script_line.LineFault.TheVariants.UnknownStation, specs.LineMeaning.{LineMeaning, nothing, fails, sets_limits, declares, sets_period, sets_order, sets_settle, tells, sends, delivers, commands, asks_energy, asks_export, asks_total, asks_board, lists, asks_meaning, marks, line_meaning}, specs.Lines.Line, specs.Texts.{answer_text, delivered_line, ended_line, fault_line, reply_line}}
use Rattle.transaction_event.{specs.Message.{Event, Meaning, Ready, Silence, message}, specs.Reply.event_reply_bytes}
use Rattle.transaction_laws.{specs.Alone.{alone, belongs_to, changes_after, counted_after, is_by_limit}, specs.BoardSums.transactions, specs.Transcript.{Exchange, is_own}}

-- Whether a command on a station, if there is one, is on the station of this name and passes a test with its answer.
abbrev pub is_command_by : (Exchange → Bool) → List ℕ → Option Station → Command → Bool
is_command_by test name None command = false
is_command_by test name (Some station) command = bytes_eq name station.name && test (command, answer station.limits station.content command)

-- Whether a message to a station delivers an event so.
abbrev pub is_message_by : (Exchange → Bool) → List ℕ → Option Station → Meaning → Bool
is_message_by test name station (Event id request) = is_command_by test name station (Deliver request.key request.event)
is_message_by test name station (Ready reply) = false
is_message_by test name station Silence = false

-- Whether a line is kept in a script of one transaction: what declares the plan before the ledgers are opened, what tells
-- the moment, the messages and commands that pass a test, the questions for the transaction's lists of events and
-- readings, and the questions for what a text asks for.
abbrev pub stays_by : (Exchange → Bool) → List ℕ → List ℕ → Script → LineMeaning → Bool
stays_by test name tx s nothing = false
stays_by test name tx s (fails _) = false
stays_by test name tx s (sets_limits _ _ _ _) = not s.opened
stays_by test name tx s (declares _ _) = not s.opened
stays_by test name tx s (sets_period _ _) = not s.opened
stays_by test name tx s (sets_order _ _) = not s.opened
stays_by test name tx s (sets_settle _ _) = not s.opened
stays_by test name tx s (tells _) = true
stays_by test name tx s (sends station text) = is_message_by test name (station_named station s.world) (message text s.moment)
stays_by test name tx s (delivers station text) = is_message_by test name (station_named station s.world) (message text s.moment)
stays_by test name tx s (commands station command) = is_command_by test name (station_named station s.world) command
stays_by test name tx s (asks_energy _) = false
stays_by test name tx s (asks_export _) = false
stays_by test name tx s (asks_total _) = false
stays_by test name tx s (asks_board _) = false
stays_by test name tx s (lists _ station id) = bytes_eq name station && bytes_eq tx id
stays_by test name tx s (asks_meaning _) = true
stays_by test name tx s (marks _) = false

-- The lines that are kept.
abbrev pub lines_by : (Exchange → Bool) → List ℕ → List ℕ → Script → List Line → List Line
lines_by test name tx s [] = []
lines_by test name tx s (line ∷ lines) =
    if stays_by test name tx s (line_meaning line) then line ∷ lines_by test name tx (line_step s line).0 lines else lines_by test name tx (line_step s line).0 lines

-- Whether a command, a message or a line belongs to this transaction of the station of this name: no limit refuses it.
abbrev pub is_own_command : List ℕ → List ℕ → Option Station → Command → Bool
is_own_command name tx station command = is_command_by (is_own tx) name station command

abbrev pub is_own_message : List ℕ → List ℕ → Option Station → Meaning → Bool
is_own_message name tx station meaning = is_message_by (is_own tx) name station meaning

abbrev pub stays : List ℕ → List ℕ → Script → LineMeaning → Bool
stays name tx s meaning = stays_by (is_own tx) name tx s meaning

-- The lines of the script of the transaction alone.
abbrev pub lone_lines : List ℕ → List ℕ → Script → List Line → List Line
lone_lines name tx s lines = lines_by (is_own tx) name tx s lines

-- The same lines with those that a limit refuses: all lines about the transaction, whatever they are answered.
abbrev pub lines_about : List ℕ → List ℕ → Script → List Line → List Line
lines_about name tx s lines = lines_by (λ e. belongs_to tx (key_of e.0)) name tx s lines

-- Whether a limit refuses the command, the message or the line.
abbrev pub is_refused_command : Option Station → Command → Bool
is_refused_command None command = false
is_refused_command (Some station) command = is_by_limit (answer station.limits station.content command)

abbrev pub is_refused_message : Option Station → Meaning → Bool
is_refused_message station (Event id request) = is_refused_command station (Deliver request.key request.event)
is_refused_message station (Ready reply) = false
is_refused_message station Silence = false

abbrev pub is_refused_line : Script → LineMeaning → Bool
is_refused_line s (sends station text) = is_refused_message (station_named station s.world) (message text s.moment)
is_refused_line s (delivers station text) = is_refused_message (station_named station s.world) (message text s.moment)
is_refused_line s (commands station command) = is_refused_command (station_named station s.world) command
is_refused_line s _ = false

-- No limit refuses any of these lines.
abbrev pub NoneRefused : Script → List Line → Type 0
NoneRefused s [] = ⊤
NoneRefused s (line ∷ lines) = (is_refused_line s (line_meaning line) ≡ false) × NoneRefused (line_step s line).0 lines

-- The count of changes after a command on a station, if there is one, with so many before.
abbrev pub count_after_command : ℕ → Option Station → Command → ℕ
count_after_command n None command = n
count_after_command n (Some station) command = changes_after n (answer station.limits station.content command)

-- The same for a message.
abbrev pub count_after_message : ℕ → Option Station → Meaning → ℕ
count_after_message n station (Event id request) = count_after_command n station (Deliver request.key request.event)
count_after_message n station (Ready reply) = n
count_after_message n station Silence = n

-- The same for a line.
abbrev pub count_after : ℕ → Script → LineMeaning → ℕ
count_after n s (sends station text) = count_after_message n (station_named station s.world) (message text s.moment)
count_after n s (delivers station text) = count_after_message n (station_named station s.world) (message text s.moment)
count_after n s (commands station command) = count_after_command n (station_named station s.world) command
count_after n s _ = n

-- The text for an operator's command where so many changes were counted before.
abbrev pub command_text : ℕ → Option Station → Command → List ℕ
command_text n None command = fault_line UnknownStation
command_text n (Some station) command = ended_line (answer_text (counted_after n (answer station.limits station.content command)))

-- The text for a message with what becomes of it, where so many changes were counted before.
abbrev pub delivered_text : ℕ → Option Station → Meaning → List ℕ
delivered_text n None meaning = fault_line UnknownStation
delivered_text n (Some station) (Event id request) =
    let answered = answer station.limits station.content (Deliver request.key request.event) in delivered_line (counted_after n answered) (event_reply_bytes id request.token answered)
delivered_text n (Some station) (Ready reply) = reply_line reply
delivered_text n (Some station) Silence = ended_line (codes "silent")

-- The text for a line where so many changes of the transaction were counted before: only a line that writes the count of
-- changes gets another text than in the whole script.
abbrev pub lone_text : ℕ → Script → LineMeaning → List ℕ
lone_text n s (delivers station text) = delivered_text n (station_named station s.world) (message text s.moment)
lone_text n s (commands station command) = command_text n (station_named station s.world) command
lone_text n s meaning = (step_by s meaning).1

-- The texts for the lines that stay, with the changes of the transaction counted from so many on.
abbrev pub lone_texts : List ℕ → List ℕ → ℕ → Script → List Line → List (List ℕ)
lone_texts name tx n s [] = []
lone_texts name tx n s (line ∷ lines) =
    if stays name tx s (line_meaning line)
    then lone_text n s (line_meaning line) ∷ lone_texts name tx (count_after n s (line_meaning line)) (line_step s line).0 lines
    else lone_texts name tx n (line_step s line).0 lines

-- The count of the transaction's changes after all lines.
abbrev pub lone_count : List ℕ → List ℕ → ℕ → Script → List Line → ℕ
lone_count name tx n s [] = n
lone_count name tx n s (line ∷ lines) =
    if stays name tx s (line_meaning line) then lone_count name tx (count_after n s (line_meaning line)) (line_step s line).0 lines else lone_count name tx n (line_step s line).0 lines

-- The texts that a script writes, line by line.
abbrev pub line_texts : Script → List Line → List (List ℕ)
line_texts s [] = []
line_texts s (line ∷ lines) = (line_step s line).1 ∷ line_texts (line_step s line).0 lines

-- A station with nothing but one transaction of the station of this name, and so many changes counted there; any other
-- station has no event.
abbrev pub only : List ℕ → List ℕ → ℕ → Station → Station
only name tx n s = record s { content = if bytes_eq name s.name then alone tx n s.content else empty_content }

-- The second script has the plan and the moment of the first, and of its stations' events just those of the transaction.
pub record IsAloneAfter (name tx : List ℕ) (n : ℕ) (s lone : Script) : Type 0 where
  pub sites : lone.sites ≡ s.sites
  pub periods : lone.periods ≡ s.periods
  pub orders : lone.orders ≡ s.orders
  pub moment : lone.moment ≡ s.moment
  pub world : lone.world ≡ map (only name tx n) s.world

-- The board of a station, if there is one.
abbrev pub board_at : Order → Periods → Option Station → Board
board_at order period None = board_by order period []
board_at order period (Some station) = board_by order period (entries station.content)

-- The boards of the transactions of a station that a script leaves: of each, the board of the station of that name which
-- the script of its lines alone leaves.
abbrev pub lone_boards : Order → Periods → List Line → Station → List Board
lone_boards order period lines station =
    map (λ tx. board_at order period (station_named station.name (script_after start (lone_lines station.name tx start lines)).world)) (transactions station.content)
