-- What the lines `deliver` and `asks` mean, beside `msg`.
use Rattle.std.specs.Prelude.{◌≡◌, ℕ, List, [], ◌∷◌, ◌++◌, codes, map, Option, None, Some}
use Rattle.ledger_model.{specs.declared.command.Command.TheVariants.Deliver, specs.Step.answer, specs.World.Station}
use Rattle.script_lines.{specs.Lines.Line, specs.LineMeaning.{LineMeaning, nothing, fails, sets_limits, declares, sets_period, sets_order, sets_settle, tells, sends, delivers, commands, asks_energy, asks_export, asks_total, asks_board, lists, asks_meaning, marks, line_meaning}, specs.Texts.answer_text}
use Rattle.script_ledgers.specs.Script.{Script, asked_line, line_step, script_after, start, station_named}
use Rattle.transaction_event.specs.Message.{Meaning, Event, Ready, Silence, message}

-- what a message of this meaning has in front of its reply: what becomes of its event, or that it only has a reply
abbrev pub before_reply : Meaning → Station → List ℕ
before_reply (Event id request) station = answer_text (answer station.limits station.content (Deliver request.key request.event)) ++ 32 ∷ []
before_reply (Ready reply) station = codes "reply "
before_reply Silence station = []

-- the same for a message to the station of a name; a fault has nothing in front of it
abbrev pub before_sent : Option Station → ℕ → List ℕ → List ℕ
before_sent None moment text = []
before_sent (Some station) moment text = before_reply (message text moment) station

-- `deliver` leaves what `msg` leaves, and writes what becomes of the event and then what `msg` writes
abbrev pub DeliverIsMsg : Type 0
DeliverIsMsg = (s : Script) (one other : Line) (name text : List ℕ) → line_meaning one ≡ sends name text → line_meaning other ≡ delivers name text
    → ((line_step s other).0 ≡ (line_step s one).0) × ((line_step s other).1 ≡ before_sent (station_named name s.world) s.moment text ++ (line_step s one).1)

-- a line's meaning with `deliver` in place of `msg`
abbrev pub delivering : LineMeaning → LineMeaning
delivering nothing = nothing
delivering (fails fault) = fails fault
delivering (sets_limits transactions events readings changes) = sets_limits transactions events readings changes
delivering (declares site name) = declares site name
delivering (sets_period site seconds) = sets_period site seconds
delivering (sets_order site order) = sets_order site order
delivering (sets_settle site rule) = sets_settle site rule
delivering (tells moment) = tells moment
delivering (sends name text) = delivers name text
delivering (delivers name text) = delivers name text
delivering (commands name command) = commands name command
delivering (asks_energy name) = asks_energy name
delivering (asks_export name) = asks_export name
delivering (asks_total name) = asks_total name
delivering (asks_board site) = asks_board site
delivering (lists what name tx) = lists what name tx
delivering (asks_meaning text) = asks_meaning text
delivering (marks word) = marks word

-- two scripts say the same, but for `deliver` in place of `msg`
abbrev pub SayTheSame : List Line → List Line → Type 0
SayTheSame one other = map (λ line. delivering (line_meaning line)) one ≡ map (λ line. delivering (line_meaning line)) other

-- such scripts end in the same state, and so each further line has the same answer: each board, total, energy and list
abbrev pub DeliversMakeTheSameState : Type 0
DeliversMakeTheSameState = (one other : List Line) → SayTheSame one other
    → (script_after start one ≡ script_after start other) × ((line : Line) → line_step (script_after start one) line ≡ line_step (script_after start other) line)

-- a question for what a text asks for changes nothing, and its answer is what the text means at the script's moment
abbrev pub AsksIsTheMeaning : Type 0
AsksIsTheMeaning = (s : Script) (line : Line) (text : List ℕ) → line_meaning line ≡ asks_meaning text → line_step s line ≡ (s, asked_line (message text s.moment))
