-- What a line of a journal says, at whatever moment it is read.
use Rattle.std.{specs.Prelude.{◌≡◌, ℕ, ◌<◌, ◌≤◌, List, All, length, Some}, specs.Io.BufRead.strip_last}
use Rattle.kept_desk.specs.declared.entry.Entry.{Entry}
use Rattle.ledger_model.{specs.declared.command.Command.Command, specs.declared.command.Command.TheVariants.Deliver}
use Rattle.transaction_event.{specs.Message.{Event, message}, specs.Request.Request}
use Rattle.script_lines.{specs.LineMeaning.{LineMeaning, nothing, fails, sets_limits, declares, sets_period, sets_order, sets_settle, tells, sends, delivers, commands, asks_energy, asks_export, asks_total, asks_board, lists, asks_meaning, marks, line_meaning}, specs.Lines.HasNoFeed, specs.Ranges.longest_line}

-- The text is a message that asks for this command, at any moment.
pub record AsksFor (text : List ℕ) (command : Command) : Type 0 where
  pub id : List ℕ
  pub request : Request
  pub means : (now : ℕ) → message text now ≡ Event id request
  pub delivers : command ≡ Deliver request.key request.event

-- A line of this meaning asks for this command on the station of this name.
abbrev pub Says : LineMeaning → List ℕ → Command → Type 0
Says nothing name command = ⊥
Says (fails _) name command = ⊥
Says (sets_limits _ _ _ _) name command = ⊥
Says (declares _ _) name command = ⊥
Says (sets_period _ _) name command = ⊥
Says (sets_order _ _) name command = ⊥
Says (sets_settle _ _) name command = ⊥
Says (tells _) name command = ⊥
Says (sends at text) name command = (at ≡ name) × AsksFor text command
Says (delivers at text) name command = (at ≡ name) × AsksFor text command
Says (commands at asked) name command = (at ≡ name) × (asked ≡ command)
Says (asks_energy _) name command = ⊥
Says (asks_export _) name command = ⊥
Says (asks_total _) name command = ⊥
Says (asks_board _) name command = ⊥
Says (lists _ _ _) name command = ⊥
Says (asks_meaning _) name command = ⊥
Says (marks _) name command = ⊥

-- The bytes are one line of a script, and that line asks for this command on the station of this name.
pub record Speaks (name line : List ℕ) (command : Command) : Type 0 where
  pub feedless : HasNoFeed line
  pub bare : strip_last 13 line ≡ line
  pub short : length line ≤ longest_line
  pub says : Says (line_meaning (Some line)) name command

-- The bytes are a line of a script, and the line asks for the command on the station of this name, which
-- is not empty.
pub record SpeaksOf (name line : List ℕ) (command : Command) : Type 0 where
  pub some : 0 < length name
  pub speaks : Speaks name line command

-- Each entry's line asks for its command on the station of this name.
abbrev pub AreSpoken : (ℕ → List ℕ) → List Entry → Type 0
AreSpoken name entries = All (λ e. SpeaksOf (name e.station) e.line e.command) entries
