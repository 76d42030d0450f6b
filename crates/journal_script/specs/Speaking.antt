-- What a message's line says, whenever it is read.
use Rattle.std.{specs.Prelude.{◌≡◌, ℕ, ◌≤◌, true, List, Option, None, Some, length}, specs.Io.BufRead.strip_last}
use Rattle.ledger_model.{specs.declared.command.Command.Command, specs.declared.command.Command.TheVariants.Deliver, specs.Name.is_name}
use Rattle.journal_script.{specs.declared.lines.MessageLine.MessageLine, specs.declared.lines.MessageLine.TheVariants.{AsItIs, Spaced, Unspoken}}
use Rattle.kept_desk.{specs.Entries.message_text, specs.Speaking.{AsksFor, Speaks}}
use Rattle.transaction_event.{specs.Message.{Event, message}, specs.Request.Request}
use Rattle.script_lines.{specs.Lines.HasNoFeed, specs.Ranges.longest_line}

-- A text that is an event at one moment asks for its delivery at every moment.
abbrev pub EventsAskAtAnyMoment : Type 0
EventsAskAtAnyMoment = (text : List ℕ) (now : ℕ) (id : List ℕ) (request : Request) → message text now ≡ Event id request → AsksFor text (Deliver request.key request.event)

-- The text can be in a script as it is, as the message of a station: it has no line feed and no
-- carriage return at its end, and its line is no longer than a line may be.
pub record StandsAsItIs (name text : List ℕ) : Type 0 where
  pub named : is_name name ≡ true
  pub feedless : HasNoFeed text
  pub bare : strip_last 13 text ≡ text
  pub short : length (message_text name text) ≤ longest_line

-- The line of this message, if there is one.
abbrev pub spoken_line : List ℕ → List ℕ → MessageLine → Option (List ℕ)
spoken_line name text AsItIs = Some (message_text name text)
spoken_line name text (Spaced line) = Some line.items
spoken_line name text Unspoken = None

-- The line of this message speaks for the command, if there is one.
abbrev pub SpeaksFor : List ℕ → List ℕ → Command → MessageLine → Type 0
SpeaksFor name text command AsItIs = Speaks name (message_text name text) command
SpeaksFor name text command (Spaced line) = Speaks name line.items command
SpeaksFor name text command Unspoken = Unit {0}
