-- What a line that was read says.
use Rattle.std.specs.Prelude.{Option}
use Rattle.script_lines.{specs.declared.script_line.ScriptLine.ScriptLine, specs.declared.script_line.ScriptLine.TheVariants.{Nothing, Fails, Limits, Declares, SetsPeriod, SetsOrder, SetsSettle, Tells, Sends, Delivers, Commands, AsksEnergy, AsksExport, AsksTotal, AsksBoard, Lists, AsksMeaning, Marks}, specs.LineMeaning.{LineMeaning, ◌>>=◌, nothing, fails, sets_limits, declares, sets_period, sets_order, sets_settle, tells, sends, delivers, commands, asks_energy, asks_export, asks_total, asks_board, lists, asks_meaning, marks}}

-- The meaning of a line that was read.
abbrev pub meaning_of : ScriptLine → LineMeaning
meaning_of Nothing = nothing
meaning_of (Fails fault) = fails fault
meaning_of (Limits transactions events readings changes) = sets_limits transactions events readings changes
meaning_of (Declares site name) = declares site name
meaning_of (SetsPeriod site seconds) = sets_period site seconds
meaning_of (SetsOrder site order) = sets_order site order
meaning_of (SetsSettle site settle) = sets_settle site settle
meaning_of (Tells moment) = tells moment
meaning_of (Sends name text) = sends name text.now
meaning_of (Delivers name text) = delivers name text.now
meaning_of (Commands name command) = commands name command
meaning_of (AsksEnergy name) = asks_energy name
meaning_of (AsksExport name) = asks_export name
meaning_of (AsksTotal name) = asks_total name
meaning_of (AsksBoard name) = asks_board name
meaning_of (Lists what name tx) = lists what name tx
meaning_of (AsksMeaning text) = asks_meaning text.now
meaning_of (Marks word) = marks word

-- The meaning of a line of a form, or that its words are not those of the form.
abbrev pub meaning_of_form : Option ScriptLine → LineMeaning
meaning_of_form line = line >>= meaning_of
