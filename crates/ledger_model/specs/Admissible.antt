use Rattle.ledger_model.{specs.declared.command.Command.Command, specs.declared.command.Command.TheVariants.{Deliver, Void, Restore, Erase}, specs.Key.{KeyName, IsKeyName}, specs.Event.IsEventContent}

-- A command that may be asked: its key is in range, and so is the event that it delivers.
abbrev pub IsAdmissible : Command → Type 0
IsAdmissible (Deliver key event) = IsKeyName key × IsEventContent event
IsAdmissible (Void key) = IsKeyName key
IsAdmissible (Restore key) = IsKeyName key
IsAdmissible (Erase key) = IsKeyName key

-- The key that a command is about.
abbrev pub key_of : Command → KeyName
key_of (Deliver key event) = key
key_of (Void key) = key
key_of (Restore key) = key
key_of (Erase key) = key
