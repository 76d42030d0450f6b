use Rattle.std.proofs.Common.{[], ◌∷◌}
use Rattle.kept_desk.specs.Entries.{bytes_of, entry}
use Rattle.kept_desk.proofs.journal.Journal.add.Given as goal

abbrev pub ghosts-note_entry : goal.ghosts-note_entry
ghosts-note_entry g a = record { entries = entry a.station a.note.now (bytes_of a.line) a.command.now ∷ [] }
