use Rattle.site_book.specs.Tables.{names_of}
use Rattle.journal_script.proofs.restoring.restore.Given as goal

abbrev pub ghosts-restore_script : goal.ghosts-restore_script
ghosts-restore_script g a = record { table = names_of a.tables }
