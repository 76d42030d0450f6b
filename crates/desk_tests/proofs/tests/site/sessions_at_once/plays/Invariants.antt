use Rattle.site_book.specs.Tables.{names_of}
use Rattle.desk_tests.proofs.tests.site.sessions_at_once.plays.Given as goal

-- the tables that were just made
abbrev pub ghosts-changes_of_both : goal.ghosts-changes_of_both
ghosts-changes_of_both g a = record { table = names_of a.tables }
