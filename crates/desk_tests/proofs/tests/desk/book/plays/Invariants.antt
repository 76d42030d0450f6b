use Rattle.site_book.specs.Tables.{names_of}
use Rattle.desk_tests.proofs.tests.desk.book.plays.Given as goal

-- the tables that were just made
abbrev pub ghosts-at_book : goal.ghosts-at_book
ghosts-at_book g a = record { table = names_of a.tables }
