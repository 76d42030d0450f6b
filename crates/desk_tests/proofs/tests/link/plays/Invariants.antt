use Rattle.site_book.specs.Tables.{names_of}
use Rattle.desk_tests.proofs.tests.link.plays.Given as goal

-- the tables that were just made
abbrev pub ghosts-at_desk : goal.ghosts-at_desk
ghosts-at_desk g a = record { table = names_of a.tables }
