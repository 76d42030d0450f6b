use Rattle.site_book.specs.Tables.{names_of}
use Rattle.journal_server.proofs.run.new_cells.Given as goal

-- the tables that were just made
abbrev pub ghosts-cells_over : goal.ghosts-cells_over
ghosts-cells_over a = record { table = names_of a.tables }
