use Rattle.site_book.specs.Tables as tables
use Rattle.kept_desk.specs.Opened.{contents_of, names_of}
use Rattle.journal_server.proofs.run.run_plan.Given as goal

-- the tables that were just made
abbrev pub ghosts-run_over-J-Naming : goal.ghosts-run_over-J-Naming
ghosts-run_over-J-Naming g a = record { table = tables.names_of a.desk_parts.tables }

-- the table that was just made, what the writer holds, what the cells hold, and the names of the plan's stations
abbrev pub ghosts-run_over-K-Opening : goal.ghosts-run_over-K-Opening
ghosts-run_over-K-Opening g a =
    record { table = a.desk_parts.table; before = g.W.Write.contents a.ends.journal.inner; first = contents_of a.desk_parts.cells.items; name = names_of a.plan.now.stations.items }
