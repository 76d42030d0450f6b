use Rattle.site_book.proofs.Named.{named-made}
use Rattle.journal_server.proofs.run.new_cells.Goals as goal

pub cells_over-requires-clause-named : goal.cells_over-requires-clause-named
cells_over-requires-clause-named c = named-made _
