use Rattle.journal_server.proofs.Ends.{are_first}
use Rattle.journal_server.proofs.run.open_over.Goals as goal

pub open-requires-clause-first : goal.open-requires-clause-first
open-requires-clause-first g c =
    are_first c.args.plan.now.sites.items c.args.plan.now.stations.items c.args.desk_parts.cells.items c.in_ok-parts.parts.cells
    g.K.Opening.first c.requires.cells c.requires.first c.in_ok-parts.ensures.cells
