use Rattle.std.{proofs.Common.{◌≡◌, length}, specs.Io.KnownBytes.Appends}
use Rattle.board_report.{specs.Closed.boards_text, specs.Looks.all_looks}
use Rattle.station_ledger.specs.Quarters.{IsWork}
use Rattle.board_report.proofs.closed.write_boards.Given as goal

-- what was written are the boards of the sites so far
abbrev pub invariant-loop-site : goal.invariant-loop-site
invariant-loop-site g l =
    Appends (g.W.Write.contents l.fn.output) (g.W.Write.contents l.output) (boards_text l.plan.sites.items l.plan.stations.items l.closed.cells l.site)
    × (l.site-end ≡ length l.plan.sites.items)
    × IsWork (all_looks l.plan.stations.items l.closed.cells l.site) l.fn.work l.work
