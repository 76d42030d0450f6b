use Rattle.std.proofs.Common.{◌+◌, length, arith}
use Rattle.station_ledger.proofs.Looking.{at_most}
use Rattle.board_report.proofs.Looks.{sites_more, sites_prefix}
use Rattle.board_report.proofs.closed.write_boards.Goals as goal

pub returns-in_err-text-clause-work : goal.returns-in_err-text-clause-work
returns-in_err-text-clause-work g c =
    let xs = c.args.plan.now.stations.items in let cells = c.args.closed.now.cells in let site = c.loop-site.site in
    let few = sites_prefix xs cells (site + 1) (length c.args.plan.now.sites.items) (omega (arith, c.loop-site-test.true, c.loop-site.invariant.1)) in
    at_most _ _ c.args.work.now c.closed_board.new.work few
    (sites_more xs cells site c.args.work.now c.loop-site.work c.closed_board.new.work c.loop-site.invariant.2 c.closed_board.ensures.work)

pub returns-in_err-write_out-clause-work : goal.returns-in_err-write_out-clause-work
returns-in_err-write_out-clause-work g c =
    let xs = c.args.plan.now.stations.items in let cells = c.args.closed.now.cells in let site = c.loop-site.site in
    let few = sites_prefix xs cells (site + 1) (length c.args.plan.now.sites.items) (omega (arith, c.loop-site-test.true, c.loop-site.invariant.1)) in
    at_most _ _ c.args.work.now c.closed_board.new.work few
    (sites_more xs cells site c.args.work.now c.loop-site.work c.closed_board.new.work c.loop-site.invariant.2 c.closed_board.ensures.work)
