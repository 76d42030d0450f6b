use Rattle.board_report.proofs.ClosedSites.{value_told}
use Rattle.site_book.proofs.Named.{named-made}
use Rattle.journal_server.{specs.Served.TellsNew, proofs.Ends.its_script}
use Rattle.live_server.specs.Told.{operator_input}
use Rattle.journal_server.proofs.run.run_plan.Goals as goal

pub run_over-requires-clause-named : goal.run_over-requires-clause-named
run_over-requires-clause-named g c κs lives = named-made _

pub returns : goal.returns
returns g c =
    let sites = c.args.plan.now.sites.items in
    let stations = c.args.plan.now.stations.items in
    let cells = c.args.cells.items in
    value_told c.run_over.result _ _
    (λ s h front leaves.
    its_script front sites stations cells _ _
    (TellsNew s.ended stations (operator_input c.args.journalling.live.connections (g.I.Read.remaining c.args.input.now))
    (g.T.Write.contents c.args.ends.console) (g.T.Write.contents s.console) sites cells)
    c.requires.faultless c.requires.cells leaves h)
    c.run_over.ensures
