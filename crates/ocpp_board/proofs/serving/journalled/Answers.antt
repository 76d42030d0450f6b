use Rattle.std.{proofs.Common.{Err, ap, refl}, specs.Io.Buffered.{reader_remaining, writer_contents}}
use Rattle.journal_server.{specs.declared.fault.JournalFault.TheVariants.Service, specs.Served.{IsNewRun, TellsNew}}
use Rattle.running_desk.specs.declared.fault.ServiceFault.TheVariants.{OutOfMemory}
use Rattle.live_server.specs.Told.{operator_input}
use Rattle.ocpp_board.proofs.Runs.{journal_run, new_run}
use Rattle.ocpp_board.proofs.serving.journalled.Goals as goal

pub returns : goal.returns
returns g c =
    let contents = g.P.Output.Write.contents in
    let reports = g.P.Errors.Write.contents in
    let streams = c.args.streams in
    let consoles = g.P.Console.Write.contents in
    let sites = c.args.plan.now.sites.items in
    let stations = c.args.plan.now.stations.items in
    let own = operator_input c.args.journalling.live.connections in
    let input = own (g.P.Input.Read.remaining streams.input) in
    let served = c.serve_journalled-served in
    journal_run contents consoles reports streams.errors c.end_journalled-2.result served.result
    (λ left ended answered. IsNewRun sites stations (contents streams.output) left (TellsNew ended stations input (consoles streams.console) answered))
    (new_run served.result contents consoles sites stations (writer_contents contents c.in-Ok.journal) (contents streams.output)
    (own (reader_remaining g.P.Input.Read.remaining c.in-Ok.reader)) input (consoles streams.console) (consoles streams.console)
    c.in-Ok.ensures.output (ap own c.in-Ok.ensures.input) refl served.ensures)
    c.end_journalled-2.ensures

pub returns-in_default : goal.returns-in_default
returns-in_default g c =
    let contents = g.P.Output.Write.contents in
    let reports = g.P.Errors.Write.contents in
    let streams = c.args.streams in
    let consoles = g.P.Console.Write.contents in
    let sites = c.args.plan.now.sites.items in
    let stations = c.args.plan.now.stations.items in
    let own = operator_input c.args.journalling.live.connections in
    let input = own (g.P.Input.Read.remaining streams.input) in
    journal_run contents consoles reports streams.errors c.end_journalled.result (Err (Service OutOfMemory))
    (λ left ended answered. IsNewRun sites stations (contents streams.output) left (TellsNew ended stations input (consoles streams.console) answered))
    tt
    c.end_journalled.ensures
