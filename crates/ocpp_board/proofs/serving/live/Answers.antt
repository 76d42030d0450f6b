use Rattle.std.{proofs.Common.{None, ap, refl}, specs.Io.Buffered.{reader_remaining, writer_contents}}
use Rattle.journal_server.{specs.declared.fault.JournalFault.TheVariants.Service, specs.Served.{IsNewRun, TellsNew}}
use Rattle.running_desk.specs.declared.fault.ServiceFault.TheVariants.{OutOfMemory}
use Rattle.live_server.specs.Told.{operator_input}
use Rattle.ocpp_board.proofs.Runs.{new_run, unwritten_failed, unwritten_run}
use Rattle.ocpp_board.proofs.serving.live.Goals as goal

pub returns : goal.returns
returns g c =
    let contents = g.P.Output.Write.contents in
    let reports = g.P.Errors.Write.contents in
    let streams = c.args.streams in
    let sites = c.args.plan.now.sites.items in
    let stations = c.args.plan.now.stations.items in
    let own = operator_input c.args.asked.live.connections in
    let input = own (g.P.Input.Read.remaining streams.input) in
    let served = c.serve_live-served in
    unwritten_run contents (λ _. None) (writer_contents contents) reports streams.errors c.end_unwritten-2.result served.result
    (λ left ended answered. IsNewRun sites stations None left (TellsNew ended stations input (contents streams.output) answered))
    (new_run served.result (λ _. None) (writer_contents contents) sites stations None None
    (own (reader_remaining g.P.Input.Read.remaining c.in-Ok.reader)) input (writer_contents contents c.in-Ok.writer)
    (contents streams.output) refl (ap own c.in-Ok.ensures.input) c.in-Ok.ensures.output served.ensures)
    c.end_unwritten-2.ensures

pub returns-in_default : goal.returns-in_default
returns-in_default g c =
    let contents = g.P.Output.Write.contents in
    let reports = g.P.Errors.Write.contents in
    let streams = c.args.streams in
    let sites = c.args.plan.now.sites.items in
    let stations = c.args.plan.now.stations.items in
    let own = operator_input c.args.asked.live.connections in
    let input = own (g.P.Input.Read.remaining streams.input) in
    unwritten_failed contents reports streams.errors c.end_unwritten.result (Service OutOfMemory)
    (λ left ended answered. IsNewRun sites stations None left (TellsNew ended stations input (contents streams.output) answered))
    c.end_unwritten.ensures
