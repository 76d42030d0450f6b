use Rattle.std.{proofs.Common.{Err, refl}, specs.Io.Buffered.{reader_remaining, writer_contents}}
use Rattle.journal_server.{specs.declared.fault.JournalFault.TheVariants.Service, specs.Served.{IsRestoredRun, TellsRestored}}
use Rattle.running_desk.specs.declared.fault.ServiceFault.TheVariants.{OutOfMemory}
use Rattle.ocpp_board.proofs.Runs.{journal_run, restored_run}
use Rattle.ocpp_board.proofs.serving.restored.Goals as goal

pub returns : goal.returns
returns g c =
    let contents = g.P.Output.Write.contents in
    let reports = g.P.Errors.Write.contents in
    let streams = c.args.streams in
    let consoles = g.P.Console.Write.contents in
    let allows = c.args.restoring.allows_left_out in
    let connections = c.args.restoring.journalling.live.connections in
    let input = g.P.Input.Read.remaining streams.input in
    let served = c.serve_restored-served in
    journal_run contents consoles reports streams.errors c.end_journalled-2.result served.result
    (λ left ended answered. IsRestoredRun allows input (contents streams.output) left (TellsRestored ended connections (consoles streams.console) answered))
    (restored_run served.result contents consoles allows connections (writer_contents contents c.in-Ok.journal)
    (contents streams.output) (reader_remaining g.P.Input.Read.remaining c.in-Ok.reader) input (consoles streams.console)
    (consoles streams.console) c.in-Ok.ensures.output c.in-Ok.ensures.input refl served.ensures.serves)
    c.end_journalled-2.ensures

pub returns-in_default : goal.returns-in_default
returns-in_default g c =
    let contents = g.P.Output.Write.contents in
    let reports = g.P.Errors.Write.contents in
    let streams = c.args.streams in
    let consoles = g.P.Console.Write.contents in
    let allows = c.args.restoring.allows_left_out in
    let connections = c.args.restoring.journalling.live.connections in
    let input = g.P.Input.Read.remaining streams.input in
    journal_run contents consoles reports streams.errors c.end_journalled.result (Err (Service OutOfMemory))
    (λ left ended answered. IsRestoredRun allows input (contents streams.output) left (TellsRestored ended connections (consoles streams.console) answered))
    tt
    c.end_journalled.ensures
