use Rattle.std.{proofs.Common.{None, refl}, specs.Io.Buffered.{reader_remaining, writer_contents}}
use Rattle.journal_server.{specs.declared.fault.JournalFault.TheVariants.Service, specs.Served.{IsRestoredRun, TellsRestored}}
use Rattle.running_desk.specs.declared.fault.ServiceFault.TheVariants.{OutOfMemory}
use Rattle.ocpp_board.proofs.Runs.{restored_run, unwritten_failed, unwritten_run}
use Rattle.ocpp_board.proofs.serving.restored_live.Goals as goal

pub returns : goal.returns
returns g c =
    let contents = g.P.Output.Write.contents in
    let reports = g.P.Errors.Write.contents in
    let streams = c.args.streams in
    let allows = c.args.restoring.allows_left_out in
    let connections = c.args.restoring.journalling.live.connections in
    let input = g.P.Input.Read.remaining streams.input in
    let served = c.serve_restored-served in
    unwritten_run contents (λ _. None) (writer_contents contents) reports streams.errors c.end_unwritten-2.result served.result
    (λ left ended answered. IsRestoredRun allows input None left (TellsRestored ended connections (contents streams.output) answered))
    (restored_run served.result (λ _. None) (writer_contents contents) allows connections None None
    (reader_remaining g.P.Input.Read.remaining c.in-Ok.reader) input (writer_contents contents c.in-Ok.writer)
    (contents streams.output) refl c.in-Ok.ensures.input c.in-Ok.ensures.output served.ensures.serves)
    c.end_unwritten-2.ensures

pub returns-in_default : goal.returns-in_default
returns-in_default g c =
    let contents = g.P.Output.Write.contents in
    let reports = g.P.Errors.Write.contents in
    let streams = c.args.streams in
    let allows = c.args.restoring.allows_left_out in
    let connections = c.args.restoring.journalling.live.connections in
    let input = g.P.Input.Read.remaining streams.input in
    unwritten_failed contents reports streams.errors c.end_unwritten.result (Service OutOfMemory)
    (λ left ended answered. IsRestoredRun allows input None left (TellsRestored ended connections (contents streams.output) answered))
    c.end_unwritten.ensures
