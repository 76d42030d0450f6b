use Rattle.std.{proofs.Common.{◌≡◌, None}, specs.Io.Buffered.writer_contents}
use Rattle.journal_server.{specs.declared.fault.JournalFault.TheVariants.Service, specs.Simulated.IsSimulatedRun}
use Rattle.running_desk.specs.declared.fault.ServiceFault.TheVariants.{OutOfMemory}
use Rattle.ocpp_board.proofs.Runs.{simulated_run, unwritten_failed, unwritten_run}
use Rattle.ocpp_board.proofs.serving.simulated.Goals as goal

pub returns : goal.returns
returns g c =
    let contents = g.P.Output.Write.contents in
    let reports = g.P.Errors.Write.contents in
    let streams = c.args.streams in
    let served = c.simulate-served in
    unwritten_run contents (λ _. None) (writer_contents contents) reports streams.errors c.end_unwritten-2.result served.result
    (λ left ended answered. (answered ≡ contents streams.output) × IsSimulatedRun c.args.stations left)
    (simulated_run served.result (λ _. None) (writer_contents contents) c.args.stations c.in-Ok.writer (contents streams.output) c.in-Ok.ensures.output served.ensures)
    c.end_unwritten-2.ensures

pub returns-in_default : goal.returns-in_default
returns-in_default g c =
    let contents = g.P.Output.Write.contents in
    let reports = g.P.Errors.Write.contents in
    let streams = c.args.streams in
    unwritten_failed contents reports streams.errors c.end_unwritten.result (Service OutOfMemory)
    (λ left ended answered. (answered ≡ contents streams.output) × IsSimulatedRun c.args.stations left)
    c.end_unwritten.ensures
