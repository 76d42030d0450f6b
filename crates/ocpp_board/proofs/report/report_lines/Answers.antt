use Rattle.std.proofs.Common.{◌++◌}
use Rattle.ocpp_board.proofs.Runs.{front_of_more, writes_then}
use Rattle.ocpp_board.proofs.report.report_lines.Goals as goal

pub returns-in-Ok : goal.returns-in-Ok
returns-in-Ok g c = let first = c.in-Ok.ensures in writes_then _ _ _ _ _ _ first.0 first.1 first.2 c.write_bytes-in-Ok.ensures

pub returns-in-Err : goal.returns-in-Err
returns-in-Err g c =
    let first = c.in-Err.ensures in
    let front = first.2 in
    (first.0, first.1, (front.0 ++ c.args.cause.now, front_of_more c.args.line.now c.args.cause.now first.0 front.0 front.1))
