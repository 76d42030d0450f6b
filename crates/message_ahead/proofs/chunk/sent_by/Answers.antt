use Rattle.std.proofs.Common.{subst, sym}
use Rattle.message_ahead.{specs.Ahead.{Sends, found_delivery}, proofs.Found.if-some}
use Rattle.message_ahead.proofs.chunk.sent_by.Goals as goal

pub returns-then-is_line_at : goal.returns-then-is_line_at
returns-then-is_line_at c =
    let sends = subst (λ line. Sends line c.args.found.station (found_delivery c.args.readings.now c.args.found)) (c.is_line_at.ensures c.if-is_line_at.true) c.requires.3 in
    if-some c.into_sent.result
    (λ s is. subst (λ station. Sends c.args.line.now station s.delivery) (sym is.0) (subst (Sends c.args.line.now c.args.found.station) (sym is.1) sends))
    c.into_sent.ensures
