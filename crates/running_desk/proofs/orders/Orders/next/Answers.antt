use Rattle.std.proofs.Common.{ap, Ok}
use Rattle.running_desk.proofs.Ordered.{next_comes}
use Rattle.running_desk.proofs.orders.Orders.next.Goals as goal

pub returns-in-Ok : goal.returns-in-Ok
returns-in-Ok g c =
    let was = c.args.self.now in
    let lines = c.next_line.new.self in
    next_comes c.in-Ok.end c.ending_of.result lines.held.items was.lines.max_line_bytes lines.max_line_bytes was.lines.room lines.room
    (g.I.Read.remaining was.reader.input.now) (g.I.Read.remaining c.next_line.new.reader.input.now)
    was.short c.in-Ok.ensures.max_line_bytes c.ending_of.ensures c.in-Ok.ensures.takes (λ e. c.in-Ok.ensures.end (ap Ok e))
