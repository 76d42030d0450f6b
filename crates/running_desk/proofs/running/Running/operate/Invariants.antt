use Rattle.running_desk.{proofs.Replies.SoFar, specs.Ordered.lines_in, specs.Reading.orders_coming}
use Rattle.running_desk.proofs.running.Running.operate.Given as goal

-- the lines that were answered so far
abbrev pub invariant-loop : goal.invariant-loop
invariant-loop g l =
    SoFar g.S.Delivers.gives (g.S.Serves.shows l.self.serves.now) l.self.plan.now.sites.items l.self.desk.now.stations
    (lines_in (g.I.Read.remaining l.fn.input)) (orders_coming g.I.Read.remaining l.orders) (g.W.Write.contents l.fn.writer) (g.W.Write.contents l.writer) l.seen.items
