use Rattle.live_server.proofs.Told.{of_nobody, of_operator}
use Rattle.live_server.proofs.service.answer_lines.Goals as goal

pub returns-in-None : goal.returns-in-None
returns-in-None g c =
    of_operator _ _ _ _ c.operate.result (λ seen. seen.items) c.args.shared.now.live.connections (g.I.Read.remaining c.args.input.now) _ _ c.in-None.is c.operate.ensures

pub returns-in-Some : goal.returns-in-Some
returns-in-Some g c = of_nobody _ _ _ _ c.args.shared.now.live.connections _ (g.I.Read.remaining c.args.input.now) _ _ c.in-Some.is c.new.ensures.items
