use Rattle.std.proofs.Common.{inl}
use Rattle.board_report.proofs.ClosedSites.{value_told}
use Rattle.running_desk.proofs.Replied.{error_told, sent}
use Rattle.running_desk.proofs.running.Running.receive.Goals as goal

pub returns-in-Ok-clause-sent : goal.returns-in-Ok-clause-sent
returns-in-Ok-clause-sent g c = value_told c.deliver-delivered.result _ _ (λ seen h. sent c.args.detail g.S.Delivers.gives seen _ _ _ c.in-Ok.ensures.named _ _ _ h) c.deliver-delivered.ensures.line

pub returns-in-Ok-clause-messaged : goal.returns-in-Ok-clause-messaged
returns-in-Ok-clause-messaged g c =
    value_told c.deliver-delivered.result _ _ (λ seen h. inl (c.in-Ok.pass, c.deliver-delivered.new.pass, c.in-Ok.ensures.named, h)) c.deliver-delivered.ensures.line

pub returns-in-Ok-clause-memory : goal.returns-in-Ok-clause-memory
returns-in-Ok-clause-memory g c = error_told c.deliver-delivered.result _ _ (λ why h is. inl (h is)) c.deliver-delivered.ensures.memory
