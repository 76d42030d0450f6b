use Rattle.std.proofs.Common.{inl}
use Rattle.board_report.proofs.ClosedSites.{value_told}
use Rattle.running_desk.proofs.Replied.{commanded, error_told}
use Rattle.running_desk.proofs.running.Running.put_command.Goals as goal

pub returns-in-Ok-clause-answer : goal.returns-in-Ok-clause-answer
returns-in-Ok-clause-answer g c =
    let named = c.in-Ok.ensures.named in
    let after = c.submit-submitted.new in
    value_told c.submit-submitted.result
    _ _ (λ seen h. commanded (g.S.Delivers.gives c.in-Ok.pass.station named.place) seen c.args.self.now.desk.now.stations
    c.args.name.now c.in-Ok.pass c.args.what after.pass after.reply.items named (h named.place named.there))
    c.submit-submitted.ensures.line

pub returns-in-Ok-clause-submitted : goal.returns-in-Ok-clause-submitted
returns-in-Ok-clause-submitted g c =
    let named = c.in-Ok.ensures.named in
    let after = c.submit-submitted.new in
    value_told c.submit-submitted.result _ _ (λ _ h. inl (c.in-Ok.pass, after.pass, named, h named.place named.there)) c.submit-submitted.ensures.line

pub returns-in-Ok-clause-memory : goal.returns-in-Ok-clause-memory
returns-in-Ok-clause-memory g c = error_told c.submit-submitted.result _ _ (λ why h is. inl (h is)) c.submit-submitted.ensures.memory
