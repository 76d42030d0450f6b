use Rattle.std.proofs.Common.{subst}
use Rattle.ledger_model.specs.declared.answer.Answer.{Answer}
use Rattle.site_desk.specs.Submit.{Submitted, TellsOf}
use Rattle.kept_desk.proofs.Received.{refused_same}
use Rattle.kept_desk.proofs.cell.settle_written.Goals as goal

pub returns-in-Accepted-clause-tells : goal.returns-in-Accepted-clause-tells
returns-in-Accepted-clause-tells g c =
    subst (λ (a : Answer). TellsOf c.args.at.place.now c.args.cell.now.content c.args.judged.command a c.in-Some.told) c.in-Accepted.is c.in-Some.ensures.tells

pub returns-in-Accepted-clause-submitted : goal.returns-in-Accepted-clause-submitted
returns-in-Accepted-clause-submitted g c =
    subst (λ (a : Answer). Submitted c.args.at.place.now c.args.pass.now c.args.judged.command a c.settle_at.new.pass c.in-Some.told) c.in-Accepted.is c.in-Some.ensures.submitted

pub returns-in-Repeat-clause-unchanged : goal.returns-in-Repeat-clause-unchanged
returns-in-Repeat-clause-unchanged g c _ =
    let h = subst (λ (a : Answer). Submitted c.args.at.place.now c.args.pass.now c.args.judged.command a c.settle_at.new.pass c.in-Some.told) c.in-Repeat.is c.in-Some.ensures.submitted in
    h.unchanged.pass

pub returns-in-Refused-clause-unchanged : goal.returns-in-Refused-clause-unchanged
returns-in-Refused-clause-unchanged g c _ =
    refused_same _ _ _ c.in-Refused._why _ c.in-Some.told
    (subst (λ (a : Answer). Submitted c.args.at.place.now c.args.pass.now c.args.judged.command a c.settle_at.new.pass c.in-Some.told) c.in-Refused.is c.in-Some.ensures.submitted)
