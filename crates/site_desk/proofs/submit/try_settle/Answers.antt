use Rattle.std.proofs.Common.{[], refl, sym, ◌∙◌, arith}
use Rattle.ledger_model.specs.declared.answer.Answer.TheVariants.{Repeat, Refused}
use Rattle.site_book.specs.Book.{Book}
use Rattle.site_desk.{specs.Settle.cell_after, proofs.Settled.judged_here, proofs.Submits.submitted}
use Rattle.site_desk.proofs.submit.try_settle.Goals as goal

pub settle_at-requires-clause-judged : goal.settle_at-requires-clause-judged
settle_at-requires-clause-judged g c =
    judged_here _ _ _ _ c.args.command c.judgement-judgement.result.answer c.ledger.ensures.limits c.ledger.ensures.content c.judgement-judgement.ensures

pub returns-in-Repeat : goal.returns-in-Repeat
returns-in-Repeat g c =
    let may = c.requires.can in
    let cell = c.args.cell.now in
    let book : Book = record { site = c.args.at.place.now.site; limits = []; posts = [] } in
    let is = sym c.in-Repeat.is ∙ (judged_here _ _ _ _ c.args.command _ c.ledger.ensures.limits c.ledger.ensures.content c.judgement-judgement.ensures).answered in
    submitted c.args.at.place.now c.args.at.number cell book c.args.pass.now c.args.command may.stands refl may.reached may.counted may.knows
    Repeat (cell_after cell c.args.pass.now c.args.command) book c.args.pass.now _ (λ no. absurd no) is refl refl (omega arith) refl refl

pub returns-in-Refused : goal.returns-in-Refused
returns-in-Refused g c =
    let may = c.requires.can in
    let cell = c.args.cell.now in
    let book : Book = record { site = c.args.at.place.now.site; limits = []; posts = [] } in
    let is = sym c.in-Refused.is ∙ (judged_here _ _ _ _ c.args.command _ c.ledger.ensures.limits c.ledger.ensures.content c.judgement-judgement.ensures).answered in
    submitted c.args.at.place.now c.args.at.number cell book c.args.pass.now c.args.command may.stands refl may.reached may.counted may.knows
    (Refused c.in-Refused.why) (cell_after cell c.args.pass.now c.args.command) book c.args.pass.now _ (λ no. absurd no) is refl refl (omega arith) refl refl
