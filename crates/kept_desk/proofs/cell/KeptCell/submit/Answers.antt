use Rattle.std.proofs.Common.{[], refl, ap, sym, subst, ◌∙◌, arith}
use Rattle.ledger_model.{specs.declared.answer.Answer.TheVariants.{Repeat, Refused}, specs.Laws.IsAccepted, specs.Step.answer}
use Rattle.site_book.specs.Book.{Book}
use Rattle.site_desk.{specs.Cell.IsInService, specs.Roster.StandsAt, specs.Settle.cell_after, proofs.Settled.judged_here, proofs.Submits.submitted}
use Rattle.kept_desk.proofs.Received.{unmoved}
use Rattle.kept_desk.proofs.cell.KeptCell.submit.Goals as goal

pub submit_written-requires-clause-judged : goal.submit_written-requires-clause-judged
submit_written-requires-clause-judged g c =
    judged_here _ _ _ _ c.args.command c.judgement-judgement.result.answer
    (c.ledger.ensures.limits ∙ ap (λ d. d.limits) c.self.view_is) (c.ledger.ensures.content ∙ ap (λ d. d.content) c.self.view_is)
    c.judgement-judgement.ensures

pub submit_written-requires-clause-accepted : goal.submit_written-requires-clause-accepted
submit_written-requires-clause-accepted g c = subst IsAccepted (sym c.in-Accepted.is) tt

pub returns-in-Repeat-clause-submitted : goal.returns-in-Repeat-clause-submitted
returns-in-Repeat-clause-submitted g c =
    let may = c.requires.can in
    let cell = c.args.self.now in
    let book : Book = record { site = c.args.at.place.now.site; limits = []; posts = [] } in
    let is = sym c.in-Repeat.is ∙ c.judgement-judgement.ensures.answered
    ∙ (λ i. answer (c.ledger.ensures.limits i) (c.ledger.ensures.content i) c.args.command)
    ∙ ap (λ d. answer d.limits d.content c.args.command) c.self.view_is in
    submitted c.args.at.place.now c.args.at.number cell book c.args.pass.now c.args.command may.stands refl may.reached may.counted may.knows
    Repeat (cell_after cell c.args.pass.now c.args.command) book c.args.pass.now _ (λ no. absurd no) is refl refl (omega arith) refl refl

pub returns-in-Refused-clause-submitted : goal.returns-in-Refused-clause-submitted
returns-in-Refused-clause-submitted g c =
    let may = c.requires.can in
    let cell = c.args.self.now in
    let book : Book = record { site = c.args.at.place.now.site; limits = []; posts = [] } in
    let is = sym c.in-Refused.is ∙ c.judgement-judgement.ensures.answered
    ∙ (λ i. answer (c.ledger.ensures.limits i) (c.ledger.ensures.content i) c.args.command)
    ∙ ap (λ d. answer d.limits d.content c.args.command) c.self.view_is in
    submitted c.args.at.place.now c.args.at.number cell book c.args.pass.now c.args.command may.stands refl may.reached may.counted may.knows
    (Refused c.in-Refused.why) (cell_after cell c.args.pass.now c.args.command) book c.args.pass.now _ (λ no. absurd no) is refl refl (omega arith) refl refl

pub returns-in-Repeat-clause-received : goal.returns-in-Repeat-clause-received
returns-in-Repeat-clause-received g c =
    let serves = subst IsInService (sym c.self.view_is) c.requires.can.serves in
    let stands = subst (StandsAt c.args.at.number c.args.at.place.now) (sym c.self.view_is) c.requires.can.stands in
    let is = sym c.in-Repeat.is ∙ c.judgement-judgement.ensures.answered ∙ (λ i. answer (c.ledger.ensures.limits i) (c.ledger.ensures.content i) c.args.command) in
    unmoved c.args.at.place.now g.K.Opening.first c.args.at.number c.self.inside.cell c.self.inside.share [] [] c.args.command stands (c.self.invariant serves)
    Repeat _ c.look.ensures.own (sym is)

pub returns-in-Refused-clause-received : goal.returns-in-Refused-clause-received
returns-in-Refused-clause-received g c =
    let serves = subst IsInService (sym c.self.view_is) c.requires.can.serves in
    let stands = subst (StandsAt c.args.at.number c.args.at.place.now) (sym c.self.view_is) c.requires.can.stands in
    let is = sym c.in-Refused.is ∙ c.judgement-judgement.ensures.answered ∙ (λ i. answer (c.ledger.ensures.limits i) (c.ledger.ensures.content i) c.args.command) in
    unmoved c.args.at.place.now g.K.Opening.first c.args.at.number c.self.inside.cell c.self.inside.share [] [] c.args.command stands (c.self.invariant serves)
    (Refused c.in-Refused.why) _ c.look-moment.ensures.own (sym is)
