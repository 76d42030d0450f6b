use Rattle.std.proofs.Common.{ap, sym, ◌∙◌, subst}
use Rattle.ledger_model.{specs.Laws.IsAccepted, specs.Step.answer}
use Rattle.site_desk.{specs.Cell.IsInService, specs.Roster.StandsAt, specs.Submit.CanJudge}
use Rattle.station_ledger.specs.Judged.{IsJudged}
use Rattle.kept_desk.{specs.Entries.bytes_of, specs.Speaking.SpeaksOf, proofs.Left.kept_more, proofs.Received.{received, submitted}}
use Rattle.kept_desk.proofs.cell.KeptCell.submit_written.Goals as goal

pub write-requires-clause-speaks : goal.write-requires-clause-speaks
write-requires-clause-speaks g c =
    let serves = subst IsInService (sym c.self.view_is) c.requires.can.serves in
    let station = (c.self.invariant serves).station ∙ ap (λ d. d.station) c.self.view_is ∙ c.requires.can.stands.station in
    subst (λ n. SpeaksOf (g.K.Opening.name n) (bytes_of c.args.way.now.line) c.args.judged.command) (sym station) c.requires.speaks

pub settle_written-settled-requires : goal.settle_written-settled-requires
settle_written-settled-requires g c = record {
  can = subst (λ d. CanJudge c.args.at.number c.args.at.place.now d c.args.pass.now) (sym c.self.view_is) c.requires.can;
  judged = subst (λ d. IsJudged d.limits d.content c.args.judged.command c.args.judged.judgement.answer) (sym c.self.view_is) c.requires.judged;
}

pub invariant_of-self-2 : goal.invariant_of-self-2
invariant_of-self-2 g c =
    let serves = subst IsInService (sym c.self.view_is) c.requires.can.serves in
    let accepted = subst (λ d. IsAccepted (answer d.limits d.content c.args.judged.command)) (sym c.self.view_is) (subst IsAccepted c.requires.judged.answered c.requires.accepted) in
    λ s.
    kept_more g.K.Opening.first c.self.inside.cell c.settle_written-settled.new.cell c.args.pass.now c.self.inside.share c.write.new.share
    c.args.way.now.note.now (bytes_of c.args.way.now.line) c.args.judged.command c.requires.judged.admissible accepted
    (c.settle_written-settled.ensures.settled s) c.in-Ok.ensures.known (c.self.invariant serves)

pub returns-clause-received : goal.returns-clause-received
returns-clause-received g c =
    let serves = subst IsInService (sym c.self.view_is) c.requires.can.serves in
    let stands = subst (StandsAt c.args.at.number c.args.at.place.now) (sym c.self.view_is) c.requires.can.stands in
    received c.args.at.place.now g.K.Opening.first c.args.at.number c.self.inside.cell c.self.inside.share c.args.way.now.note.now (bytes_of c.args.way.now.line) c.args.judged.command
    stands (c.self.invariant serves) c.settle_written-settled.result _ _ c.in-Ok.moment _ c.in-Ok.ensures.noted c.settle_written-settled.ensures.tells
    c.with_moment.ensures.accepted c.with_moment.ensures.other

pub returns-clause-submitted : goal.returns-clause-submitted
returns-clause-submitted g c =
    submitted c.args.at.place.now c.args.pass.now c.args.judged.command c.settle_written-settled.result _ _ _ _ c.in-Ok.moment
    c.settle_written-settled.ensures.submitted c.settle_written-settled.ensures.unchanged c.with_moment.ensures.accepted c.with_moment.ensures.other
