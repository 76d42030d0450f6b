use Rattle.std.proofs.Common.{◌≡◌, rules, sym, ap, subst, ◌∙◌}
use Rattle.ledger_model.{specs.declared.answer.Answer.TheVariants.Accepted, specs.Step.{Reached, answer}}
use Rattle.station_ledger.{specs.Kept.{IsReady, content_in}, specs.Ledger.Ledger, proofs.Reaching.{can_do, kept_after}, proofs.ledger.StationLedger.apply_judged.Goals.In-Accepted}
use Rattle.station_ledger.proofs.ledger.StationLedger.apply_judged.Goals as goal

accepted : (c : In-Accepted) → answer c.self.inside.limits (content_in c.self.inside.chains c.self.inside.changes) c.args.command ≡ Accepted c.in-Accepted.changes
accepted c = ap (λ (x : Ledger). answer x.limits x.content c.args.command) c.self.view_is ∙ sym (sym c.in-Accepted.is ∙ c.requires.answered)

pub carry_out-requires : goal.carry_out-requires
carry_out-requires c =
    let ready : IsReady c.self.inside.chains c.args.command = search rules in
    can_do c.self.invariant c.args.command c.requires.admissible (accepted (goal.at.carry_out-requires c).In-Accepted) ready

pub invariant_of-self : goal.invariant_of-self
invariant_of-self c = kept_after c.self.invariant c.args.command c.requires.admissible (accepted (goal.at.invariant_of-self c).In-Accepted) c.carry_out.ensures.done

pub returns-in-Accepted : goal.returns-in-Accepted
returns-in-Accepted c =
    let kept = kept_after c.self.invariant c.args.command c.requires.admissible (accepted (goal.at.returns-in-Accepted c).In-Accepted) c.carry_out.ensures.done in
    search (rules, sym c.in-Accepted.is ∙ c.requires.answered, kept.reached)

pub returns-in-Repeat : goal.returns-in-Repeat
returns-in-Repeat c = search (rules, sym c.in-Repeat.is ∙ c.requires.answered, subst (λ (x : Ledger). Reached x.limits x.content.changes x.content) c.self.view_is c.self.invariant.reached)

pub returns : goal.returns
returns c = search (rules, sym c.in-Refused.is ∙ c.requires.answered, subst (λ (x : Ledger). Reached x.limits x.content.changes x.content) c.self.view_is c.self.invariant.reached)
