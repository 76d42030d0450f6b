use Rattle.std.proofs.Common.{cond, option_map, sym, ap, ◌∙◌}
use Rattle.std.specs.FinMap as finite
use Rattle.ledger_model.{specs.declared.answer.Answer.TheVariants.{Repeat, Refused}, specs.declared.answer.Refusal.TheVariants.ConflictingEvent}
use Rattle.event_store.specs.Slots.{Held}
use Rattle.station_ledger.{specs.Ledger.Ledger, proofs.Judged.answer_known}
use Rattle.station_ledger.proofs.ledger.StationLedger.judge_delivery.Goals as goal

pub returns-then-same_as : goal.returns-then-same_as
returns-then-same_as c =
    let seen = sym (ap (option_map (λ (h : Held). h.1)) c.in-Some.is) ∙ c.look-found.ensures ∙ ap (λ (l : Ledger). finite.get l.content.events c.args.key.now) c.self.view_is in
    ap (λ b. cond b Repeat (Refused ConflictingEvent)) (sym c.if-same_as.true) ∙ answer_known _ _ c.args.key.now c.args.event.now _ _ _ seen c.same_as.ensures

pub returns-else-same_as : goal.returns-else-same_as
returns-else-same_as c =
    let seen = sym (ap (option_map (λ (h : Held). h.1)) c.in-Some.is) ∙ c.look-found.ensures ∙ ap (λ (l : Ledger). finite.get l.content.events c.args.key.now) c.self.view_is in
    ap (λ b. cond b Repeat (Refused ConflictingEvent)) (sym c.if-same_as.false) ∙ answer_known _ _ c.args.key.now c.args.event.now _ _ _ seen c.same_as.ensures
