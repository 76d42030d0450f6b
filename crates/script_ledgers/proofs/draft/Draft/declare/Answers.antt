use Rattle.std.proofs.Common.{sym, ◌∙◌}
use Rattle.script_ledgers.{specs.Drafts.planned, proofs.Drafting.{declared_once, declared_twice}, proofs.Answered.written_whole}
use Rattle.script_ledgers.proofs.draft.Draft.declare.Goals as goal

pub returns-then-is_some : goal.returns-then-is_some
returns-then-is_some c =
    let twice = declared_twice c.args.self.now c.args.site c.args.name c.station.result
    (sym c.is_past_plan.ensures ∙ c.if-is_past_plan.false) c.station.ensures (sym c.is_some.ensures ∙ c.if-is_some.true) in
    written_whole c.put_fault-then-is_some.result (planned c.args.self.now) _ c.args.reply.now.items c.put_fault-then-is_some.new.reply.items _ twice c.requires c.put_fault-then-is_some.ensures

pub returns : goal.returns
returns c =
    let once = declared_once c.args.self.now c.args.site c.args.name c.station.result
    (sym c.is_past_plan.ensures ∙ c.if-is_past_plan.false) c.station.ensures (sym c.is_some.ensures ∙ c.if-is_some.false) in
    once ∙ (λ i. (sym c.join.ensures i, sym c.requires i))
