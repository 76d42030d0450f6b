use Rattle.std.proofs.Common.{sym, ◌∙◌}
use Rattle.script_ledgers.{specs.Drafts.planned, proofs.Answered.written_whole, proofs.SettledBy.{order_known, order_unknown}}
use Rattle.script_ledgers.proofs.draft.Draft.order_by.Goals as goal

pub returns-in_default : goal.returns-in_default
returns-in_default c =
    let unknown = order_unknown c.args.self.now c.args.site.now c.args.order (sym c.site.ensures ∙ c.in_default.is) in
    written_whole c.put_fault.result (planned c.args.self.now) _ c.args.reply.now.items c.put_fault.new.reply.items _ unknown c.requires c.put_fault.ensures

pub returns : goal.returns
returns c =
    let known = order_known c.args.self.now c.args.site.now c.in-Some.number c.args.order (sym c.site.ensures ∙ c.in-Some.is) in
    known ∙ (λ i. (planned (sym c.set_order.ensures i), sym c.requires i))
