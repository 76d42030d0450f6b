use Rattle.std.proofs.Common.{sym, ◌∙◌}
use Rattle.script_ledgers.{specs.Drafts.planned, specs.Script.settling, proofs.Answered.written_whole, proofs.SettledBy.{settled_known, settled_unknown}}
use Rattle.script_ledgers.proofs.draft.Draft.settle_by.Goals as goal

pub returns-in_default : goal.returns-in_default
returns-in_default c =
    let unknown = settled_unknown (settling c.args.rule) c.args.self.now c.args.site.now (sym c.site.ensures ∙ c.in_default.is) in
    written_whole c.put_fault.result (planned c.args.self.now) _ c.args.reply.now.items c.put_fault.new.reply.items _ unknown c.requires c.put_fault.ensures

pub returns : goal.returns
returns c =
    let known = settled_known (settling c.args.rule) c.args.self.now c.args.site.now c.in-Some.number (sym c.site.ensures ∙ c.in-Some.is) in
    known ∙ (λ i. (planned (sym c.set_settle.ensures i), sym c.requires i))
