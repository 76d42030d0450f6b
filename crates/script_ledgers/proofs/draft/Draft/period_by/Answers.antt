use Rattle.std.{proofs.Common.{sym, ap, ◌∙◌}, specs.Option.is_some}
use Rattle.script_ledgers.{specs.Drafts.planned, proofs.Answered.written_whole, proofs.SettledBy.{period_known, period_unknown}}
use Rattle.script_ledgers.proofs.draft.Draft.period_by.Goals as goal

pub returns-in_default-site : goal.returns-in_default-site
returns-in_default-site c =
    let unknown = period_unknown c.args.self.now c.args.site.now c.args.seconds (sym c.period_of.ensures.is ∙ ap is_some c.in-Some.is) (sym c.site.ensures ∙ c.in_default-site.is) in
    written_whole c.put_fault-in_default-site.result (planned c.args.self.now) _ c.args.reply.now.items
    c.put_fault-in_default-site.new.reply.items _ unknown c.requires c.put_fault-in_default-site.ensures

pub returns : goal.returns
returns c =
    let known = period_known c.args.self.now c.args.site.now c.args.seconds c.in-Some-site.number c.in-Some.period
    (sym c.period_of.ensures.is ∙ ap is_some c.in-Some.is) c.in-Some.ensures.value (sym c.site.ensures ∙ c.in-Some-site.is) in
    known ∙ (λ i. (planned (sym c.set_period.ensures i), sym c.requires i))
