use Rattle.std.proofs.Common.{sym, subst}
use Rattle.script_ledgers.{specs.Drafts.IsPlan, proofs.SettledBy.ordered_kept}
use Rattle.script_ledgers.proofs.draft.Draft.set_order.Goals as goal

pub invariant_of-self : goal.invariant_of-self
invariant_of-self c =
    let plan = c.self.inside.plan in
    subst (λ l. IsPlan l c.set_order.new.self.stations.items) (sym c.set_order.ensures.sites)
    (subst (IsPlan _) (sym c.set_order.ensures.stations) (ordered_kept c.args.site c.args.order plan.sites.items plan.stations.items c.self.invariant))
