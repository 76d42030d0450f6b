use Rattle.std.proofs.Common.{sym, subst}
use Rattle.script_ledgers.{specs.Drafts.IsPlan, specs.Script.lasting, proofs.SettledBy.settled_kept}
use Rattle.script_ledgers.proofs.draft.Draft.set_period.Goals as goal

pub invariant_of-self : goal.invariant_of-self
invariant_of-self c =
    let plan = c.self.inside.plan in
    subst (λ l. IsPlan l c.set_period.new.self.stations.items) (sym c.set_period.ensures.sites)
    (subst (IsPlan _) (sym c.set_period.ensures.stations) (settled_kept (lasting c.args.period) c.args.site plan.sites.items plan.stations.items c.self.invariant))
