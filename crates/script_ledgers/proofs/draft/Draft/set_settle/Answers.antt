use Rattle.std.proofs.Common.{sym, subst}
use Rattle.script_ledgers.{specs.Drafts.IsPlan, specs.Script.settling, proofs.SettledBy.settled_kept}
use Rattle.script_ledgers.proofs.draft.Draft.set_settle.Goals as goal

pub invariant_of-self : goal.invariant_of-self
invariant_of-self c =
    let plan = c.self.inside.plan in
    subst (λ l. IsPlan l c.set_settle.new.self.stations.items) (sym c.set_settle.ensures.sites)
    (subst (IsPlan _) (sym c.set_settle.ensures.stations) (settled_kept (settling c.args.rule) c.args.site plan.sites.items plan.stations.items c.self.invariant))
