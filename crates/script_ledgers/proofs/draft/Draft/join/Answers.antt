use Rattle.std.{proofs.Common.{◌≡◌, [], ◌∷◌, ◌++◌, sym, ap, subst, ◌∙◌, refl, bytes_eq}, specs.List.position}
use Rattle.site_desk.{specs.declared.plan.SitePlan.SitePlan, specs.Plan.{site_number, sites_with}}
use Rattle.ledger_model.{specs.declared.order.Order.TheVariants.Sequence, specs.Settling.default_periods}
use Rattle.script_ledgers.{specs.Drafts.{Drafted, IsPlan, planned}, specs.contracts.draft.Draft.the_view, proofs.Drafting.{joins, past_drafted, past_plan}}
use Rattle.script_ledgers.proofs.draft.Draft.join.Goals as goal

pub declare-requires : goal.declare-requires
declare-requires c = record { room = past_drafted (the_view c.self.inside) c.args.self.now c.args.site c.self.view_is c.self.invariant ∙ c.requires.room }

sites_are : (c : goal.After-declare)
    → c.declare.new.self.sites.items
    ≡ sites_with (position (λ (s : SitePlan). bytes_eq c.args.site s.name) c.args.self.now.sites) c.args.site 0 default_periods Sequence c.args.self.now.sites
sites_are c =
    c.declare.ensures.sites
    ∙ (λ i. sites_with (position (λ (s : SitePlan). bytes_eq c.args.site s.name) c.self.inside.plan.sites.items) c.args.site 0
    (c.default.ensures i) (c.default-2.ensures i) c.self.inside.plan.sites.items)
    ∙ ap (λ (x : Drafted). sites_with (position (λ (s : SitePlan). bytes_eq c.args.site s.name) x.sites) c.args.site 0 default_periods Sequence x.sites) c.self.view_is

stations_are : (c : goal.After-declare)
    → c.declare.new.self.stations.items
    ≡ c.args.self.now.stations
    ++ record {
      site = site_number (position (λ (s : SitePlan). bytes_eq c.args.site s.name) c.args.self.now.sites) c.args.self.now.sites;
      name = c.args.name;
      limits = c.args.self.now.limits;
    }
    ∷ []
stations_are c =
    c.declare.ensures.stations
    ∙ ap (λ (x : Drafted). x.stations
    ++ record { site = site_number (position (λ (s : SitePlan). bytes_eq c.args.site s.name) x.sites) x.sites; name = c.args.name; limits = x.limits }
    ∷ [])
    c.self.view_is

pub invariant_of-self : goal.invariant_of-self
invariant_of-self c =
    let d = c.args.self.now in
    let keeps = subst (λ (x : Drafted). IsPlan x.sites x.stations) c.self.view_is c.self.invariant in
    let joined = joins d (position (λ (s : SitePlan). bytes_eq c.args.site s.name) d.sites) c.args.site c.args.name refl keeps
    (sym (past_plan d c.args.site _ keeps refl) ∙ c.requires.room) c.requires.new in
    subst (λ l. IsPlan l c.declare.new.self.stations.items) (sym (sites_are c)) (subst (IsPlan _) (sym (stations_are c)) joined.0)

pub returns : goal.returns
returns c =
    let d = c.args.self.now in
    let keeps = subst (λ (x : Drafted). IsPlan x.sites x.stations) c.self.view_is c.self.invariant in
    let joined = joins d (position (λ (s : SitePlan). bytes_eq c.args.site s.name) d.sites) c.args.site c.args.name refl keeps
    (sym (past_plan d c.args.site _ keeps refl) ∙ c.requires.room) c.requires.new in
    (λ i. planned (record { limits = ap (λ (x : Drafted). x.limits) c.self.view_is i; sites = sites_are c i; stations = stations_are c i; moment = ap (λ (x : Drafted). x.moment) c.self.view_is i }))
    ∙ joined.1
