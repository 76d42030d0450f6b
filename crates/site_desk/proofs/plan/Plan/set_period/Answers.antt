use Rattle.std.{proofs.Common.{◌∙◌, ap, length, slice_index_or, slice_set}, specs.List.refill}
use Rattle.ledger_model.specs.Periods.{Periods}
use Rattle.site_desk.{specs.declared.plan.SitePlan.SitePlan, specs.Plan.sites_changed, proofs.Declared.{periods_changed, site_set}}
use Rattle.site_desk.proofs.plan.Plan.set_period.Goals as goal

pub returns-clause-sites : goal.returns-clause-sites
returns-clause-sites c =
    let sites = c.args.self.now.sites.items in
    let d = c.index-as_mut_slice-site.result in
    let same = c.as_mut_slice.ensures.value in
    let change : Periods → Periods = λ p. record p { length = c.args.period } in
    let put : SitePlan → SitePlan = λ s. record s { period = c.with_length-lasting.result } in
    (λ i. refill (length sites) sites (slice_set (same i) c.args.site (put (slice_index_or (same i) c.args.site d))))
    ∙ site_set put c.args.site d sites c.requires
    ∙ ap (λ p. sites_changed (λ s. record s { period = p }) c.args.site sites) (c.with_length-lasting.ensures ∙ ap change c.period.ensures)
    ∙ periods_changed change c.args.site sites
