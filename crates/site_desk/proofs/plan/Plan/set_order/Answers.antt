use Rattle.std.{proofs.Common.{◌∙◌, length, slice_index_or, slice_set}, specs.List.refill}
use Rattle.site_desk.{specs.declared.plan.SitePlan.SitePlan, proofs.Declared.site_set}
use Rattle.site_desk.proofs.plan.Plan.set_order.Goals as goal

pub returns-clause-sites : goal.returns-clause-sites
returns-clause-sites c =
    let sites = c.args.self.now.sites.items in
    let d = c.index-as_mut_slice-site.result in
    let same = c.as_mut_slice.ensures.value in
    let change : SitePlan → SitePlan = λ s. record s { order = c.args.order } in
    (λ i. refill (length sites) sites (slice_set (same i) c.args.site (change (slice_index_or (same i) c.args.site d)))) ∙ site_set change c.args.site d sites c.requires
