use Rattle.std.proofs.Common.{sym, ◌∙◌, arith}
use Rattle.site_desk.proofs.Twice.{twice_here, twice_later}
use Rattle.site_desk.proofs.plan.are_sites_twice.Goals as goal

pub returns-then-has_site : goal.returns-then-has_site
returns-then-has_site c =
    let here = twice_here (λ s. s.name) c.args.sites.now c.loop-k.k c.index-sites-k.result (omega arith) (sym c.has_site.ensures ∙ c.if-has_site.true) in
    sym here ∙ c.loop-k.invariant

pub loop-k-preserved : goal.loop-k-preserved
loop-k-preserved c =
    twice_later (λ s. s.name) c.args.sites.now c.loop-k.k c.index-sites-k.result (omega arith) (sym c.has_site.ensures ∙ c.if-has_site.false) ∙ c.loop-k.invariant
