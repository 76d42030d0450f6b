use Rattle.std.proofs.Common.{ℕ, List, ◌++◌, codes, ap, ◌∙◌}
use Rattle.live_server.{specs.Browsing.site_link, proofs.Browsing.one_link_more}
use Rattle.live_server.proofs.boards.answer_sites.Goals as goal

pub loop-site-preserved : goal.loop-site-preserved
loop-site-preserved c =
    c.in_ok-put_link.ensures
    ∙ (ap (λ (p : List ℕ). p ++ site_link c.text.result.now) c.loop-site.invariant
    ∙ one_link_more (codes "<!DOCTYPE html>\n<title>ocpp_board</title>\n<ul>\n") c.as_slice-sites.result.now c.loop-site.site-index
    c.site-item.result c.text.result.now c.loop-site-test.true c.site-item.is c.text.ensures.value)
