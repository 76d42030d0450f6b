use Rattle.std.{proofs.Common.{◌≡◌, ◌++◌, codes, take}, specs.List.flat_map}
use Rattle.live_server.specs.Browsing.{site_link}
use Rattle.live_server.proofs.boards.answer_sites.Given as goal

-- the page with the links so far
abbrev pub invariant-loop-site : goal.invariant-loop-site
invariant-loop-site l = l.page.items ≡ codes "<!DOCTYPE html>\n<title>ocpp_board</title>\n<ul>\n" ++ flat_map (λ s. site_link s.name) (take l.site-index l.sites)
