use Rattle.std.proofs.Common.{All, ap, subst, ◌∙◌}
use Rattle.live_server.{specs.Browsing.IsSeenWithBoards, specs.declared.service.Live.Live, specs.Told.operator_input, proofs.Told.replies_along}
use Rattle.running_desk.specs.Ordered.{lines_in}
use Rattle.site_desk.{specs.declared.plan.Plan.Plan, specs.Roster.Roster}
use Rattle.live_server.proofs.service.serve_plan_at.Goals as goal

pub returns-clause-boards : goal.returns-clause-boards
returns-clause-boards g c =
    subst (λ s. All (IsSeenWithBoards (g.S.Serves.shows s)) c.serve_beside-ended.result.1.items) (c.in_ok-shared.ensures.serves ∙ c.open-running.ensures.serves) c.serve_beside-ended.ensures.boards

pub returns-clause-tells : goal.returns-clause-tells
returns-clause-tells g c =
    let shared = c.in_ok-shared.ensures in
    let running = c.open-running.ensures in
    replies_along g.S.Delivers.gives g.S.Serves.shows c.serve_beside-ended.result.0 (λ seen. seen.items)
    _ _ _ _ _ _ _ _ _ _ _ (shared.serves ∙ running.serves) (ap (λ (p : Plan). p.sites.items) (shared.plan ∙ running.plan))
    (ap (λ (d : Roster). d.stations) (shared.desk ∙ running.desk))
    (ap (λ (l : Live). lines_in (operator_input l.connections (g.I.Read.remaining c.args.input.now))) shared.live) c.in_ok-acceptors.ensures c.serve_beside-ended.ensures.tells
