use Rattle.std.{proofs.Common.{◌≡◌, [], ◌∷◌, ◌++◌, sym, ap, ◌∙◌, bytes_eq}, proofs.lemmas.List.take_rest, specs.List.position}
use Rattle.site_desk.{specs.declared.plan.SitePlan.SitePlan, specs.Plan.{is_past, site_number}}
use Rattle.ocpp_board.proofs.Words.{one_declared, one_too_many}
use Rattle.ocpp_board.proofs.station_words.+declare_words.Goals as goal

pub returns-then-is_past : goal.returns-then-is_past
returns-then-is_past t c =
    let sites = c.args.plan.now.sites.items in
    let found = position (λ (s : SitePlan). bytes_eq c.in-Some.site s.name) sites in
    one_too_many c.args.viewers c.args.period c.args.order c.args.limits c.args.words.now _ sites c.args.plan.now.stations.items
    c.in-Some.site c.in-Some.station c.in-len1-up.len_at_least (sym c.station_word.ensures ∙ c.in-Some.is)
    (sym c.is_past.ensures ∙ c.if-is_past.true)

pub returns : goal.returns
returns t c =
    let sites = c.args.plan.now.sites.items in
    let found = position (λ (s : SitePlan). bytes_eq c.in-Some.site s.name) sites in
    one_declared c.args.viewers c.args.period c.args.order c.args.limits c.args.words.now _ _ sites _ c.args.plan.now.stations.items
    _ c.in-Some.site c.in-Some.station _ c.in-len1-up.len_at_least (take_rest c.args.words.now 1)
    (sym c.station_word.ensures ∙ c.in-Some.is)
    (sym c.is_past.ensures ∙ c.if-is_past.false) c.declare.ensures.sites c.declare.ensures.stations
    c.declare_words.ensures
