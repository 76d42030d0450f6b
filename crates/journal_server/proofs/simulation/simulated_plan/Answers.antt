use Rattle.std.{proofs.Common.{◌≡◌, ◌+◌, ◌<◌, suc, ◌++◌, ◌∷◌, [], codes, sym, ap, ◌∙◌, rules, arith}, specs.List.position, specs.Str.bytes_eq}
use Rattle.ledger_model.{specs.declared.order.Order.TheVariants.Sequence, specs.Limits.default_limits, specs.Settling.default_periods}
use Rattle.site_desk.{specs.declared.plan.SitePlan.SitePlan, specs.Plan.{is_past, site_number, sites_with}}
use Rattle.journal_server.{specs.Simulated.{simulated_name, simulated_sites, simulated_stations}, proofs.SimulatedPlan.{has_room, number_next, sites_next}}
use Rattle.journal_server.proofs.simulation.simulated_plan.Goals as goal

pub declare-requires : goal.declare-requires
declare-requires c =
    let k = c.loop-before.invariant in
    let few : c.loop-before.before < 64 = omega (arith, c.loop-before-test.true, c.loop-before.auto.before-end, c.requires) in
    let limits : c.default-in-loop-before.result ≡ default_limits = search rules in
    record {
      room = (λ i. is_past (position (λ (s : SitePlan). bytes_eq c.copied.result s.name) (k.1 i)) (k.1 i) (k.2 i) (limits i)) ∙ has_room c.copied.result c.loop-before.before few;
    }

pub loop-before-preserved : goal.loop-before-preserved
loop-before-preserved c =
    let k = c.loop-before.invariant in
    let n = c.loop-before.before in
    let next : suc n ≡ n + 1 = omega arith in
    let site : c.copied.result ≡ codes "sim" = c.copied.ensures ∙ k.0 in
    let limits : c.default-in-loop-before.result ≡ default_limits = search rules in
    let period : c.default.result ≡ default_periods = search rules in
    let name : c.station_name-station.result ≡ simulated_name (suc n) = c.station_name-station.ensures ∙ ap simulated_name (sym next) in
    let number = (λ i. site_number (position (λ (s : SitePlan). bytes_eq c.copied.result s.name) (k.1 i)) (k.1 i)) ∙ number_next c.copied.result n site in (
      k.0,
      c.declare.ensures.sites
          ∙ (λ i. sites_with (position (λ (s : SitePlan). bytes_eq c.copied.result s.name) (k.1 i)) c.copied.result 0 (period i) Sequence (k.1 i))
          ∙ sites_next c.copied.result n site ∙ ap simulated_sites next,
      c.declare.ensures.stations ∙ (λ i. k.2 i ++ record { site = number i; name = name i; limits = limits i } ∷ []) ∙ ap simulated_stations next,
    )
