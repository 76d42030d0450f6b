use Rattle.std.{proofs.Common.{◌≡◌, ◌<◌, List, [], Some, ap, bytes_eq, get_or, length, subst, sym, ◌∙◌}, specs.List.position, proofs.lemmas.Bool.ltb-true, proofs.lemmas.List.get_or-map, proofs.lemmas.Slice.Eq.bytes_eq-Decides}
use Rattle.site_desk.specs.declared.plan.StationPlan.{StationPlan}
use Rattle.script_ledgers.{specs.Drafts.Drafted, proofs.Boards.found_once}
use Rattle.script_ledgers.proofs.draft.Draft.is_station.Goals as goal

pub returns-in-Some : goal.returns-in-Some
returns-in-Some c is =
    let stations = c.self.inside.plan.stations.items in
    let station = c.in-Some.station.now in
    let less = subst (λ (l : List StationPlan). c.args.number < length l) c.as_slice.ensures.value (ltb-true c.args.number (length c.as_slice.result.now) (sym c.in-Some.ensures.lookup.0)) in
    let named = (bytes_eq-Decides c.args.name.now station.name).0 (sym c.eq.ensures ∙ is) in
    subst (λ (d : Drafted). position {X = StationPlan} (λ s. bytes_eq c.args.name.now s.name) d.stations ≡ Some c.args.number) c.self.view_is
    (found_once {X = StationPlan} (λ s. s.name) stations c.args.number c.args.name.now c.self.invariant.stations_once less
    (get_or-map {X = StationPlan} (λ s. s.name) stations c.args.number station [] less
    ∙ ap (λ (s : StationPlan). s.name) (subst (λ (l : List StationPlan). get_or l c.args.number station ≡ station) c.as_slice.ensures.value (sym c.in-Some.ensures.lookup.1))
    ∙ sym named))
