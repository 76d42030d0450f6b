-- What opened ledgers leave where they are taken apart.
use Rattle.std.{proofs.Common.{◌≡◌, true, cond, not, leb, ltb, List, Some, None, map, length, ap, ◌∙◌, arith}, specs.Prelude.sum_by, specs.List.list_all, proofs.lemmas.Bool.and_from, proofs.lemmas.Bool.Decides.nat_tests, proofs.lemmas.List.Sums.list_all-from_AllPass}
use Rattle.ledger_model.specs.Ranges.{most_plan_readings}
use Rattle.site_book.specs.Book.{Book}
use Rattle.site_desk.{specs.declared.fault.DeskFault.TheVariants.{PlanLimit, StationTwice}, specs.declared.plan.SitePlan.SitePlan, specs.declared.plan.StationPlan.StationPlan, specs.Plan.{has_twice, is_within_limits, most_viewers, plan_fault}, specs.Roster.AreCellsOf, specs.Cell.{Cell, Tallied}}
use Rattle.script_ledgers.{specs.Drafts.IsPlan, specs.Running.IsRunning}

-- a plan of declarations has no fault
pub faultless : (sites : List SitePlan) (stations : List StationPlan) → IsPlan sites stations → plan_fault sites stations ≡ None
faultless sites stations plan =
    let readings : leb (sum_by (λ (s : StationPlan). s.limits.readings) stations) most_plan_readings ≡ true = grind (arith, nat_tests, plan.few_readings) in
    let viewers : list_all (λ (s : SitePlan). leb s.viewers most_viewers) sites ≡ true =
    list_all-from_AllPass (λ (s : SitePlan). leb s.viewers most_viewers) sites (λ k d less. ap (λ n. leb n most_viewers) (plan.unviewed k d less)) in
    let placed : list_all (λ (s : StationPlan). ltb s.site (length sites)) stations ≡ true =
    list_all-from_AllPass (λ (s : StationPlan). ltb s.site (length sites)) stations (λ k d less. let there = plan.placed k d less in grind (arith, nat_tests, there)) in
    let within : is_within_limits sites stations ≡ true = and_from _ _ (and_from _ _ (and_from _ _ readings viewers) placed) (ap not plan.sites_once) in
    ap (λ b. cond (not b) (Some PlanLimit) (cond (has_twice (map (λ (s : StationPlan). s.name) stations)) (Some StationTwice) None)) within
    ∙ ap (λ b. cond b (Some StationTwice) None) plan.stations_once

-- each cell is where the plan has its station
pub cells_of : (sites : List SitePlan) (stations : List StationPlan) (cells : List Cell) (books : List Book) (tallies : List Tallied)
    → IsRunning sites stations cells books tallies → AreCellsOf sites stations cells
cells_of sites stations cells books tallies r = record {
  count = r.all_cells;
  each = λ k s c planned at.
      let place = r.placed k s c planned at in
      record { station = place.station; site = place.site; row = place.row; limits = place.limits; period = place.period; order = place.order };
}
