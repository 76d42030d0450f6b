-- How the declarations of a script are kept, and the state that they make.
use Rattle.std.specs.Prelude.{◌≡◌, ℕ, ◌<◌, ◌≤◌, false, List, [], All, get_or, length, map, sum_by}
use Rattle.ledger_model.{specs.Limits.Bounds, specs.Ranges.{most_sites, most_stations, most_plan_readings}, specs.World.World}
use Rattle.site_desk.{specs.Plan.has_twice, specs.declared.plan.SitePlan.SitePlan, specs.declared.plan.StationPlan.StationPlan}
use Rattle.script_ledgers.specs.Script.{Script, new_station}

-- The declarations so far: the limits of the stations that follow, the sites and the stations of the plan, and the
-- moment.
pub record Drafted : Type 0 where
  pub limits : Bounds
  pub sites : List SitePlan
  pub stations : List StationPlan
  pub moment : ℕ

-- The name of the site of this number.
abbrev pub site_name : List SitePlan → ℕ → List ℕ
site_name sites site = get_or (map (λ s. s.name) sites) site []

-- The stations of a plan, without events.
abbrev pub planned_world : List SitePlan → List StationPlan → World
planned_world sites stations = map (λ s. new_station s.limits (site_name sites s.site) s.name) stations

-- A script with its ledgers not opened yet.
abbrev pub planned : Drafted → Script
planned d = record {
  limits = d.limits;
  sites = map (λ s. s.name) d.sites;
  periods = map (λ s. s.period) d.sites;
  orders = map (λ s. s.order) d.sites;
  world = planned_world d.sites d.stations;
  opened = false;
  moment = d.moment;
}

-- What is true of the plan of any declarations: it has no more than a plan may have, each name is
-- there once, each station is at one of its sites, and no site has a viewer.
pub record IsPlan (sites : List SitePlan) (stations : List StationPlan) : Type 0 where
  pub few_sites : length sites ≤ most_sites
  pub few_stations : length stations ≤ most_stations
  pub few_readings : sum_by (λ s. s.limits.readings) stations ≤ most_plan_readings
  pub sites_once : has_twice (map (λ s. s.name) sites) ≡ false
  pub stations_once : has_twice (map (λ s. s.name) stations) ≡ false
  pub placed : All (λ s. s.site < length sites) stations
  pub unviewed : All (λ s. s.viewers ≡ 0) sites
