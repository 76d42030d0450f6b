use Rattle.std.specs.Prelude.{◌≡◌, ℕ, ◌<◌, ◌≤◌, List, length, Some, slice_get}
use Rattle.site_desk.{specs.declared.plan.SitePlan.SitePlan, specs.declared.plan.StationPlan.StationPlan, specs.declared.roster.StationPlace.StationPlace, specs.Parts.row_at, specs.Plan.{order_at, period_at}, specs.Cell.Cell}

-- A desk: the place of each of its stations, how many sites it has, and how many viewers were given out.
pub record Roster : Type 0 where
  pub stations : List StationPlace
  pub sites : ℕ
  pub viewers : ℕ

-- The place of a station of a plan, by its number.
abbrev pub new_place : List SitePlan → List StationPlan → ℕ → StationPlan → StationPlace
new_place sites stations k s = record { name = s.name; site = s.site; row = row_at stations s.site k; limits = s.limits; period = period_at sites s.site; order = order_at sites s.site }

-- The places of a plan's stations, in the plan's order.
pub record AreNewPlaces (sites : List SitePlan) (stations : List StationPlan) (places : List StationPlace) : Type 0 where
  pub count : length places ≡ length stations
  pub each : (k : ℕ) (s : StationPlan) → slice_get stations k ≡ Some s → slice_get places k ≡ Some (new_place sites stations k s)

-- The station of this number has this name.
pub record IsNamed (places : List StationPlace) (name : List ℕ) (k : ℕ) : Type 0 where
  pub place : StationPlace
  pub there : slice_get places k ≡ Some place
  pub same : place.name ≡ name

-- The cell is that of the station of this number and place.
pub record StandsAt (k : ℕ) (at : StationPlace) (c : Cell) : Type 0 where
  pub station : c.station ≡ k
  pub site : c.site ≡ at.site
  pub row : c.row ≡ at.row
  pub limits : c.limits ≡ at.limits
  pub period : c.period ≡ at.period
  pub order : c.order ≡ at.order

-- What a desk keeps: a cell for each station, and a book for each site that a station is at; both are no more than a
-- plan may have.
pub record IsDesk (places : List StationPlace) (cells books : ℕ) : Type 0 where
  pub each_cell : cells ≡ length places
  pub few_cells : cells ≤ 64
  pub few_books : books ≤ 16
  pub sites : (k : ℕ) (p : StationPlace) → slice_get places k ≡ Some p → p.site < books

-- The cells of a plan's stations, in the plan's order, each at the place that the plan has for its
-- station.
pub record AreCellsOf (sites : List SitePlan) (stations : List StationPlan) (cells : List Cell) : Type 0 where
  pub count : length cells ≡ length stations
  pub each : (k : ℕ) (s : StationPlan) (c : Cell) → slice_get stations k ≡ Some s → slice_get cells k ≡ Some c → StandsAt k (new_place sites stations k s) c
