use Rattle.std.{specs.Prelude.{ℕ, zero, suc, slice_get, Bool, false, not, ◌+◌, ◌&&◌, ◌||◌, nat_le, nat_lt, List, [], ◌∷◌, ◌++◌, map, length, sum_by, Option, None, Some, if◌then◌else◌, codes}, specs.List.{list_all, list_any}, specs.Option.is_some, specs.Str.bytes_eq}
use Rattle.ledger_model.{specs.declared.order.Order.Order, specs.declared.order.Order.TheVariants.Sequence, specs.Limits.Bounds, specs.Periods.Periods, specs.declared.settle.Settle.Settle, specs.Settling.default_periods, specs.Ranges.{most_sites, most_stations, most_plan_readings}}
use Rattle.site_desk.{specs.declared.plan.SitePlan.SitePlan, specs.declared.plan.StationPlan.StationPlan, specs.declared.fault.DeskFault.DeskFault, specs.declared.fault.DeskFault.TheVariants.{PlanLimit, StationTwice}}

-- How many viewers a site may have.
abbrev pub most_viewers : ℕ
most_viewers = 64

-- The name in a place where none was given yet.
abbrev pub blank_name : List ℕ
blank_name = codes "-"

-- Some text is in the list twice.
abbrev pub has_twice : List (List ℕ) → Bool
has_twice [] = false
has_twice (name ∷ names) = list_any (bytes_eq name) names || has_twice names

-- The first text of the list that comes again later.
abbrev pub first_twice : List (List ℕ) → Option (List ℕ)
first_twice [] = None
first_twice (name ∷ names) = if list_any (bytes_eq name) names then Some name else first_twice names

-- The stations keep no more readings than a plan may, no site has too many viewers, each station is
-- at one of the sites, and no two sites have the same name.
abbrev pub is_within_limits : List SitePlan → List StationPlan → Bool
is_within_limits sites stations =
    nat_le (sum_by (λ s. s.limits.readings) stations) most_plan_readings
    && list_all (λ s. nat_le s.viewers most_viewers) sites
    && list_all (λ s. nat_lt s.site (length sites)) stations
    && not (has_twice (map (λ s. s.name) sites))

-- What is wrong with a plan: first that it is past a limit, then that two stations have the same
-- name.
abbrev pub plan_fault : List SitePlan → List StationPlan → Option DeskFault
plan_fault sites stations =
    if not (is_within_limits sites stations) then Some PlanLimit
    else (if has_twice (map (λ s. s.name) stations) then Some StationTwice
    else None)

-- The number of a site: this place if it was found there, else that of a new site.
abbrev pub site_number : Option ℕ → List SitePlan → ℕ
site_number (Some number) sites = number
site_number None sites = length sites

-- The sites once one of this name is mentioned: it begins at its first mention, with so many viewers, these settlement periods and this order of readings.
abbrev pub sites_with : Option ℕ → List ℕ → ℕ → Periods → Order → List SitePlan → List SitePlan
sites_with (Some number) name viewers period order sites = sites
sites_with None name viewers period order sites = sites ++ record { name = name; viewers = viewers; period = period; order = order } ∷ []

-- The stations after one more is declared, of a site that was found at this place or begins, with this name and these
-- limits.
abbrev pub stations_with : Option ℕ → List SitePlan → List ℕ → Bounds → List StationPlan → List StationPlan
stations_with found sites name limits stations = stations ++ record { site = site_number found sites; name = name; limits = limits } ∷ []

-- The settlement periods of a site, if there is the site.
abbrev pub period_or_default : Option SitePlan → Periods
period_or_default None = default_periods
period_or_default (Some s) = s.period

-- The settlement periods of the site of this number.
abbrev pub period_at : List SitePlan → ℕ → Periods
period_at sites site = period_or_default (slice_get sites site)

-- The order of readings of a site; the default if there is no site.
abbrev pub order_or_default : Option SitePlan → Order
order_or_default None = Sequence
order_or_default (Some s) = s.order

-- The order of readings of the site of this number.
abbrev pub order_at : List SitePlan → ℕ → Order
order_at sites site = order_or_default (slice_get sites site)

-- The sites after this change of the site of this number.
abbrev pub sites_changed : (SitePlan → SitePlan) → ℕ → List SitePlan → List SitePlan
sites_changed change site [] = []
sites_changed change zero (s ∷ sites) = change s ∷ sites
sites_changed change (suc site) (s ∷ sites) = s ∷ sites_changed change site sites

-- The sites once that of this number has settlement periods of so many seconds.
abbrev pub sites_by : ℕ → ℕ → List SitePlan → List SitePlan
sites_by site seconds sites = sites_changed (λ s. record s { period = record s.period { length = seconds } }) site sites

-- The sites once that of this number counts differences in its settlement periods by this rule.
abbrev pub sites_settling : ℕ → Settle → List SitePlan → List SitePlan
sites_settling site rule sites = sites_changed (λ s. record s { period = record s.period { rule = rule } }) site sites

-- The sites, with this order of readings for the site of this number.
abbrev pub sites_in : ℕ → Order → List SitePlan → List SitePlan
sites_in site order sites = sites_changed (λ s. record s { order = order }) site sites

-- With one more station, of these limits and of a site found at this place or new, a plan would
-- have more than it may: of stations, of readings, or of sites.
abbrev pub is_past : Option ℕ → List SitePlan → List StationPlan → Bounds → Bool
is_past found sites stations limits =
    nat_le most_stations (length stations)
    || (nat_lt most_plan_readings (sum_by (λ s. s.limits.readings) stations + limits.readings)
    || (not (is_some found) && nat_le most_sites (length sites)))
