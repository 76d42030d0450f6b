-- The plan of a simulation, and its run (this product's profile).
use Rattle.std.{specs.Prelude.{ℕ, zero, suc, ⊤, List, [], ◌∷◌, ◌++◌, None, codes}, specs.Fmt.decimal}
use Rattle.ledger_model.{specs.declared.order.Order.TheVariants.Sequence, specs.Limits.default_limits, specs.Settling.default_periods}
use Rattle.site_desk.{specs.declared.plan.SitePlan.SitePlan, specs.declared.plan.StationPlan.StationPlan}
use Rattle.journal_server.{specs.Left.Left, specs.Served.IsNewRun}

-- The name of the simulated station of this number.
abbrev pub simulated_name : ℕ → List ℕ
simulated_name number = codes "CS-" ++ decimal number

-- The site `sim`, if it has a station, with the default length of periods and readings by sequence.
abbrev pub simulated_sites : ℕ → List SitePlan
simulated_sites zero = []
simulated_sites (suc before) = record { name = codes "sim"; viewers = 0; period = default_periods; order = Sequence } ∷ []

-- So many simulated stations of that site, numbered from 1, under the default limits.
abbrev pub simulated_stations : ℕ → List StationPlan
simulated_stations zero = []
simulated_stations (suc before) = simulated_stations before ++ record { site = 0; name = simulated_name (suc before); limits = default_limits } ∷ []

-- A run of a server without a journal for so many simulated stations.
abbrev pub IsSimulatedRun : ℕ → Left → Type 0
IsSimulatedRun number left = IsNewRun (simulated_sites number) (simulated_stations number) None left (λ read firsts log. ⊤)
