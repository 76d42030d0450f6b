-- What the head of a new run declares.
use Rattle.std.specs.Prelude.{◌≡◌, ℕ, suc, Bool, true, ◌==◌, ◌&&◌, nat_lt, if◌then◌else◌, List, [], ◌∷◌, ◌++◌, All, flat_map, map}
use Rattle.journal_script.specs.Journals.{EndsWhole}
use Rattle.ledger_model.{specs.declared.order.Order.Order, specs.declared.order.Order.TheVariants.{Sequence, Moment}, specs.declared.settle.Settle.Settle, specs.declared.settle.Settle.TheVariants.{Later, Closing, Even}, specs.Limits.{AreBounds, Bounds}}
use Rattle.script_ledgers.{specs.Drafts.{planned_world, site_name}, specs.Script.{Script, is_period, script_after, start}}
use Rattle.script_lines.{specs.LineMeaning.{LineMeaning, nothing, sets_limits, declares, sets_period, sets_order, sets_settle, line_meaning}, specs.Lines.lines_of, specs.Ranges.longest_line}
use Rattle.site_desk.{specs.declared.plan.SitePlan.SitePlan, specs.declared.plan.StationPlan.StationPlan}

-- The state of a replay after these bytes.
abbrev pub after : List ℕ → Script
after bytes = script_after start (lines_of longest_line bytes)

-- These stations mention all sites from the first number on, up to this many, each for the first time in the order of
-- the numbers. The sites below the first number were mentioned before.
abbrev pub are_in_order : ℕ → ℕ → List StationPlan → Bool
are_in_order seen all [] = seen == all
are_in_order seen all (s ∷ stations) = if nat_lt s.site seen then are_in_order seen all stations else (s.site == seen && are_in_order (suc seen) all stations)

-- ---- the lines of a head

-- What the lines of these bytes say.
abbrev pub meanings_of : List ℕ → List LineMeaning
meanings_of bytes = map line_meaning (lines_of longest_line bytes)

-- The line of limits.
abbrev pub limits_meaning : Bounds → LineMeaning
limits_meaning b = sets_limits b.transactions b.events b.readings b.changes

-- The lines of a station of these sites.
abbrev pub station_meanings : List SitePlan → StationPlan → List LineMeaning
station_meanings sites s = limits_meaning s.limits ∷ declares (site_name sites s.site) s.name ∷ []

-- The lines of stations of these sites.
abbrev pub stations_meanings : List SitePlan → List StationPlan → List LineMeaning
stations_meanings sites stations = flat_map (station_meanings sites) stations

-- The line of a site's order of readings; a script takes readings by sequence without it.
abbrev pub order_meanings : List ℕ → Order → List LineMeaning
order_meanings site Sequence = []
order_meanings site Moment = sets_order site Moment ∷ []

-- The line of a site's rule of settling; a script settles by the later reading without it.
abbrev pub settle_meanings : List ℕ → Settle → List LineMeaning
settle_meanings site Later = []
settle_meanings site Closing = sets_settle site Closing ∷ []
settle_meanings site Even = sets_settle site Even ∷ []

-- The lines of a site.
abbrev pub site_meanings : SitePlan → List LineMeaning
site_meanings s = sets_period s.name s.period.length ∷ (order_meanings s.name s.order ++ settle_meanings s.name s.period.rule)

-- The lines of sites.
abbrev pub sites_meanings : List SitePlan → List LineMeaning
sites_meanings sites = flat_map site_meanings sites

-- The numbers of a line are in the ranges that a script has for them.
abbrev pub HasValues : LineMeaning → Type 0
HasValues (sets_limits transactions events readings changes) = AreBounds transactions events readings changes
HasValues (sets_period site seconds) = is_period seconds ≡ true
HasValues _ = Unit {0}

-- The text of a head, read as a script in whole lines, leaves these sites and stations, without events. Its
-- lines are those of stations and then those of sites, between two comments.
pub record IsHeadOf (sites : List SitePlan) (stations : List StationPlan) (head : List ℕ) : Type 0 where
  pub whole : EndsWhole head
  pub sites_are : (after head).sites ≡ map (λ s. s.name) sites
  pub periods_are : (after head).periods ≡ map (λ s. s.period) sites
  pub orders_are : (after head).orders ≡ map (λ s. s.order) sites
  pub world_is : (after head).world ≡ planned_world sites stations
  pub says : meanings_of head ≡ nothing ∷ ((stations_meanings sites stations ++ sites_meanings sites) ++ nothing ∷ [])
  pub values : All HasValues (stations_meanings sites stations ++ sites_meanings sites)

-- Behind whole lines, the new bytes have further whole lines, which say this.
pub record Adds (old new : List ℕ) (says : List LineMeaning) : Type 0 where
  pub whole : EndsWhole old → EndsWhole new
  pub lines : EndsWhole old → meanings_of new ≡ meanings_of old ++ says
  pub values : All HasValues says
