-- Other settlement periods, or another order of readings, for a site of a plan, and the script that it is seen as.
use Rattle.std.{proofs.Common.{◌≡◌, ℕ, zero, suc, ◌+◌, true, cond, List, [], ◌∷◌, None, Some, All, length, map, get_or, slice_set, refl, ap, sym, ◌∙◌, bytes_eq, arith}, specs.List.{position, position_from}, proofs.lemmas.Iterator.Adapters.position_from-zero}
use Rattle.ledger_model.{specs.Periods.Periods, specs.declared.order.Order.Order, specs.declared.order.Order.TheVariants.Sequence, specs.Settling.default_periods}
use Rattle.site_desk.{specs.declared.plan.SitePlan.SitePlan, specs.declared.plan.StationPlan.StationPlan, specs.Plan.{has_twice, order_at, period_at, sites_by, sites_changed, sites_in}}
use Rattle.script_lines.{specs.declared.script_line.LineFault.TheVariants.{PlanLimit, UnknownSite}, specs.Texts.fault_line}
use Rattle.script_ledgers.{specs.Drafts.{Drafted, IsPlan, planned}, specs.Script.{is_period, lasting, new_station, order_of, order_to, ordered_by, period_of, period_to, settled_by, site_number}}

-- a site is at one place in the plan and in the list of names
from_alike : (name : List ℕ) (i : ℕ) (sites : List SitePlan) → position_from (bytes_eq name) i (map (λ s. s.name) sites) ≡ position_from (λ (s : SitePlan). bytes_eq name s.name) i sites
from_alike name i [] = refl
from_alike name i (s ∷ sites) = ap (cond (bytes_eq name s.name) (Some i)) (from_alike name (i + 1) sites)

pub number_alike : (name : List ℕ) (sites : List SitePlan) → site_number name (map (λ s. s.name) sites) ≡ position (λ (s : SitePlan). bytes_eq name s.name) sites
number_alike name sites = position_from-zero (bytes_eq name) (map (λ (s : SitePlan). s.name) sites) ∙ from_alike name 0 sites ∙ sym (position_from-zero (λ (s : SitePlan). bytes_eq name s.name) sites)

-- its period is that of its number
period_there : (sites : List SitePlan) (n : ℕ) → get_or (map (λ s. s.period) sites) n default_periods ≡ period_at sites n
period_there [] n = refl
period_there (s ∷ sites) zero = refl
period_there (s ∷ sites) (suc n) = period_there sites n

pub period_found : (name : List ℕ) (sites : List SitePlan) (n : ℕ) → position (λ (s : SitePlan). bytes_eq name s.name) sites ≡ Some n
    → period_of (site_number name (map (λ s. s.name) sites)) (map (λ s. s.period) sites) ≡ period_at sites n
period_found name sites n e = ap (λ o. period_of o (map (λ (s : SitePlan). s.period) sites)) (number_alike name sites ∙ e) ∙ period_there sites n

-- its order of readings is that of its number
order_there : (sites : List SitePlan) (n : ℕ) → get_or (map (λ s. s.order) sites) n Sequence ≡ order_at sites n
order_there [] n = refl
order_there (s ∷ sites) zero = refl
order_there (s ∷ sites) (suc n) = order_there sites n

pub order_found : (name : List ℕ) (sites : List SitePlan) (n : ℕ) → position (λ (s : SitePlan). bytes_eq name s.name) sites ≡ Some n
    → order_of (site_number name (map (λ s. s.name) sites)) (map (λ s. s.order) sites) ≡ order_at sites n
order_found name sites n e = ap (λ o. order_of o (map (λ (s : SitePlan). s.order) sites)) (number_alike name sites ∙ e) ∙ order_there sites n

-- what a change of one site keeps, and what it sets
kept_of : {X : Type 0} (f : SitePlan → X) (change : SitePlan → SitePlan) → ((s : SitePlan) → f (change s) ≡ f s) → (n : ℕ) (sites : List SitePlan) → map f (sites_changed change n sites) ≡ map f sites
kept_of f change same n [] = refl
kept_of f change same zero (s ∷ sites) = ap (λ x. x ∷ map f sites) (same s)
kept_of f change same (suc n) (s ∷ sites) = ap (λ l. f s ∷ l) (kept_of f change same n sites)

set_of : {X : Type 0} (f : SitePlan → X) (change : SitePlan → SitePlan) (x : X) → ((s : SitePlan) → f (change s) ≡ x)
    → (n : ℕ) (sites : List SitePlan) → map f (sites_changed change n sites) ≡ slice_set (map f sites) n x
set_of f change x is n [] = refl
set_of f change x is zero (s ∷ sites) = ap (λ y. y ∷ map f sites) (is s)
set_of f change x is (suc n) (s ∷ sites) = ap (λ l. f s ∷ l) (set_of f change x is n sites)

changed_of : {X : Type 0} (f : SitePlan → X) (change : SitePlan → SitePlan) (g : X → X) → ((s : SitePlan) → f (change s) ≡ g (f s)) → (d : X) (n : ℕ) (sites : List SitePlan)
    → map f (sites_changed change n sites) ≡ slice_set (map f sites) n (g (get_or (map f sites) n d))
changed_of f change g is d n [] = refl
changed_of f change g is d zero (s ∷ sites) = ap (λ y. y ∷ map f sites) (is s)
changed_of f change g is d (suc n) (s ∷ sites) = ap (λ l. f s ∷ l) (changed_of f change g is d n sites)

length_kept : (change : SitePlan → SitePlan) (n : ℕ) (sites : List SitePlan) → length (sites_changed change n sites) ≡ length sites
length_kept change n [] = refl
length_kept change zero (s ∷ sites) = refl
length_kept change (suc n) (s ∷ sites) = ap suc (length_kept change n sites)

-- a change of one site that keeps names and viewers
module _ (change : SitePlan → SitePlan) (named : (s : SitePlan) → (change s).name ≡ s.name) (viewed : (s : SitePlan) → (change s).viewers ≡ s.viewers) where
  unviewed_kept : (n : ℕ) (sites : List SitePlan) → All (λ s. s.viewers ≡ 0) sites → All (λ s. s.viewers ≡ 0) (sites_changed change n sites)
  unviewed_kept n [] all = all
  unviewed_kept zero (s ∷ sites) all = again
    where
      again : All (λ (x : SitePlan). x.viewers ≡ 0) (change s ∷ sites)
      again zero d lt = viewed s ∙ all zero s (omega arith)
      again (suc k) d lt = all (suc k) d lt
  unviewed_kept (suc n) (s ∷ sites) all = later (unviewed_kept n sites (λ k d lt. all (suc k) d (omega (arith, lt))))
    where
      later : All (λ (x : SitePlan). x.viewers ≡ 0) (sites_changed change n sites) → All (λ (x : SitePlan). x.viewers ≡ 0) (s ∷ sites_changed change n sites)
      later rest zero d lt = all zero s (omega arith)
      later rest (suc k) d lt = rest k d (omega (arith, lt))

  plan_kept : (n : ℕ) (sites : List SitePlan) (stations : List StationPlan) → IsPlan sites stations → IsPlan (sites_changed change n sites) stations
  plan_kept n sites stations kept = record {
    few_sites = omega (arith, length_kept change n sites, kept.few_sites);
    few_stations = kept.few_stations;
    few_readings = kept.few_readings;
    sites_once = ap has_twice (kept_of (λ (s : SitePlan). s.name) change named n sites) ∙ kept.sites_once;
    stations_once = kept.stations_once;
    placed = λ k d lt. let p = kept.placed k d lt in omega (arith, p, length_kept change n sites);
    unviewed = unviewed_kept n sites kept.unviewed;
  }

  -- the script differs only in its periods and orders
  planned_with : (d : Drafted) (n : ℕ) → let sites = sites_changed change n d.sites in
      planned (record d { sites = sites }) ≡ record (planned d) { periods = map (λ (s : SitePlan). s.period) sites; orders = map (λ (s : SitePlan). s.order) sites }
  planned_with d n =
      let names = kept_of (λ (s : SitePlan). s.name) change named n d.sites in
      λ i. record (planned (record d { sites = sites_changed change n d.sites }))
      { sites = names i; world = map (λ (s : StationPlan). new_station s.limits (get_or (names i) s.site []) s.name) d.stations }

-- ---- other settlement periods

module _ (change : Periods → Periods) where
  pub settled_kept : (n : ℕ) (sites : List SitePlan) (stations : List StationPlan) → IsPlan sites stations → IsPlan (sites_changed (λ s. record s { period = change s.period }) n sites) stations
  settled_kept n sites stations kept = plan_kept (λ (s : SitePlan). record s { period = change s.period }) (λ s. refl) (λ s. refl) n sites stations kept

  -- the script once a site has other periods
  pub settled_known : (d : Drafted) (name : List ℕ) (n : ℕ) → position (λ (s : SitePlan). bytes_eq name s.name) d.sites ≡ Some n
      → settled_by (site_number name (planned d).sites) (planned d) change ≡ (planned (record d { sites = sites_changed (λ s. record s { period = change s.period }) n d.sites }), [])
  settled_known d name n e =
      let changed : SitePlan → SitePlan = λ s. record s { period = change s.period } in
      let periods = changed_of (λ (s : SitePlan). s.period) changed change (λ s. refl) default_periods n d.sites in
      let orders = kept_of (λ (s : SitePlan). s.order) changed (λ s. refl) n d.sites in
      ap (λ o. settled_by o (planned d) change) (number_alike name d.sites ∙ e)
      ∙ (λ i. (record (planned d) { periods = sym periods i; orders = sym orders i }, []))
      ∙ ap (λ s. (s, [])) (sym (planned_with changed (λ s. refl) (λ s. refl) d n))

  pub settled_unknown : (d : Drafted) (name : List ℕ) → position (λ (s : SitePlan). bytes_eq name s.name) d.sites ≡ None
      → settled_by (site_number name (planned d).sites) (planned d) change ≡ (planned d, fault_line UnknownSite)
  settled_unknown d name e = ap (λ o. settled_by o (planned d) change) (number_alike name d.sites ∙ e)

-- what a `period` line of one of the four lengths is answered
pub period_unknown : (d : Drafted) (name : List ℕ) (seconds : ℕ) → is_period seconds ≡ true → position (λ (s : SitePlan). bytes_eq name s.name) d.sites ≡ None
    → period_to (planned d) name seconds ≡ (planned d, fault_line UnknownSite)
period_unknown d name seconds is e =
    ap (λ b. cond b (settled_by (site_number name (planned d).sites) (planned d) (lasting seconds)) (planned d, fault_line PlanLimit)) is ∙ settled_unknown (lasting seconds) d name e

pub period_known : (d : Drafted) (name : List ℕ) (seconds n period : ℕ) → is_period seconds ≡ true → period ≡ seconds → position (λ (s : SitePlan). bytes_eq name s.name) d.sites ≡ Some n
    → period_to (planned d) name seconds ≡ (planned (record d { sites = sites_by n period d.sites }), [])
period_known d name seconds n period is same e =
    ap (λ b. cond b (settled_by (site_number name (planned d).sites) (planned d) (lasting seconds)) (planned d, fault_line PlanLimit)) is
    ∙ settled_known (lasting seconds) d name n e ∙ ap (λ p. (planned (record d { sites = sites_by n p d.sites }), [])) (sym same)

-- ---- another order of readings

pub ordered_kept : (n : ℕ) (order : Order) (sites : List SitePlan) (stations : List StationPlan) → IsPlan sites stations → IsPlan (sites_in n order sites) stations
ordered_kept n order sites stations kept = plan_kept (λ (s : SitePlan). record s { order = order }) (λ s. refl) (λ s. refl) n sites stations kept

-- what an `order` line is answered
pub order_unknown : (d : Drafted) (name : List ℕ) (order : Order)
    → position (λ (s : SitePlan). bytes_eq name s.name) d.sites ≡ None
    → order_to (planned d) name order ≡ (planned d, fault_line UnknownSite)
order_unknown d name order e = ap (λ o. ordered_by o (planned d) order) (number_alike name d.sites ∙ e)

pub order_known : (d : Drafted) (name : List ℕ) (n : ℕ) (order : Order) → position (λ (s : SitePlan). bytes_eq name s.name) d.sites ≡ Some n
    → order_to (planned d) name order ≡ (planned (record d { sites = sites_in n order d.sites }), [])
order_known d name n order e =
    let change : SitePlan → SitePlan = λ s. record s { order = order } in
    let periods = kept_of (λ (s : SitePlan). s.period) change (λ s. refl) n d.sites in
    let orders = set_of (λ (s : SitePlan). s.order) change order (λ s. refl) n d.sites in
    ap (λ o. ordered_by o (planned d) order) (number_alike name d.sites ∙ e)
    ∙ (λ i. (record (planned d) { periods = sym periods i; orders = sym orders i }, []))
    ∙ ap (λ s. (s, [])) (sym (planned_with change (λ s. refl) (λ s. refl) d n))
