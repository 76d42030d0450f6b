-- One station more in a plan.
use Rattle.std.{proofs.Common.{◌≡◌, ℕ, zero, suc, ◌+◌, ◌<◌, ◌||◌, Bool, true, false, nat_le, nat_lt, List, [], ◌∷◌, ◌++◌, Option, None, Some, length, take, drop, slice_index_or, slice_set, refl, ap, ◌∙◌, arith}, specs.Prelude.sum_by, proofs.lemmas.Bool.Decides.nat_tests}
use Rattle.ledger_model.{specs.Limits.Bounds, specs.Periods.Periods, specs.Ranges.{most_sites, most_stations, most_plan_readings}}
use Rattle.site_desk.{specs.declared.plan.SitePlan.SitePlan, specs.declared.plan.StationPlan.StationPlan, specs.Plan.{is_past, period_at, sites_changed}}

second : (a b : Bool) → (a || b) ≡ false → b ≡ false
second true b e = cc e
second false b e = e

below : (n : ℕ) → nat_le most_sites n ≡ false → n < most_sites
below n e = grind (arith, nat_tests)

-- a site that begins finds room
pub begins : (o : Option ℕ) (sites : List SitePlan) (stations : List StationPlan) (limits : Bounds) → o ≡ None → is_past o sites stations limits ≡ false → length sites < most_sites
begins None sites stations limits e none =
    below (length sites) (second (nat_lt most_plan_readings (sum_by (λ s. s.limits.readings) stations + limits.readings)) (nat_le most_sites (length sites))
    (second (nat_le most_stations (length stations)) (nat_lt most_plan_readings (sum_by (λ s. s.limits.readings) stations + limits.readings) || nat_le most_sites (length sites)) none))
begins (Some n) sites stations limits e none = cc e

-- one site that is changed: each element is written back to its place
changed_length : (change : SitePlan → SitePlan) (site : ℕ) (sites : List SitePlan) → length (sites_changed change site sites) ≡ length sites
changed_length change site [] = refl
changed_length change zero (s ∷ sites) = refl
changed_length change (suc site) (s ∷ sites) = ap suc (changed_length change site sites)

changed_set : (change : SitePlan → SitePlan) (site : ℕ) (d : SitePlan) (sites : List SitePlan) → site < length sites
    → slice_set sites site (change (slice_index_or sites site d)) ≡ sites_changed change site sites
changed_set change site d [] less = absurd (omega arith)
changed_set change zero d (s ∷ sites) less = refl
changed_set change (suc site) d (s ∷ sites) less = ap (λ ss. s ∷ ss) (changed_set change site d sites (omega arith))

all_back : (xs ws : List SitePlan) → length ws ≡ length xs → take (length xs) (ws ++ drop (length ws) xs) ≡ ws
all_back [] [] same = refl
all_back [] (w ∷ ws) same = absurd (omega (arith, same))
all_back (x ∷ xs) [] same = absurd (omega (arith, same))
all_back (x ∷ xs) (w ∷ ws) same = ap (λ vs. w ∷ vs) (all_back xs ws (omega (arith, same)))

pub site_set : (change : SitePlan → SitePlan) (site : ℕ) (d : SitePlan) (sites : List SitePlan) → site < length sites
    → take (length sites) (slice_set sites site (change (slice_index_or sites site d)) ++ drop (length (slice_set sites site (change (slice_index_or sites site d)))) sites)
    ≡ sites_changed change site sites
site_set change site d sites less =
    let set = changed_set change site d sites less in
    (λ i. take (length sites) (set i ++ drop (length (set i)) sites)) ∙ all_back sites (sites_changed change site sites) (changed_length change site sites)

-- periods that were read before they are changed
pub periods_changed : (change : Periods → Periods) (site : ℕ) (sites : List SitePlan)
    → sites_changed (λ s. record s { period = change (period_at sites site) }) site sites ≡ sites_changed (λ s. record s { period = change s.period }) site sites
periods_changed change site [] = refl
periods_changed change zero (s ∷ sites) = refl
periods_changed change (suc site) (s ∷ sites) = ap (λ ss. s ∷ ss) (periods_changed change site sites)
