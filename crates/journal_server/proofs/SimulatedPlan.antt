-- The plan of a simulation keeps within what a plan may have.
use Rattle.std.{proofs.Common.{◌≡◌, ◌+◌, ◌*◌, ◌<◌, ◌≤◌, ℕ, zero, suc, Bool, true, false, cond, eqb, List, length, length-append, codes, eqb-true, refl, sym, subst, ◌∙◌, arith}, specs.Prelude.{◌||◌, not, nat_le, nat_lt, sum_by}, specs.List.position, specs.Fmt.digits, specs.Str.bytes_eq, specs.Option.is_some, proofs.lemmas.Bool.and_right, proofs.lemmas.Bool.Decides.nat_tests, proofs.lemmas.List.Sums.sum_by-append}
use Rattle.ledger_model.{specs.declared.order.Order.TheVariants.Sequence, specs.Limits.default_limits, specs.Settling.default_periods, specs.Name.is_name, specs.Ranges.{most_plan_readings, most_sites, most_stations}}
use Rattle.site_desk.{specs.declared.plan.SitePlan.SitePlan, specs.declared.plan.StationPlan.StationPlan, specs.Plan.{is_past, site_number, sites_with}}
use Rattle.journal_server.specs.Simulated.{simulated_name, simulated_sites, simulated_stations}

abbrev are_names : ℕ → Bool
are_names zero = is_name (simulated_name zero)
are_names (suc n) = cond (is_name (simulated_name (suc n))) (are_names n) false

first_is : (b c : Bool) → cond b c false ≡ true → b ≡ true
first_is true c e = refl
first_is false c e = e

then_is : (b c : Bool) → cond b c false ≡ true → c ≡ true
then_is true c e = e
then_is false c e = absurd (cc e)

is_below : (m n : ℕ) → n ≤ m → are_names m ≡ true → is_name (simulated_name n) ≡ true
is_below zero zero less all = all
is_below zero (suc n) less all = absurd (omega (arith, less))
is_below (suc m) n less all = at (eqb n (suc m)) refl (λ within. is_below m n within (then_is (is_name (simulated_name (suc m))) (are_names m) all))
  where
    at : (b : Bool) → eqb n (suc m) ≡ b → (n ≤ m → is_name (simulated_name n) ≡ true) → is_name (simulated_name n) ≡ true
    at true is below = subst (λ k. is_name (simulated_name k) ≡ true) (sym (eqb-true n (suc m) is)) (first_is (is_name (simulated_name (suc m))) (are_names m) all)
    at false is below = below (grind (arith, nat_tests, is, less))

-- each number of a simulated station makes a name
pub named : (n : ℕ) → n ≤ 64 → is_name (simulated_name n) ≡ true
unfolding digits
named n few = is_below 64 n few refl

-- how many stations there are, and how many readings they may keep
counted : (n : ℕ) → length (simulated_stations n) ≡ n
counted zero = refl
counted (suc n) = length-append (simulated_stations n) _ ∙ (omega (arith, counted n))

kept : (n : ℕ) → sum_by (λ (s : StationPlan). s.limits.readings) (simulated_stations n) ≡ 16_384 * n
kept zero = refl
kept (suc n) = sum_by-append (λ (s : StationPlan). s.limits.readings) (simulated_stations n) _ ∙ omega (arith, kept n)

sites_few : (n : ℕ) → nat_le most_sites (length (simulated_sites n)) ≡ false
sites_few zero = refl
sites_few (suc n) = refl

-- one more has room
pub has_room : (site : List ℕ) (n : ℕ) → n < 64 → is_past (position (λ (s : SitePlan). bytes_eq site s.name) (simulated_sites n)) (simulated_sites n) (simulated_stations n) default_limits ≡ false
has_room site n few =
    let stations : nat_le most_stations (length (simulated_stations n)) ≡ false = grind (arith, nat_tests, few, counted n) in
    let readings : nat_lt most_plan_readings (sum_by (λ (s : StationPlan). s.limits.readings) (simulated_stations n) + default_limits.readings) ≡ false = grind (arith, nat_tests, few, kept n) in
    let found = position (λ (s : SitePlan). bytes_eq site s.name) (simulated_sites n) in
    λ i. stations i || (readings i || and_right (not (is_some found)) (nat_le most_sites (length (simulated_sites n))) (sites_few n) i)

-- the site is named once
pub sites_next : (site : List ℕ) (n : ℕ) → site ≡ codes "sim"
    → sites_with (position (λ (s : SitePlan). bytes_eq site s.name) (simulated_sites n)) site 0 default_periods Sequence (simulated_sites n) ≡ simulated_sites (suc n)
sites_next site n is =
    subst (λ l. sites_with (position (λ (s : SitePlan). bytes_eq l s.name) (simulated_sites n)) l 0 default_periods Sequence (simulated_sites n) ≡ simulated_sites (suc n))
    (sym is) (at n)
  where
    at : (n : ℕ) → sites_with (position (λ (s : SitePlan). bytes_eq (codes "sim") s.name) (simulated_sites n)) (codes "sim") 0 default_periods Sequence (simulated_sites n) ≡ simulated_sites (suc n)
    at zero = refl
    at (suc n) = refl

pub number_next : (site : List ℕ) (n : ℕ) → site ≡ codes "sim" → site_number (position (λ (s : SitePlan). bytes_eq site s.name) (simulated_sites n)) (simulated_sites n) ≡ 0
number_next site n is = subst (λ l. site_number (position (λ (s : SitePlan). bytes_eq l s.name) (simulated_sites n)) (simulated_sites n) ≡ 0) (sym is) (at n)
  where
    at : (n : ℕ) → site_number (position (λ (s : SitePlan). bytes_eq (codes "sim") s.name) (simulated_sites n)) (simulated_sites n) ≡ 0
    at zero = refl
    at (suc n) = refl
