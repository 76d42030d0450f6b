-- Cells, books and viewers of a plan that was just opened.
use Rattle.std.{proofs.Common.{◌≡◌, ◌≢◌, ℕ, zero, suc, ◌+◌, ◌<◌, ◌≤◌, Bool, true, false, not, cond, eqb, leb, ltb, ◌&&◌, List, [], ◌∷◌, ◌++◌, length, map, take, drop, replicate, get_or, Some, None, refl, ap, sym, ◌∙◌, subst, ⊎_elim, inl, inr, ◌⊎◌, arith, append_assoc}, specs.Prelude.{filter, slice_get, sum_by, count_by, Option, unwrap_or}, specs.List.list_all, proofs.lemmas.Bool.{cases_eq, leb-true, ltb-true}, proofs.lemmas.List.{take_more, drop_more, length_push, take-append-le, take_all}, proofs.lemmas.List.Sums.sum_by-cons}
use Rattle.ledger_model.{specs.Ranges.most_plan_readings, specs.Limits.Bounds}
use Rattle.site_book.{specs.Book.{ArePlanned, Book, Known, known}, proofs.Named.{get_front, get_last}}
use Rattle.site_desk.{specs.declared.plan.SitePlan.SitePlan, specs.declared.plan.StationPlan.StationPlan, specs.declared.fault.DeskFault.DeskFault, specs.declared.fault.DeskFault.TheVariants.{PlanLimit, StationTwice}, specs.Plan.{has_twice, is_within_limits, order_at, period_at, plan_fault, most_viewers}, specs.Parts.{AreNewBooks, AreNewCells, limits_at, new_book, new_viewers, row_at, viewed_by}, specs.Cell.{Cell, new_cell}}

-- an element of a list with one more is one of the list's, or the last
get_push : {A : Type 0} (xs : List A) (y x : A) (k : ℕ) → slice_get (xs ++ y ∷ []) k ≡ Some x → ((slice_get xs k ≡ Some x) × (k < length xs)) ⊎ ((k ≡ length xs) × (y ≡ x))
get_push [] y x zero at = let e : y ≡ x = cc in inr (refl, e)
get_push [] y x (suc k) at = absurd (cc (at))
get_push (z ∷ xs) y x zero at = inl (at, omega arith)
get_push (z ∷ xs) y x (suc k) at = ⊎_elim
    (λ (l : (slice_get xs k ≡ Some x) × (k < length xs)). inl (l.0, let less = l.1 in omega arith))
    (λ (r : (k ≡ length xs) × (y ≡ x)). inr (ap suc r.0, r.1))
    (get_push xs y x k at)

length_take : (k : ℕ) (xs : List StationPlan) → k ≤ length xs → length (take k xs) ≡ k
length_take zero xs le = refl
length_take (suc k) [] le = absurd (omega arith)
length_take (suc k) (x ∷ xs) le = ap suc (length_take k xs (omega arith))

-- one cell more
cells_push : (sites : List SitePlan) (xs : List StationPlan) (cells : List Cell) (s : StationPlan) → AreNewCells sites xs cells
    → AreNewCells sites (xs ++ s ∷ []) (cells ++ new_cell (length xs) s.site (row_at xs s.site (length xs)) s.limits (period_at sites s.site) (order_at sites s.site) ∷ [])
cells_push sites xs cells s new =
    let last = new_cell (length xs) s.site (row_at xs s.site (length xs)) s.limits (period_at sites s.site) (order_at sites s.site) in
    record {
      count = length_push cells last ∙ ap (λ n. n + 1) new.count ∙ sym (length_push xs s);
      each = λ k t at. ⊎_elim
          (λ (l : (slice_get xs k ≡ Some t) × (k < length xs)).
          get_front cells k _ last (new.each k t l.0)
          ∙ ap (λ ys. Some (new_cell k t.site (count_by (λ u. eqb u.site t.site) ys) t.limits (period_at sites t.site) (order_at sites t.site)))
          (sym (take-append-le k xs (s ∷ []) (let less = l.1 in omega arith))))
          (λ (r : (k ≡ length xs) × (s ≡ t)).
          let Is : ℕ → StationPlan
          → Type 0 = λ n u. slice_get (cells ++ last ∷ []) n ≡ Some (new_cell n u.site (row_at (xs ++ s ∷ []) u.site n) u.limits (period_at sites u.site) (order_at sites u.site)) in
          let here : Is (length xs) s = ap (slice_get (cells ++ last ∷ [])) (sym new.count) ∙ get_last cells last
          ∙ ap (λ ys. Some (new_cell (length xs) s.site (count_by (λ u. eqb u.site s.site) ys) s.limits (period_at sites s.site) (order_at sites s.site)))
          (sym (take-append-le (length xs) xs (s ∷ []) (omega arith))) in
          subst (λ u. Is k u) r.1 (subst (λ n. Is n s) (sym r.0) here))
          (get_push xs s t k at);
    }

-- the step of a loop over stations
pub cells_more : (sites : List SitePlan) (stations : List StationPlan) (cells : List Cell) (k : ℕ) (s : StationPlan)
    → k < length stations → s ≡ get_or stations k s → AreNewCells sites (take k stations) cells
    → AreNewCells sites (take (k + 1) stations) (cells ++ new_cell k s.site (row_at stations s.site k) s.limits (period_at sites s.site) (order_at sites s.site) ∷ [])
cells_more sites stations cells k s less is new =
    let next : take (k + 1) stations ≡ take k stations ++ s ∷ [] = take_more stations k s less ∙ ap (λ z. take k stations ++ z ∷ []) (sym is) in
    let number : length (take k stations) ≡ k = length_take k stations (omega arith) in
    let row : row_at (take k stations) s.site (length (take k stations)) ≡ row_at stations s.site k =
    ap (count_by (λ u. eqb u.site s.site)) (take_all (length (take k stations)) (take k stations) (omega arith)) in
    subst (λ ys. AreNewCells sites ys (cells ++ new_cell k s.site (row_at stations s.site k) s.limits (period_at sites s.site) (order_at sites s.site) ∷ [])) (sym next)
    (subst (λ n. AreNewCells sites (take k stations ++ s ∷ []) (cells ++ new_cell n s.site (row_at stations s.site k) s.limits (period_at sites s.site) (order_at sites s.site) ∷ [])) number
    (subst (λ r. AreNewCells sites (take k stations ++ s ∷ []) (cells ++ new_cell (length (take k stations)) s.site r s.limits (period_at sites s.site) (order_at sites s.site) ∷ []))
    row (cells_push sites (take k stations) cells s new)))

-- one book more
pub books_more : (stations : List StationPlan) (books : List Book) (n : ℕ) → AreNewBooks stations n books → AreNewBooks stations (n + 1) (books ++ new_book stations n ∷ [])
books_more stations books n new = record {
  count = length_push books (new_book stations n) ∙ ap (λ k. k + 1) new.count;
  each = λ site less. ⊎_elim
      (λ (e : site ≡ n). ap (slice_get (books ++ new_book stations n ∷ [])) (e ∙ sym new.count) ∙ get_last books (new_book stations n) ∙ ap (λ k. Some (new_book stations k)) (sym e))
      (λ (apart : site ≢ n). get_front books site (new_book stations site) (new_book stations n) (new.each site (below site n less apart)))
      (cases_eq site n);
}
  where
    below : (site n : ℕ) → site < n + 1 → site ≢ n → site < n
    below site n less apart = omega arith

map_replicate : {A B : Type 0} (f : A → B) (n : ℕ) (x : A) → map f (replicate n x) ≡ replicate n (f x)
map_replicate f zero x = refl
map_replicate f (suc n) x = ap (λ ys. f x ∷ ys) (map_replicate f n x)

-- the viewers of one site more
pub viewers_more : (sites : List SitePlan) (n : ℕ) (d : SitePlan) (before after all : List (ℕ × Known)) (seats : List Known) → n < length sites
    → before ++ new_viewers n (drop n sites) ≡ all → seats ≡ replicate (get_or sites n d).viewers (known n []) → after ≡ before ++ map (λ v. (n, v)) seats
    → after ++ new_viewers (n + 1) (drop (n + 1) sites) ≡ all
viewers_more sites n d before after all seats less old made added =
    let next : suc n ≡ n + 1 = omega arith in
    let count = (get_or sites n d).viewers in
    let these : map (λ v. (n, v)) seats ≡ replicate count (n, known n []) = ap (map (λ v. (n, v))) made ∙ map_replicate (λ v. (n, v)) count (known n []) in
    let left : new_viewers n (drop n sites) ≡ replicate count (n, known n []) ++ new_viewers (n + 1) (drop (n + 1) sites) =
    ap (new_viewers n) (drop_more sites n d less) ∙ ap (λ k. replicate count (n, known n []) ++ new_viewers k (drop (n + 1) sites)) next in
    ap (λ vs. vs ++ new_viewers (n + 1) (drop (n + 1) sites)) (added ∙ ap (λ ws. before ++ ws) these)
    ∙ append_assoc before (replicate count (n, known n [])) (new_viewers (n + 1) (drop (n + 1) sites))
    ∙ ap (λ ws. before ++ ws) (sym left) ∙ old

-- as many sites, whatever viewers they have
pub length_viewed : (each : Option ℕ) (sites : List SitePlan) → length (viewed_by each sites) ≡ length sites
length_viewed None sites = refl
length_viewed (Some viewers) [] = refl
length_viewed (Some viewers) (s ∷ sites) = ap suc (length_viewed (Some viewers) sites)

-- how many viewers a site has
pub seats_by : (each : Option ℕ) (sites : List SitePlan) (n : ℕ) (d : SitePlan) → n < length sites → (get_or (viewed_by each sites) n d).viewers ≡ unwrap_or each (get_or sites n d).viewers
seats_by None sites n d less = refl
seats_by (Some viewers) [] n d less = absurd (omega (arith, less))
seats_by (Some viewers) (s ∷ sites) zero d less = refl
seats_by (Some viewers) (s ∷ sites) (suc n) d less = seats_by (Some viewers) sites n d (omega (arith, less))

-- the limits of a site's stations are some of all
few_at : (stations : List StationPlan) (site : ℕ) → length (limits_at stations site) ≤ length stations
few_at [] site = omega arith
few_at (s ∷ stations) site =
    let rest = few_at stations site in
    elim (eqb s.site site) as (λ b. length (map (λ (t : StationPlan). t.limits) (cond b (s ∷ filter (λ t. eqb t.site site) stations) (filter (λ t. eqb t.site site) stations)))
    ≤ length (s ∷ stations)) [
      | true ↦ omega arith
      | false ↦ omega arith
    ]

sum_at : (stations : List StationPlan) (site : ℕ) → sum_by (λ (l : Bounds). l.readings) (limits_at stations site) ≤ sum_by (λ (s : StationPlan). s.limits.readings) stations
sum_at [] site = omega arith
sum_at (s ∷ stations) site =
    let rest = sum_at stations site in
    let whole = sum_by-cons (λ (t : StationPlan). t.limits.readings) s stations in
    elim (eqb s.site site) as (λ b. sum_by (λ (l : Bounds). l.readings)
    (map (λ (t : StationPlan). t.limits) (cond b (s ∷ filter (λ t. eqb t.site site) stations) (filter (λ t. eqb t.site site) stations)))
    ≤ sum_by (λ (t : StationPlan). t.limits.readings) (s ∷ stations)) [
      | true ↦ omega (arith, rest, whole, sum_by-cons (λ (l : Bounds). l.readings) s.limits (limits_at stations site))
      | false ↦ omega (arith, rest, whole)
    ]

-- what holds of a plan without a fault
and_right : (a b : Bool) → (a && b) ≡ true → b ≡ true
and_right true b h = h
and_right false b h = absurd (cc (h))

and_left : (a b : Bool) → (a && b) ≡ true → a ≡ true
and_left true b h = refl
and_left false b h = h

within_of : (a twice : Bool) → ◌≡◌ {A = Option DeskFault} (cond (not a) (Some PlanLimit) (cond twice (Some StationTwice) None)) None → a ≡ true
within_of true twice h = refl
within_of false twice h = absurd (cc (h))

pub planned_readings : (sites : List SitePlan) (stations : List StationPlan) → plan_fault sites stations ≡ None → sum_by (λ s. s.limits.readings) stations ≤ most_plan_readings
planned_readings sites stations h =
    let within : is_within_limits sites stations ≡ true = within_of (is_within_limits sites stations) (has_twice (map (λ s. s.name) stations)) h in
    leb-true (sum_by (λ s. s.limits.readings) stations) most_plan_readings
    (and_left _ _ (and_left
    _ _ (and_left (leb (sum_by (λ s. s.limits.readings) stations) most_plan_readings && list_all (λ s. leb s.viewers most_viewers)
    sites && list_all (λ s. ltb s.site (length sites)) stations) _ within)))

pub planned_at : (sites : List SitePlan) (stations : List StationPlan) (site : ℕ) → length stations ≤ 64 → plan_fault sites stations ≡ None → ArePlanned (limits_at stations site)
planned_at sites stations site few h = record {
  few = omega (arith, few_at stations site);
  readings = omega (arith, sum_at stations site, planned_readings sites stations h);
}

all_below : (n : ℕ) (stations : List StationPlan) (k : ℕ) (s : StationPlan) → list_all (λ t. ltb t.site n) stations ≡ true → slice_get stations k ≡ Some s → s.site < n
all_below n [] k s h at = absurd (cc (at))
all_below n (t ∷ stations) zero s h at =
    let e : t ≡ s = cc in
    subst (λ (u : StationPlan). u.site < n) e (ltb-true t.site n (and_left (ltb t.site n) _ h))
all_below n (t ∷ stations) (suc k) s h at = all_below n stations k s (and_right (ltb t.site n) _ h) at

-- each station of a plan without a fault is at one of its sites
pub planned_sites : (sites : List SitePlan) (stations : List StationPlan) (k : ℕ) (s : StationPlan) → plan_fault sites stations ≡ None → slice_get stations k ≡ Some s → s.site < length sites
planned_sites sites stations k s h at =
    let within : is_within_limits sites stations ≡ true = within_of (is_within_limits sites stations) (has_twice (map (λ s. s.name) stations)) h in
    all_below (length sites) stations k s
    (and_right (leb (sum_by (λ s. s.limits.readings) stations) most_plan_readings && list_all (λ s. leb s.viewers most_viewers) sites) _
    (and_left (leb (sum_by (λ s. s.limits.readings) stations) most_plan_readings && list_all (λ s. leb s.viewers most_viewers) sites
    && list_all (λ s. ltb s.site (length sites)) stations) _ within)) at

not_twice : (b : Bool) → not b ≡ true → b ≡ false
not_twice true h = absurd (cc (h))
not_twice false h = refl

no_twin : (a twice : Bool) → ◌≡◌ {A = Option DeskFault} (cond (not a) (Some PlanLimit) (cond twice (Some StationTwice) None)) None → twice ≡ false
no_twin true true h = absurd (cc (h))
no_twin true false h = refl
no_twin false twice h = absurd (cc (h))

-- the names of a plan without a fault occur once
pub planned_names : (sites : List SitePlan) (stations : List StationPlan) → plan_fault sites stations ≡ None
    → (has_twice (map (λ s. s.name) sites) ≡ false) × (has_twice (map (λ s. s.name) stations) ≡ false)
planned_names sites stations h =
    let within : is_within_limits sites stations ≡ true = within_of (is_within_limits sites stations) (has_twice (map (λ s. s.name) stations)) h in (
      not_twice (has_twice (map (λ s. s.name) sites))
          (and_right (leb (sum_by (λ s. s.limits.readings) stations) most_plan_readings && list_all (λ s. leb s.viewers most_viewers) sites
          && list_all (λ s. ltb s.site (length sites)) stations) _ within),
      no_twin (is_within_limits sites stations) (has_twice (map (λ s. s.name) stations)) h,
    )
