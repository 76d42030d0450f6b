-- The looks that lists and boards take.
use Rattle.std.{proofs.Common.{◌≡◌, ℕ, zero, suc, ◌+◌, ◌-◌, ◌<◌, ◌≤◌, ◌⊎◌, inl, inr, Bool, true, false, cond, eqb, List, [], ◌∷◌, Option, None, Some, length, slice_get, take, refl, ap, sym, ◌∙◌, subst, arith}, proofs.lemmas.Bool.{cases_lt, eq-eqb}}
use Rattle.ledger_model.{specs.Content.{Content, entries}, specs.Event.MeterReading, specs.Periods.Periods, specs.declared.order.Order.Order}
use Rattle.station_ledger.{specs.Looks.most_looks, specs.Quarters.IsWork, proofs.Looking.{and_then, at_most}}
use Rattle.site_desk.{specs.declared.plan.StationPlan.StationPlan, specs.Cell.Cell}
use Rattle.board_report.specs.Looks.{all_looks, cell_looks, looks_over, pairs_behind}

-- one step along readings
pub looked : (before : Option MeterReading) (r : MeterReading) (more was now all : ℕ) → IsWork (1 + pairs_behind before 1) was now
    → was + ((more + 1) + pairs_behind before (more + 1)) ≤ all → now + (more + pairs_behind (Some r) more) ≤ all
looked None r more was now all is so_far = omega (arith, is.bound, so_far)
looked (Some b) r more was now all is so_far = omega (arith, is.bound, so_far)

-- the looks of one station more
over_suc : (xs : List StationPlan) (cells : List Cell) (site n : ℕ) (s : StationPlan) (c : Cell) → slice_get xs n ≡ Some s → slice_get cells n ≡ Some c
    → looks_over (take (suc n) xs) cells site ≡ looks_over (take n xs) cells site + cond (eqb s.site site) (cell_looks c) 0
over_suc [] cells site n s c at is = absurd (cc at)
over_suc (x ∷ xs) [] site n s c at is = absurd (cc is)
over_suc (x ∷ xs) (d ∷ cells) site zero s c at is =
    let same : x ≡ s = cc in
    let cell : d ≡ c = cc in
    (λ i. cond (eqb (same i).site site) (cell_looks (cell i) + 0) 0) ∙ none (eqb s.site site)
  where
    none : (b : Bool) → cond b (cell_looks c + 0) 0 ≡ 0 + cond b (cell_looks c) 0
    none true = omega arith
    none false = refl
over_suc (x ∷ xs) (d ∷ cells) site (suc n) s c at is = more (eqb x.site site) (over_suc xs cells site n s c at is)
  where
    more : (b : Bool) → looks_over (take (suc n) xs) cells site ≡ looks_over (take n xs) cells site + cond (eqb s.site site) (cell_looks c) 0
        → cond b (cell_looks d + looks_over (take (suc n) xs) cells site) (looks_over (take (suc n) xs) cells site)
        ≡ cond b (cell_looks d + looks_over (take n xs) cells site) (looks_over (take n xs) cells site) + cond (eqb s.site site) (cell_looks c) 0
    more true e = omega (arith, e)
    more false e = e

-- the first stations take no more than all
pub over_prefix : (xs : List StationPlan) (cells : List Cell) (site n : ℕ) → looks_over (take n xs) cells site ≤ looks_over xs cells site
over_prefix xs cells site zero = omega arith
over_prefix [] cells site (suc n) = omega arith
over_prefix (x ∷ xs) [] site (suc n) = omega arith
over_prefix (x ∷ xs) (d ∷ cells) site (suc n) = more (eqb x.site site) (over_prefix xs cells site n)
  where
    more : (b : Bool) → looks_over (take n xs) cells site ≤ looks_over xs cells site
        → cond b (cell_looks d + looks_over (take n xs) cells site) (looks_over (take n xs) cells site) ≤ cond b (cell_looks d + looks_over xs cells site) (looks_over xs cells site)
    more true le = omega (arith, le)
    more false le = le

-- nor more than one more of them
over_next : (xs : List StationPlan) (cells : List Cell) (site n : ℕ) → looks_over (take n xs) cells site ≤ looks_over (take (suc n) xs) cells site
over_next xs cells site zero = omega arith
over_next [] cells site (suc n) = omega arith
over_next (x ∷ xs) [] site (suc n) = omega arith
over_next (x ∷ xs) (d ∷ cells) site (suc n) = more (eqb x.site site) (over_next xs cells site n)
  where
    more : (b : Bool) → looks_over (take n xs) cells site ≤ looks_over (take (suc n) xs) cells site
        → cond b (cell_looks d + looks_over (take n xs) cells site) (looks_over (take n xs) cells site)
        ≤ cond b (cell_looks d + looks_over (take (suc n) xs) cells site) (looks_over (take (suc n) xs) cells site)
    more true le = omega (arith, le)
    more false le = le

-- the looks at the board of a ledger, which has a cell's period, order and content
pub looks_of_cell : (c : Cell) (period : Periods) (order : Order) (content : Content) (before after : ℕ) → period ≡ c.period → order ≡ c.order → content ≡ c.content
    → IsWork (most_looks period.rule order (entries content)) before after → IsWork (cell_looks c) before after
looks_of_cell c period order content before after p o e is =
    subst (λ n. IsWork n before after) (λ i. most_looks (p i).rule (o i) (entries (e i))) is

-- the looks at the board of the station of a number, at the site
pub looks_of_own : (xs : List StationPlan) (cells : List Cell) (site n : ℕ) (s : StationPlan) (c : Cell) (before after : ℕ) → slice_get xs n ≡ Some s → slice_get cells n ≡ Some c
    → s.site ≡ site → IsWork (cell_looks c) before after → IsWork (looks_over (take (n + 1) xs) cells site - looks_over (take n xs) cells site) before after
looks_of_own xs cells site n s c before after at is own work =
    let one : n + 1 ≡ suc n = omega arith in
    let next : looks_over (take (n + 1) xs) cells site ≡ looks_over (take n xs) cells site + cell_looks c =
    ap (λ m. looks_over (take m xs) cells site) one ∙ over_suc xs cells site n s c at is
    ∙ ap (λ b. looks_over (take n xs) cells site + cond b (cell_looks c) 0) (eq-eqb s.site site own) in
    at_most (cell_looks c) _ before after (omega (arith, next)) work

-- the boards of the stations so far, and of one more
pub over_more : (xs : List StationPlan) (cells : List Cell) (site n before between after : ℕ) → IsWork (looks_over (take n xs) cells site) before between
    → IsWork (looks_over (take (n + 1) xs) cells site - looks_over (take n xs) cells site) between after
    → IsWork (looks_over (take (n + 1) xs) cells site) before after
over_more xs cells site n before between after one two =
    let next : n + 1 ≡ suc n = omega arith in
    let le : looks_over (take n xs) cells site ≤ looks_over (take (n + 1) xs) cells site = subst (λ m. looks_over (take n xs) cells site ≤ looks_over (take m xs) cells site) (sym next) (over_next xs cells site n) in
    at_most _ _ before after (omega (arith, le)) (and_then _ _ before between after one two)

-- the boards of some sites, and of one more
pub sites_more : (xs : List StationPlan) (cells : List Cell) (n before between after : ℕ) → IsWork (all_looks xs cells n) before between
    → IsWork (looks_over xs cells n) between after → IsWork (all_looks xs cells (n + 1)) before after
sites_more xs cells n before between after one two =
    let next : n + 1 ≡ suc n = omega arith in
    subst (λ m. IsWork (all_looks xs cells m) before after) (sym next) (and_then _ _ before between after one two)

-- the first sites take no more than all
pub sites_prefix : (xs : List StationPlan) (cells : List Cell) (n m : ℕ) → n ≤ m → all_looks xs cells n ≤ all_looks xs cells m
sites_prefix xs cells n zero le = let none : n ≡ 0 = omega arith in subst (λ k. all_looks xs cells k ≤ all_looks xs cells 0) (sym none) (omega arith)
sites_prefix xs cells n (suc m) le = at (λ (h : n ≤ m). sites_prefix xs cells n m h) (cases_lt m n)
  where
    at : (n ≤ m → all_looks xs cells n ≤ all_looks xs cells m) → (m < n) ⊎ (n ≤ m) → all_looks xs cells n ≤ all_looks xs cells (suc m)
    at fewer (inl lt) = let same : n ≡ suc m = omega (arith, lt, le) in subst (λ k. all_looks xs cells k ≤ all_looks xs cells (suc m)) (sym same) (omega arith)
    at fewer (inr h) = omega (arith, fewer h)
