-- The looks that the boards of a desk take.
use Rattle.std.{proofs.Common.{◌≡◌, ℕ, zero, suc, ◌+◌, ◌<◌, ◌≤◌, Bool, true, false, cond, eqb, List, [], ◌∷◌, Some, length, slice_get, take, get_or, refl, ap, sym, ◌∙◌, subst, arith}, specs.Prelude.{filter, sum_by}, specs.Str.bytes_eq, proofs.lemmas.List.Sums.{sum_by-append, sum_by-cons}, proofs.lemmas.Option.get_or_from_slice_get, proofs.lemmas.Slice.Eq.bytes_eq-Decides}
use Rattle.ledger_model.{specs.Limits.Bounds, specs.Periods.Periods}
use Rattle.station_ledger.{specs.Looks.looks_within, specs.Quarters.IsWork, proofs.Looking.{and_then, at_most}}
use Rattle.site_desk.{specs.declared.roster.StationPlace.StationPlace, specs.Cell.Cell, specs.Operator.{named_looks, place_looks, site_looks}, specs.Roster.{IsNamed, StandsAt}, proofs.Operators.at_more}

-- what passes a test among the first counts no more than what passes it among all
prefix_le : {A : Type 0} (f : A → ℕ) (t : A → Bool) (k : ℕ) (xs : List A) → sum_by f (filter t (take k xs)) ≤ sum_by f (filter t xs)
prefix_le f t zero xs = omega arith
prefix_le f t (suc k) [] = omega arith
prefix_le {A} f t (suc k) (x ∷ xs) = one (t x) (prefix_le f t k xs)
  where
    one : (b : Bool) → sum_by f (filter t (take k xs)) ≤ sum_by f (filter t xs)
        → sum_by f (cond b (x ∷ filter t (take k xs)) (filter t (take k xs))) ≤ sum_by f (cond b (x ∷ filter t xs) (filter t xs))
    one true le = omega (arith, le, sum_by-cons f x (filter t (take k xs)), sum_by-cons f x (filter t xs))
    one false le = le

-- one that passes it counts no more than all that do
one_le : {A : Type 0} (f : A → ℕ) (t : A → Bool) (xs : List A) (k : ℕ) (x : A) → slice_get xs k ≡ Some x → t x ≡ true → f x ≤ sum_by f (filter t xs)
one_le f t [] k x at passes = absurd (cc at)
one_le f t (y ∷ ys) zero x at passes =
    let same : y ≡ x = cc in
    let own : t y ≡ true = ap t same ∙ passes in
    let all : sum_by f (filter t (y ∷ ys)) ≡ f y + sum_by f (filter t ys) = ap (λ b. sum_by f (cond b (y ∷ filter t ys) (filter t ys))) own ∙ sum_by-cons f y (filter t ys) in
    omega (arith, all, ap f same)
one_le f t (y ∷ ys) (suc k) x at passes = one (t y) (one_le f t ys k x at passes)
  where
    one : (b : Bool) → f x ≤ sum_by f (filter t ys) → f x ≤ sum_by f (cond b (y ∷ filter t ys) (filter t ys))
    one true le = omega (arith, le, sum_by-cons f y (filter t ys))
    one false le = le

-- the looks of one place more
looks_next : (places : List StationPlace) (site k : ℕ) (p : StationPlace) → k < length places → p ≡ get_or places k p
    → site_looks (take (k + 1) places) site ≡ site_looks (take k places) site + cond (eqb p.site site) (place_looks p) 0
looks_next places site k p less is =
    let ps = filter (λ (q : StationPlace). eqb q.site site) (take k places) in
    ap (sum_by place_looks) (at_more places site k p less is) ∙ sum_by-append place_looks ps (cond (eqb p.site site) (p ∷ []) []) ∙ ap (λ n. sum_by place_looks ps + n) (own (eqb p.site site))
  where
    own : (b : Bool) → sum_by place_looks (cond b (p ∷ []) []) ≡ cond b (place_looks p) 0
    own true = omega (arith, sum_by-cons place_looks p [])
    own false = refl

-- the boards of the stations so far, and of one more
pub looks_more : (places : List StationPlace) (site k : ℕ) (p : StationPlace) (before between after : ℕ) → k < length places → p ≡ get_or places k p
    → IsWork (site_looks (take k places) site) before between → IsWork (cond (eqb p.site site) (place_looks p) 0) between after
    → IsWork (site_looks (take (k + 1) places) site) before after
looks_more places site k p before between after less is one two =
    subst (λ n. IsWork n before after) (sym (looks_next places site k p less is)) (and_then _ _ before between after one two)

-- no more than those of all
pub looks_of_all : (places : List StationPlace) (site k before after : ℕ) → IsWork (site_looks (take k places) site) before after → IsWork (site_looks places site) before after
looks_of_all places site k before after is = at_most _ _ before after (prefix_le place_looks (λ p. eqb p.site site) k places) is

-- the board of the station of this name
pub looks_of_name : (places : List StationPlace) (name : List ℕ) (k : ℕ) (at : StationPlace) (c : Cell) (before after : ℕ) → IsNamed places name k
    → at ≡ get_or places k at → StandsAt k at c → IsWork (looks_within c.period.rule c.limits.readings) before after
    → IsWork (named_looks places name) before after
looks_of_name places name k at c before after named is stands work =
    let place : at ≡ named.place = is ∙ get_or_from_slice_get places k named.place at named.there in
    let limits : c.limits ≡ named.place.limits = stands.limits ∙ ap (λ (p : StationPlace). p.limits) place in
    let period : c.period ≡ named.place.period = stands.period ∙ ap (λ (p : StationPlace). p.period) place in
    let own : IsWork (place_looks named.place) before after =
    subst (λ (l : Bounds). IsWork (looks_within named.place.period.rule l.readings) before after) limits
    (subst (λ (p : Periods). IsWork (looks_within p.rule c.limits.readings) before after) period work) in
    at_most _ _ before after (one_le place_looks (λ p. bytes_eq name p.name) places k named.place named.there ((bytes_eq-Decides name named.place.name).1 (sym named.same))) own
