-- What the parts of a difference are by each rule of settling.
use Rattle.std.{proofs.Common.{◌≡◌, ℕ, ◌≤◌, List, [], ◌∷◌, append-nil, sym, ap, ◌∙◌, arith}, specs.List.AllByRecursion, specs.Prelude.sum_by, proofs.lemmas.List.Sums.sum_by-cons}
use Rattle.ledger_model.{specs.Energy.{Pair, difference, parts_of}, specs.Parts.Part, specs.Periods.Periods, proofs.PartLemmas.{parts_down, parts_up}}

-- Where numbers add up to nothing, each is nothing.
each_nothing : {X : Type 0} (measure : X → ℕ) (xs : List X) → sum_by measure xs ≡ 0 → AllByRecursion (λ x. measure x ≡ 0) xs
each_nothing measure [] none = tt
each_nothing measure (x ∷ xs) none = let all = sum_by-cons measure x xs in (omega (arith, all, none), each_nothing measure xs (omega (arith, all, none)))

pub no_fall : (period : Periods) (p : Pair) → p.0.mwh ≤ p.1.mwh → AllByRecursion (λ t. t.1.down ≡ 0) (parts_of period p)
no_fall period p up =
    let alone = append-nil (parts_of period p) in
    let all : sum_by (λ (t : Part). t.1.down) (parts_of period p) ≡ sum_by (λ (q : Pair). (difference q).down) (p ∷ []) =
    ap (sum_by (λ (t : Part). t.1.down)) (sym alone) ∙ parts_down period (p ∷ []) in
    let one = sum_by-cons (λ (q : Pair). (difference q).down) p [] in
    each_nothing (λ (t : Part). t.1.down) (parts_of period p) (omega (arith, all, one, up))

pub no_rise : (period : Periods) (p : Pair) → p.1.mwh ≤ p.0.mwh → AllByRecursion (λ t. t.1.up ≡ 0) (parts_of period p)
no_rise period p down =
    let alone = append-nil (parts_of period p) in
    let all : sum_by (λ (t : Part). t.1.up) (parts_of period p) ≡ sum_by (λ (q : Pair). (difference q).up) (p ∷ []) = ap (sum_by (λ (t : Part). t.1.up)) (sym alone) ∙ parts_up period (p ∷ []) in
    let one = sum_by-cons (λ (q : Pair). (difference q).up) p [] in
    each_nothing (λ (t : Part). t.1.up) (parts_of period p) (omega (arith, all, one, down))
