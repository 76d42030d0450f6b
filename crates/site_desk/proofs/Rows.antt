-- Rows and limits of a plan's stations, one station after the other.
use Rattle.std.{proofs.Common.{◌≡◌, ◌≢◌, ℕ, ◌+◌, ◌<◌, true, false, cond, eqb, List, [], ◌∷◌, ◌++◌, length, map, take, get_or, ap, sym, ◌∙◌}, specs.Prelude.filter, proofs.lemmas.Bool.{eq-eqb, ne_eqb}, proofs.lemmas.List.take_more}
use Rattle.site_desk.{specs.declared.plan.StationPlan.StationPlan, specs.Parts.limits_at}

-- one station more, of the site
limits-push : (xs : List StationPlan) (site : ℕ) (s : StationPlan) → s.site ≡ site → limits_at (xs ++ s ∷ []) site ≡ limits_at xs site ++ s.limits ∷ []
limits-push [] site s e = rw (eq-eqb s.site site e)
limits-push (x ∷ xs) site s e =
    elim (eqb x.site site) as (λ b. map (λ (t : StationPlan). t.limits) (cond b (x ∷ filter (λ t. eqb t.site site) (xs ++ s ∷ [])) (filter (λ t. eqb t.site site) (xs ++ s ∷ [])))
    ≡ map (λ (t : StationPlan). t.limits) (cond b (x ∷ filter (λ t. eqb t.site site) xs) (filter (λ t. eqb t.site site) xs)) ++ s.limits ∷ []) [
      | true ↦ ap (λ ls. x.limits ∷ ls) (limits-push xs site s e)
      | false ↦ limits-push xs site s e
    ]

-- one station more, of another site
limits-skip : (xs : List StationPlan) (site : ℕ) (s : StationPlan) → s.site ≢ site → limits_at (xs ++ s ∷ []) site ≡ limits_at xs site
limits-skip [] site s apart = rw (ne_eqb s.site site apart)
limits-skip (x ∷ xs) site s apart =
    elim (eqb x.site site) as (λ b. map (λ (t : StationPlan). t.limits) (cond b (x ∷ filter (λ t. eqb t.site site) (xs ++ s ∷ [])) (filter (λ t. eqb t.site site) (xs ++ s ∷ [])))
    ≡ map (λ (t : StationPlan). t.limits) (cond b (x ∷ filter (λ t. eqb t.site site) xs) (filter (λ t. eqb t.site site) xs))) [
      | true ↦ ap (λ ls. x.limits ∷ ls) (limits-skip xs site s apart)
      | false ↦ limits-skip xs site s apart
    ]

-- the step of a loop over stations
pub limits_more_yes : (xs : List StationPlan) (site i : ℕ) (s : StationPlan) → i < length xs → s ≡ get_or xs i s → s.site ≡ site
    → limits_at (take (i + 1) xs) site ≡ limits_at (take i xs) site ++ s.limits ∷ []
limits_more_yes xs site i s less is e =
    ap (λ ys. limits_at ys site) (take_more xs i s less ∙ ap (λ z. take i xs ++ z ∷ []) (sym is)) ∙ limits-push (take i xs) site s e

pub limits_more_no : (xs : List StationPlan) (site i : ℕ) (s : StationPlan) → i < length xs → s ≡ get_or xs i s → s.site ≢ site → limits_at (take (i + 1) xs) site ≡ limits_at (take i xs) site
limits_more_no xs site i s less is apart =
    ap (λ ys. limits_at ys site) (take_more xs i s less ∙ ap (λ z. take i xs ++ z ∷ []) (sym is)) ∙ limits-skip (take i xs) site s apart
