-- The names of a desk's stations, and what is known of its cells once it is closed.
use Rattle.std.{proofs.Common.{◌≡◌, ℕ, zero, suc, ◌<◌, List, [], ◌∷◌, length, Some, refl, ap, sym, ◌∙◌, subst, arith}, specs.Prelude.{All, slice_get}, proofs.lemmas.Option.{slice_get_within, get_or_from_slice_get}}
use Rattle.site_desk.{specs.declared.plan.SitePlan.SitePlan, specs.declared.plan.StationPlan.StationPlan, specs.declared.roster.StationPlace.StationPlace, specs.Roster.{AreNewPlaces, new_place}}
use Rattle.kept_desk.specs.Opened.{AreNames}

-- the names of places
pub named_places : (name : ℕ → List ℕ) (sites : List SitePlan) (stations : List StationPlan) (places : List StationPlace) → AreNames name stations → AreNewPlaces sites stations places
    → (k : ℕ) (p : StationPlace) → slice_get places k ≡ Some p → name k ≡ p.name
named_places name sites stations places names new k p at =
    let in_places = slice_get_within places k p at in
    let less : k < length stations = omega (arith, in_places, new.count) in
    let found = found_at stations k less in
    let same : Some (new_place sites stations k found.0) ≡ Some p = sym (new.each k found.0 found.1) ∙ at in
    names k found.0 found.1 ∙ ap (λ (q : StationPlace). q.name) (some_same _ _ same)
  where
    found_at : (xs : List StationPlan) (k : ℕ) → k < length xs → (s : StationPlan) × (slice_get xs k ≡ Some s)
    found_at [] k less = absurd (omega arith)
    found_at (x ∷ xs) zero less = (x, refl)
    found_at (x ∷ xs) (suc k) less = found_at xs k (omega arith)

    some_same : (a b : StationPlace) → Some a ≡ Some b → a ≡ b
    some_same a b h = cc

-- what holds of all elements holds of the one that is here
pub all_at : {A : Type 0} (P : A → Type 0) (xs : List A) (k : ℕ) (x : A) → All P xs → slice_get xs k ≡ Some x → P x
all_at P xs k x all at = subst P (get_or_from_slice_get xs k x x at) (all k x (slice_get_within xs k x at))
