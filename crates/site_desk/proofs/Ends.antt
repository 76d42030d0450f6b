-- What a desk keeps, and what is known once it is closed.
use Rattle.std.{proofs.Common.{◌≡◌, ℕ, zero, suc, ◌<◌, ◌≤◌, Bool, true, false, List, [], ◌∷◌, length, set, get_or, Some, refl, ap, sym, ◌∙◌, arith}, specs.Prelude.{slice_get, None}, proofs.lemmas.Option.{slice_get_within, slice_get_read, get_or_from_slice_get}}
use Rattle.site_book.specs.Book.{Book}
use Rattle.site_desk.{specs.declared.plan.SitePlan.SitePlan, specs.declared.plan.StationPlan.StationPlan, specs.declared.roster.StationPlace.StationPlace, specs.Parts.{AreTied, IsTied}, specs.Plan.plan_fault, specs.Roster.{AreNewPlaces, IsDesk, new_place}, proofs.NewParts.planned_sites, specs.Cell.Cell}

-- an answer that is not the one for an unknown name
pub known_not : {A : Type 0} (r u : A) (b : Bool) → (r ≡ u → ⊥) → true ≡ b → (r ≡ u → b ≡ false) × (b ≡ false → r ≡ u)
known_not r u b apart known = ((λ e. absurd (apart e)), (λ none. let both : true ≡ false = known ∙ none in absurd (cc (both))))

-- the desk of a plan without a fault
pub new_desk : (sites : List SitePlan) (stations : List StationPlan) (places : List StationPlace) (cells books : ℕ)
    → plan_fault sites stations ≡ None → AreNewPlaces sites stations places → length stations ≤ 64 → length sites ≤ 16
    → cells ≡ length stations → books ≡ length sites
    → IsDesk places cells books
new_desk sites stations places cells books h new few fewer count sums = record {
  each_cell = count ∙ sym new.count;
  few_cells = omega (arith, count, few);
  few_books = omega (arith, sums, fewer);
  sites = λ k p at.
      let less : k < length stations = let in_places = slice_get_within places k p at in omega (arith, in_places, new.count) in
      let found = found_at stations k less in
      let same : Some (new_place sites stations k found.0) ≡ Some p = sym (new.each k found.0 found.1) ∙ at in
      let site : found.0.site ≡ p.site = ap (λ (q : StationPlace). q.site) (some_same _ _ same) in
      let low = planned_sites sites stations k found.0 h found.1 in
      omega (arith, site, low, sums);
}
  where
    found_at : (xs : List StationPlan) (k : ℕ) → k < length xs → (s : StationPlan) × (slice_get xs k ≡ Some s)
    found_at [] k less = absurd (omega arith)
    found_at (x ∷ xs) zero less = (x, refl)
    found_at (x ∷ xs) (suc k) less = found_at xs k (omega arith)

    some_same : (a b : StationPlace) → Some a ≡ Some b → a ≡ b
    some_same a b h = cc

-- the cell that is read is tied
pub tied_at : (cells : List Cell) (books : List Book) (k : ℕ) (c : Cell) → AreTied cells books → k < length cells → c ≡ get_or cells k c → IsTied books c
tied_at cells books k c tied less is = tied k c (slice_get_read cells (length cells) k c refl less is)

-- the book of its site
pub book_at : (books : List Book) (c : Cell) (b : Book) → (t : IsTied books c) → b ≡ get_or books c.site b → b ≡ t.book
book_at books c b t is = is ∙ get_or_from_slice_get books c.site t.book b t.there
