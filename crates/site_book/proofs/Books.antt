-- What a post does to a book's rows and totals.
use Rattle.std.{proofs.Common.{◌≡◌, ◌≢◌, ℕ, zero, suc, ◌<◌, List, [], ◌∷◌, ◌++◌, length, map, set, Some, get_or, refl, ap, sym, ◌∙◌, subst, ⊎_elim, length-set}, specs.Prelude.{slice_get, All}, proofs.lemmas.Bool.cases_eq, proofs.lemmas.List.Elements.All-push, proofs.lemmas.Option.{slice_get_within, get_or_from_slice_get}, proofs.Math.Seq.map-set_same}
use Rattle.ledger_model.{specs.declared.figures.Figures.Figures, specs.Figures.AreWithin, specs.Limits.Bounds, specs.Board.plus_figures, specs.Posts.{Post, row_after, totals_after}, proofs.PostLemmas.{row-push_same, row-push_other, totals-push}}
use Rattle.site_book.{specs.declared.row.BookRow.BookRow, specs.Book.{Admits, ArePlanned}, specs.Kept.AreRows, proofs.Named.{get_else, get_here}, proofs.Totals.plus-cancel}

-- the row of limits that are there
row_at : (rows : List BookRow) (k : ℕ) (b : Bounds) → slice_get (map (λ r. r.limits) rows) k ≡ Some b → (r : BookRow) × (slice_get rows k ≡ Some r) × (r.limits ≡ b)
row_at [] k b e = absurd (cc (e))
row_at (r ∷ rows) zero b e = (r, refl, cc (e))
row_at (r ∷ rows) (suc k) b e = row_at rows k b e

-- figures that are admitted are within the limits of the row as it is read
pub admitted : (rows : List BookRow) (k : ℕ) (f : Figures) (r : BookRow) → Admits (map (λ q. q.limits) rows) k f → r ≡ get_or rows k r → (slice_get rows k ≡ Some r) × AreWithin r.limits f
admitted rows k f r a read =
    let at = row_at rows k a.bounds a.there in
    let same : r ≡ at.0 = read ∙ get_or_from_slice_get rows k at.0 r at.1 in
    (at.1 ∙ ap Some (sym same), subst (λ (b : Bounds). AreWithin b f) (sym (ap (λ q. q.limits) same ∙ at.2)) a.within)

-- the rows after a post
pub rows-posted : (rows : List BookRow) (log : List Post) (k : ℕ) (r r' : BookRow) (f : Figures) → AreRows rows log → slice_get rows k ≡ Some r → r'.limits ≡ r.limits → r'.figures ≡ f
    → AreRows (set rows k r') (log ++ (k, f) ∷ [])
rows-posted rows log k r r' f kept at limits figures =
    let less : k < length rows = slice_get_within rows k r at in
    let count : length (set rows k r') ≡ length rows = length-set rows k r' in
    record {
      figures = λ j q here. ⊎_elim
          (λ (e : j ≡ k).
          let mine : slice_get (set rows k r') k ≡ Some r' = get_here rows k r r' at in
          let there : slice_get (set rows k r') k ≡ Some q = ap (slice_get (set rows k r')) (sym e) ∙ here in
          let same : r' ≡ q = cc (mine, there) in
          ap (λ s. s.figures) (sym same) ∙ figures ∙ sym (row-push_same k f log) ∙ ap (λ n. row_after n (log ++ (k, f) ∷ [])) (sym e))
          (λ (apart : j ≢ k). kept.figures j q (sym (get_else rows k j r' apart) ∙ here) ∙ sym (row-push_other k j f log (λ e. apart (sym e))))
          (cases_eq j k);
      posted = subst (λ n. All (λ (p : Post). p.0 < n) (log ++ (k, f) ∷ [])) (sym count) (All-push (λ (p : Post). p.0 < length rows) log (k, f) kept.posted less);
      planned = subst ArePlanned (sym (map-set_same (λ (q : BookRow). q.limits) rows k r' r (limits ∙ ap (λ q. q.limits) (sym (get_or_from_slice_get rows k r r at))))) kept.planned;
    }

-- what a replaced total is
pub totals-posted : (log : List Post) (k : ℕ) (totals old f new : Figures) → totals ≡ totals_after log → old ≡ row_after k log → plus_figures new old ≡ plus_figures totals f
    → new ≡ totals_after (log ++ (k, f) ∷ [])
totals-posted log k totals old f new is row sums =
    plus-cancel new (totals_after (log ++ (k, f) ∷ [])) old
    (sums ∙ ap (λ t. plus_figures t f) is ∙ sym (totals-push k f log) ∙ ap (plus_figures (totals_after (log ++ (k, f) ∷ []))) (sym row))

-- what is replaced is part of the sum
pub totals-part : (log : List Post) (k : ℕ) (totals old f : Figures) → totals ≡ totals_after log → old ≡ row_after k log
    → plus_figures (totals_after (log ++ (k, f) ∷ [])) old ≡ plus_figures totals f
totals-part log k totals old f is row =
    ap (plus_figures (totals_after (log ++ (k, f) ∷ []))) row ∙ totals-push k f log ∙ ap (λ t. plus_figures t f) (sym is)
