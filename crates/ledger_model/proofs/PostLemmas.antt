-- What one post more changes, and that the totals are the sums over the rows.
use Rattle.std.{proofs.Common.{◌≡◌, ◌≢◌, ℕ, zero, suc, ◌<◌, ◌≤◌, ◌+◌, ◌*◌, Bool, true, false, cond, not, ◌||◌, List, [], ◌∷◌, ◌++◌, refl, ap, sym, ◌∙◌, ⊎_elim, arith, map, eqb}, specs.Prelude.{sum_by, All}, specs.List.{range_with_len, slice_index_or}, proofs.lemmas.Bool.{eq-eqb, ne_eqb, eqb-true, cases_eq, or_parts, or_right}, proofs.lemmas.List.Elements.{All-head, All-tail}, proofs.lemmas.List.Folds.list_any-append}
use Rattle.ledger_model.{specs.declared.figures.Figures.Figures, specs.Figures.{figure_at, no_figures}, specs.Board.{plus_figures, sum_of_figures}, specs.Posts.{Post, has_post, row_after, totals_after}, proofs.SumLemmas.{sum_by-same, sum_by-none, sum_by-plus, sum_by-map, sum_by-count, times, times-here, times-other, taken}, proofs.FigureLemmas.{at_none, at_plus, at_sum, same_figures}}

or_false : (b : Bool) → (b || false) ≡ b
or_false true = refl
or_false false = refl

-- a post more is there for its row
has-push : (row other : ℕ) (f : Figures) (ps : List Post) → has_post other (ps ++ (row, f) ∷ []) ≡ (has_post other ps || eqb row other)
has-push row other f ps = list_any-append (λ (p : Post). eqb p.0 other) ps ((row, f) ∷ []) ∙ ap (λ b. has_post other ps || b) (or_false (eqb row other))

-- a row that nothing was posted for
row-none : (row : ℕ) (ps : List Post) → has_post row ps ≡ false → row_after row ps ≡ no_figures
row-none row [] h = refl
row-none row (p ∷ ps) h = let parts = or_parts (eqb p.0 row) (has_post row ps) h in rw (parts.1, parts.0)

pub row-push_same : (row : ℕ) (f : Figures) (ps : List Post) → row_after row (ps ++ (row, f) ∷ []) ≡ f
row-push_same row f [] = rw (eq-eqb row row refl)
row-push_same row f (p ∷ ps) =
    ap (λ b. cond b (row_after row (ps ++ (row, f) ∷ [])) (cond (eqb p.0 row) p.1 no_figures)) (has-push row row f ps ∙ or_right (has_post row ps) (eqb row row) (eq-eqb row row refl))
    ∙ row-push_same row f ps

pub row-push_other : (row other : ℕ) (f : Figures) (ps : List Post) → row ≢ other → row_after other (ps ++ (row, f) ∷ []) ≡ row_after other ps
row-push_other row other f [] apart = rw (ne_eqb row other apart)
row-push_other row other f (p ∷ ps) apart =
    ap (λ b. cond b (row_after other (ps ++ (row, f) ∷ [])) (cond (eqb p.0 other) p.1 no_figures))
    (has-push row other f ps ∙ ap (λ b. has_post other ps || b) (ne_eqb row other apart) ∙ or_false (has_post other ps))
    ∙ ap (λ r. cond (has_post other ps) r (cond (eqb p.0 other) p.1 no_figures)) (row-push_other row other f ps apart)

-- one figure of what one post more leaves
module _ (k : ℕ) where
  abbrev figure : Figures → ℕ
  figure = figure_at k

  -- what a post counts: its figure, if no later post is for its row
  abbrev counts : Post → List Post → ℕ
  counts p ps = taken (not (has_post p.0 ps)) (figure p.1)

  totals-cons : (p : Post) (ps : List Post) → figure (totals_after (p ∷ ps)) ≡ counts p ps + figure (totals_after ps)
  totals-cons p ps = by_case (has_post p.0 ps)
    where
      by_case : (b : Bool) → figure (cond b (totals_after ps) (plus_figures p.1 (totals_after ps))) ≡ taken (not b) (figure p.1) + figure (totals_after ps)
      by_case true = omega arith
      by_case false = at_plus k p.1 (totals_after ps)

  row-cons : (row : ℕ) (p : Post) (ps : List Post) → figure (row_after row (p ∷ ps)) ≡ taken (eqb p.0 row) (counts p ps) + figure (row_after row ps)
  row-cons row p ps = by_case (has_post row ps) (has_post p.0 ps) (eqb p.0 row) (λ e. ap (λ r. has_post r ps) (eqb-true p.0 row e)) (λ h. ap figure (row-none row ps h) ∙ at_none k)
    where
      by_case : (b c e : Bool) → (e ≡ true → c ≡ b) → (b ≡ false → figure (row_after row ps) ≡ 0)
          → figure (cond b (row_after row ps) (cond e p.1 no_figures)) ≡ taken e (taken (not c) (figure p.1)) + figure (row_after row ps)
      by_case true c true same nothing = omega (arith, ap (λ b. taken (not b) (figure p.1)) (same refl))
      by_case true c false same nothing = omega arith
      by_case false c true same nothing = omega (arith, ap (λ b. taken (not b) (figure p.1)) (same refl), nothing refl)
      by_case false c false same nothing = omega (arith, at_none k, nothing refl)

  figure-push : (row : ℕ) (f : Figures) (ps : List Post) → figure (totals_after (ps ++ (row, f) ∷ [])) + figure (row_after row ps) ≡ figure (totals_after ps) + figure f
  figure-push row f [] = omega (arith, totals-cons (row, f) [], at_none k)
  figure-push row f (p ∷ ps) =
      let last = ap (λ b. taken (not b) (figure p.1)) (has-push row p.0 f ps ∙ ap (λ b. has_post p.0 ps || b) (turned row p.0)) in
      omega (
        arith,
        figure-push row f ps,
        totals-cons p (ps ++ (row, f) ∷ []),
        totals-cons p ps,
        row-cons row p ps,
        last,
        at_one (has_post p.0 ps) (eqb p.0 row) (figure p.1),
      )
    where
      turned : (m n : ℕ) → eqb m n ≡ eqb n m
      turned m n = ⊎_elim (λ (e : m ≡ n). (λ i. eqb (e i) (sym e i))) (λ apart. ne_eqb m n apart ∙ sym (ne_eqb n m (λ e. apart (sym e)))) (cases_eq m n)

      at_one : (h e : Bool) (n : ℕ) → taken (not (h || e)) n + taken e (taken (not h) n) ≡ taken (not h) n
      at_one true true n = omega arith
      at_one true false n = omega arith
      at_one false true n = omega arith
      at_one false false n = omega arith

  -- a figure of the totals is the sum of that figure over rows in which each posted row occurs once
  figure-rows : (rows : List ℕ) (ps : List Post) → All (λ p. times p.0 rows ≡ 1) ps → figure (totals_after ps) ≡ sum_by (λ row. figure (row_after row ps)) rows
  figure-rows rows [] once = at_none k ∙ sym (sum_by-same (λ row. figure no_figures) (λ row. 0) (λ row. at_none k) rows ∙ sum_by-none rows)
  figure-rows rows (p ∷ ps) once =
      let one : times p.0 rows ≡ 1 = All-head (λ (q : Post). times q.0 rows ≡ 1) p ps once in
      omega (
        arith,
        totals-cons p ps,
        figure-rows rows ps (All-tail (λ (q : Post). times q.0 rows ≡ 1) p ps once),
        sum_by-same _ _ (λ row. row-cons row p ps) rows,
        sum_by-plus (λ row. taken (eqb p.0 row) (counts p ps)) (λ row. figure (row_after row ps)) rows,
        sum_by-count (eqb p.0) (counts p ps) rows ∙ ap (λ n. n * counts p ps) one,
      )

-- the numbers of a range occur once in it
times-before : (q a n : ℕ) → q < a → times q (range_with_len a n) ≡ 0
times-before q a zero less = refl
times-before q a (suc n) less = times-other q a (range_with_len (a + 1) n) (λ e. absurd (omega arith)) ∙ times-before q (a + 1) n (omega arith)

times-range : (q a n : ℕ) → a ≤ q → q < a + n → times q (range_with_len a n) ≡ 1
times-range q a zero low high = absurd (omega arith)
times-range q a (suc n) low high = ⊎_elim
    (λ (e : q ≡ a). times-here q a (range_with_len (a + 1) n) e ∙ ap (λ k. 1 + k) (times-before q (a + 1) n (omega arith)))
    (λ (apart : q ≢ a). times-other q a (range_with_len (a + 1) n) apart ∙ times-range q (a + 1) n (omega arith) (omega arith))
    (cases_eq q a)

once_below : (n : ℕ) (ps : List Post) → All (λ p. p.0 < n) ps → All (λ p. times p.0 (range_with_len 0 n) ≡ 1) ps
once_below n ps below k d lt = let less : (slice_index_or ps k d).0 < n = below k d lt in times-range _ 0 n (omega arith) (omega arith)

pub totals-rows : (n : ℕ) (ps : List Post) → All (λ p. p.0 < n) ps → totals_after ps ≡ sum_of_figures (map (λ row. row_after row ps) (range_with_len 0 n))
totals-rows n ps below = same_figures _ _ (λ k _.
    figure-rows k (range_with_len 0 n) ps (once_below n ps below)
    ∙ sym (at_sum k (map (λ row. row_after row ps) (range_with_len 0 n)) ∙ sum_by-map (figure_at k) (λ row. row_after row ps) (range_with_len 0 n)))

pub totals-push : (row : ℕ) (f : Figures) (ps : List Post) → plus_figures (totals_after (ps ++ (row, f) ∷ [])) (row_after row ps) ≡ plus_figures (totals_after ps) f
totals-push row f ps = same_figures _ _ (λ k _. at_plus k (totals_after (ps ++ (row, f) ∷ [])) (row_after row ps) ∙ figure-push k row f ps ∙ sym (at_plus k (totals_after ps) f))
