-- Figures as sums: they fit their words.
use Rattle.std.{proofs.Common.{◌≡◌, ℕ, suc, ◌+◌, ◌*◌, ◌≤◌, List, [], ◌∷◌, length, map, Some, refl, ap, sym, ◌∙◌, subst, arith}, specs.Prelude.{sum_by, slice_get}, specs.List.range_with_len, proofs.lemmas.List.Sums.sum_by-cons}
use lib.ListN.{length-map}
use Rattle.ledger_model.{specs.Ranges.most_plan_readings, specs.declared.figures.Figures.Figures, specs.Figures.{figure_at, AreWithin}, specs.Board.{plus_figures, sum_of_figures}, specs.Posts.{Post, row_after, totals_after}, proofs.FigureLemmas.{at_none, at_plus, few_at, same_figures}, proofs.PostLemmas.totals-rows}
use Rattle.site_book.{specs.declared.row.BookRow.BookRow, specs.Kept.AreRows, specs.Sums.{AreAtMost, AreWords}}

abbrev readings_of : List BookRow → ℕ
readings_of rows = sum_by (λ l. l.readings) (map (λ r. r.limits) rows)

-- what a figure of so many stations with so many readings is at most
abbrev most_of : List BookRow → ℕ
most_of rows = 8_796_093_087_744 * length rows + 10_000_000_000_000 * readings_of rows

-- a station's figures are at most those of one with that many readings
of_row : (r : BookRow) (k : ℕ) → figure_at k r.figures ≤ 8_796_093_087_744 + 10_000_000_000_000 * r.limits.readings
of_row r k =
    let events : r.limits.events ≤ 65_536 = r.events in
    let transactions : r.limits.transactions ≤ 4_096 = r.transactions in
    omega (arith, few_at r.limits r.figures r.within k, events, transactions)

sum-under : (k : ℕ) (rows : List BookRow) → figure_at k (sum_of_figures (map (λ r. r.figures) rows)) ≤ most_of rows
sum-under k [] = omega (arith, at_none k)
sum-under k (r ∷ rows) =
    let all : readings_of (r ∷ rows) ≡ r.limits.readings + readings_of rows = sum_by-cons (λ l. l.readings) r.limits (map (λ q. q.limits) rows) in
    omega (arith, sum-under k rows, of_row r k, at_plus k r.figures (sum_of_figures (map (λ q. q.figures) rows)), all)

-- rows in their order, from the row a on
listed : (rows : List BookRow) (g : ℕ → Figures) (a : ℕ)
    → ((k : ℕ) (r : BookRow) → slice_get rows k ≡ Some r → r.figures ≡ g (a + k))
    → map (λ r. r.figures) rows ≡ map g (range_with_len a (length rows))
listed [] g a each = refl
listed (r ∷ rows) g a each =
    let here : a + 0 ≡ a = omega arith in
    let head : r.figures ≡ g a = each 0 r refl ∙ ap g here in
    let tail : map (λ q. q.figures) rows ≡ map g (range_with_len (a + 1) (length rows))
    = listed rows g (a + 1) (λ k q at. let next : a + suc k ≡ a + 1 + k = omega arith in each (suc k) q at ∙ ap g next) in
    λ i. head i ∷ tail i

-- the totals of a book's posts
totals-under : (k : ℕ) (rows : List BookRow) (log : List Post) → AreRows rows log → figure_at k (totals_after log) ≤ most_of rows
totals-under k rows log kept =
    let same : map (λ r. r.figures) rows ≡ map (λ row. row_after row log) (range_with_len 0 (length rows))
    = listed rows (λ row. row_after row log) 0 (λ k r at. let zero_plus : k ≡ 0 + k = omega arith in kept.figures k r at ∙ ap (λ n. row_after n log) zero_plus) in
    let total : totals_after log ≡ sum_of_figures (map (λ r. r.figures) rows) = totals-rows (length rows) log kept.posted ∙ ap sum_of_figures (sym same) in
    subst (λ f. figure_at k f ≤ most_of rows) (sym total) (sum-under k rows)

-- the totals and a row's new figures together fit a word each
pub totals-words : (rows : List BookRow) (log : List Post) (r : BookRow) (totals f : Figures) → AreRows rows log → totals ≡ totals_after log → AreWithin r.limits f → AreWords (plus_figures totals f)
totals-words rows log r totals f kept is w k =
    let under : figure_at k totals ≤ most_of rows = subst (λ g. figure_at k g ≤ most_of rows) (sym is) (totals-under k rows log kept) in
    let own : figure_at k f ≤ 8_796_093_087_744 + 10_000_000_000_000 * r.limits.readings = of_row (record r { figures = f; within = w }) k in
    let count : length (map (λ (q : BookRow). q.limits) rows) ≡ length rows = length-map rows (λ (q : BookRow). q.limits) in
    let few : length rows ≤ 64 = omega (arith, kept.planned.few, count) in
    let readings : readings_of rows ≤ most_plan_readings = kept.planned.readings in
    let most : r.limits.readings ≤ 65_536 = r.readings in
    omega (arith, at_plus k totals f, under, own, few, readings, most)

-- a part of a sum is at most the sum
pub part-at_most : (a old sum : Figures) → plus_figures a old ≡ sum → AreAtMost old sum
part-at_most a old sum e k = omega (arith, at_plus k a old, ap (figure_at k) e)

-- what is the same with a part more is the same
pub plus-cancel : (a b c : Figures) → plus_figures a c ≡ plus_figures b c → a ≡ b
plus-cancel a b c e = same_figures a b (λ k _. omega (arith, at_plus k a c, at_plus k b c, ap (figure_at k) e))

-- the totals are the sums over as many rows as there are limits
pub totals-sums : (rows : List BookRow) (log : List Post) → AreRows rows log
    → totals_after log ≡ sum_of_figures (map (λ row. row_after row log) (range_with_len 0 (length (map (λ r. r.limits) rows))))
totals-sums rows log kept =
    let count : length (map (λ (q : BookRow). q.limits) rows) ≡ length rows = length-map rows (λ (q : BookRow). q.limits) in
    totals-rows (length rows) log kept.posted ∙ ap (λ n. sum_of_figures (map (λ row. row_after row log) (range_with_len 0 n))) (sym count)
