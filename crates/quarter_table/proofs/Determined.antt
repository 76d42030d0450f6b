-- Rows are determined by the row of each period.
use Rattle.std.{proofs.Common.{Bool, false, cond, eqb, nat_lt, ◌≡◌, ◌≢◌, ℕ, ◌<◌, ◌≤◌, ◌⊎◌, ⊎_elim, List, [], ◌∷◌, ◌++◌, refl, sym, ap, ◌∙◌, arith, inl, inr}, specs.List.filter, proofs.lemmas.Bool.{cases_lt, cases_order, cond_both, ltb-false}}
use Rattle.quarter_table.{specs.declared.row.QuarterRow.QuarterRow, specs.Rows.{no_row, row_at, earlier, later, if_any, set_row, AreInOrder, HavePairs}, proofs.Orders.{row_here, row_other, after_less, after_missing}, proofs.Replaced.{any_cases, AreBefore, earlier_before, later_after}}

-- A row that has a pair is not that of a period without any.
not_none : (r : QuarterRow) (q : ℕ) → 0 < r.pairs → r ≢ no_row q
not_none r q some e = let none : r.pairs ≡ 0 = ap (λ (x : QuarterRow). x.pairs) e in absurd (omega arith)

-- Where the first rows differ in their period, the earlier one is missing on the other side.
first_missing : (x y : QuarterRow) (ys : List QuarterRow) → x.quarter < y.quarter → AreInOrder (y ∷ ys) → row_at x.quarter (y ∷ ys) ≡ no_row x.quarter
first_missing x y ys lt order = after_missing x.quarter (y ∷ ys) (lt, after_less x.quarter y.quarter ys (omega arith) order.0)

-- Behind two first rows of one period the other rows agree too.
behind_first : (x y : QuarterRow) (xs ys : List QuarterRow) → x.quarter ≡ y.quarter → AreInOrder (x ∷ xs) → AreInOrder (y ∷ ys)
    → ((q : ℕ) → row_at q (x ∷ xs) ≡ row_at q (y ∷ ys)) → (q : ℕ) → row_at q xs ≡ row_at q ys
behind_first x y xs ys e xo yo same q = elim (cases_lt x.quarter q) [
  | inl after ↦ sym (row_other q x xs (λ is. absurd (omega arith))) ∙ same q ∙ row_other q y ys (λ is. absurd (omega arith))
  | inr le ↦ after_missing q xs (after_less q x.quarter xs le xo.0) ∙ sym (after_missing q ys (after_less q y.quarter ys (omega arith) yo.0))
]

-- Rows in order that have pairs, with the same row for each period, are the same.
pub rows_alike : (xs ys : List QuarterRow) → AreInOrder xs → HavePairs xs → AreInOrder ys → HavePairs ys → ((q : ℕ) → row_at q xs ≡ row_at q ys) → xs ≡ ys
rows_alike [] [] xo xp yo yp same = refl
rows_alike [] (y ∷ ys) xo xp yo yp same = absurd (not_none y y.quarter yp.0 (sym (row_here y.quarter y ys refl) ∙ sym (same y.quarter)))
rows_alike (x ∷ xs) [] xo xp yo yp same = absurd (not_none x x.quarter xp.0 (sym (row_here x.quarter x xs refl) ∙ same x.quarter))
rows_alike (x ∷ xs) (y ∷ ys) xo xp yo yp same = ⊎_elim
    (λ (e : x.quarter ≡ y.quarter).
    let first : x ≡ y = sym (row_here x.quarter x xs refl) ∙ same x.quarter ∙ row_here x.quarter y ys (sym e) in
    let rest : xs ≡ ys = rows_alike xs ys xo.1 xp.1 yo.1 yp.1 (behind_first x y xs ys e xo yo same) in
    λ i. first i ∷ rest i)
    (λ (o : (x.quarter < y.quarter) ⊎ (y.quarter < x.quarter)). ⊎_elim
    (λ (lt : x.quarter < y.quarter). absurd (not_none x x.quarter xp.0 (sym (row_here x.quarter x xs refl) ∙ same x.quarter ∙ first_missing x y ys lt yo)))
    (λ (lt : y.quarter < x.quarter). absurd (not_none y y.quarter yp.0 (sym (row_here y.quarter y ys refl) ∙ sym (same y.quarter) ∙ first_missing y x xs lt xo)))
    o)
    (cases_order x.quarter y.quarter)

-- Rows of earlier periods are passed over.
skip_before : (q k : ℕ) (xs ys : List QuarterRow) → AreBefore q xs → q ≤ k → row_at k (xs ++ ys) ≡ row_at k ys
skip_before q k [] ys before le = refl
skip_before q k (x ∷ xs) ys before le = row_other k x (xs ++ ys) (λ is. absurd (omega (arith, before.0))) ∙ skip_before q k xs ys before.1 le

-- Rows that lack a period, put behind others, change nothing for it.
skip_missing : (k : ℕ) (xs ys : List QuarterRow) → row_at k ys ≡ no_row k → row_at k (xs ++ ys) ≡ row_at k xs
skip_missing k [] ys none = none
skip_missing k (x ∷ xs) ys none = ap (cond (eqb x.quarter k) x) (skip_missing k xs ys none)

-- The row of a period is found among some of the rows, where it is not one of those left out.
among : (p : QuarterRow → Bool) (k : ℕ) (r : QuarterRow) (rs : List QuarterRow) → row_at k (filter p rs) ≡ row_at k rs → (p r ≡ false → r.quarter ≡ k → ⊥)
    → row_at k (filter p (r ∷ rs)) ≡ row_at k (r ∷ rs)
among p k r rs rest apart = cond_both (p r) _ _ (λ l. row_at k l ≡ row_at k (r ∷ rs)) (λ is. ap (cond (eqb r.quarter k) r) rest) (λ out. rest ∙ sym (row_other k r rs (apart out)))

-- The row of an earlier period is found among the earlier ones.
among_earlier : (q k : ℕ) (rs : List QuarterRow) → k < q → row_at k (earlier q rs) ≡ row_at k rs
among_earlier q k [] lt = refl
among_earlier q k (r ∷ rs) lt = among (λ (x : QuarterRow). nat_lt x.quarter q) k r rs (among_earlier q k rs lt) (λ out is. let past = ltb-false r.quarter q out in omega arith)

-- The row of a later period is found among the later ones.
among_later : (q k : ℕ) (rs : List QuarterRow) → q < k → row_at k (later q rs) ≡ row_at k rs
among_later q k [] lt = refl
among_later q k (r ∷ rs) lt = among (λ (x : QuarterRow). nat_lt q x.quarter) k r rs (among_later q k rs lt) (λ out is. let past = ltb-false q r.quarter out in omega arith)

-- The row of the period that was set.
pub row_at-set_same : (row : QuarterRow) (rs : List QuarterRow) → (row.pairs ≡ 0 → row ≡ no_row row.quarter) → row_at row.quarter (set_row row rs) ≡ row
row_at-set_same row rs none =
    let q = row.quarter in
    skip_before q q (earlier q rs) (if_any row ++ later q rs) (earlier_before q rs) (omega arith)
    ∙ any_cases (λ any. row_at q (any ++ later q rs) ≡ row) row (λ some. row_here q row (later q rs) refl) (λ e. after_missing q (later q rs) (later_after q rs) ∙ sym (none e))

-- The set row and the later ones lack each earlier period.
tail_missing : (k : ℕ) (row : QuarterRow) (rs : List QuarterRow) → k < row.quarter → row_at k (if_any row ++ later row.quarter rs) ≡ no_row k
tail_missing k row rs lt =
    let after = after_less k row.quarter (later row.quarter rs) (omega arith) (later_after row.quarter rs) in
    any_cases (λ any. row_at k (any ++ later row.quarter rs) ≡ no_row k) row (λ some. after_missing k (row ∷ later row.quarter rs) (lt, after)) (λ none. after_missing k (later row.quarter rs) after)

-- The set row is passed over for a later period.
tail_later : (k : ℕ) (row : QuarterRow) (rs : List QuarterRow) → row.quarter < k → row_at k (if_any row ++ later row.quarter rs) ≡ row_at k (later row.quarter rs)
tail_later k row rs lt =
    any_cases (λ any. row_at k (any ++ later row.quarter rs) ≡ row_at k (later row.quarter rs)) row (λ some. row_other k row (later row.quarter rs) (λ is. absurd (omega arith))) (λ none. refl)

-- The row of another period stays.
pub row_at-set_other : (k : ℕ) (row : QuarterRow) (rs : List QuarterRow) → k ≢ row.quarter → row_at k (set_row row rs) ≡ row_at k rs
row_at-set_other k row rs apart =
    let q = row.quarter in
    elim (cases_lt k q) [
      | inl lt ↦ skip_missing k (earlier q rs) (if_any row ++ later q rs) (tail_missing k row rs lt) ∙ among_earlier q k rs lt
      | inr le ↦ let gt : q < k = omega arith in
          skip_before q k (earlier q rs) (if_any row ++ later q rs) (earlier_before q rs) le ∙ tail_later k row rs gt ∙ among_later q k rs gt
    ]
