-- Rows with one replaced or left out.
use Rattle.std.{proofs.Common.{◌≡◌, ℕ, suc, ◌<◌, ◌≤◌, Bool, true, false, cond, nat_lt, eqb, List, [], ◌∷◌, ◌++◌, drop, set, sym, ap, ◌∙◌, arith}, specs.List.{insert, remove, filter}, proofs.lemmas.Bool.{cond_both, eq-eqb, eqb-false, eqb-true, ltb-true, ne_eqb}, proofs.lemmas.List.set_split}
use Rattle.quarter_table.{specs.declared.row.QuarterRow.QuarterRow, specs.Rows.{earlier, later, if_any, set_row, AreAfter, AreInOrder, HavePairs}, specs.Kept.{StandsAt, BelongsAt}}

-- A row that has a pair.
pub some_row : (r : QuarterRow) → 0 < r.pairs → if_any r ≡ r ∷ []
some_row r lt = ap (λ b. cond b [] (r ∷ [])) (ne_eqb r.pairs 0 (λ e. absurd (omega arith)))

-- A row that has none.
pub none_row : (r : QuarterRow) → r.pairs ≡ 0 → if_any r ≡ []
none_row r e = ap (λ b. cond b [] (r ∷ [])) (eq-eqb r.pairs 0 e)

-- A row that has a pair is between the earlier rows and the later ones.
set_some : (q : ℕ) (row : QuarterRow) (rs : List QuarterRow) → row.quarter ≡ q → 0 < row.pairs → set_row row rs ≡ earlier q rs ++ row ∷ later q rs
set_some q row rs is some = ap (λ any. earlier row.quarter rs ++ (any ++ later row.quarter rs)) (some_row row some) ∙ ap (λ n. earlier n rs ++ row ∷ later n rs) is

-- A row written over that of its period.
pub row_written : (q : ℕ) (row : QuarterRow) (rs : List QuarterRow) (at : ℕ) → StandsAt q rs at → row.quarter ≡ q → 0 < row.pairs → set rs at row ≡ set_row row rs
row_written q row rs at s is some = set_split rs at row s.within ∙ ap (λ l. l ++ row ∷ drop (suc at) rs) s.front ∙ ap (λ l. earlier q rs ++ row ∷ l) s.back ∙ sym (set_some q row rs is some)

-- A row put in where its period had none.
pub row_inserted : (q : ℕ) (row : QuarterRow) (rs : List QuarterRow) (at : ℕ) → BelongsAt q rs at → row.quarter ≡ q → 0 < row.pairs → insert rs at row ≡ set_row row rs
row_inserted q row rs at b is some = ap (λ l. l ++ row ∷ drop at rs) b.front ∙ ap (λ l. earlier q rs ++ row ∷ l) b.back ∙ sym (set_some q row rs is some)

-- A row taken out.
pub row_removed : (q : ℕ) (row : QuarterRow) (rs : List QuarterRow) (at : ℕ) → StandsAt q rs at → row.quarter ≡ q → row.pairs ≡ 0 → remove rs at ≡ set_row row rs
row_removed q row rs at s is none =
    ap (λ l. l ++ drop (suc at) rs) s.front ∙ ap (λ l. earlier q rs ++ l) s.back
    ∙ sym (ap (λ any. earlier row.quarter rs ++ (any ++ later row.quarter rs)) (none_row row none) ∙ ap (λ n. earlier n rs ++ later n rs) is)

-- Rows after a period, without some of them.
after_filter : (p : QuarterRow → Bool) (q : ℕ) (rs : List QuarterRow) → AreAfter q rs → AreAfter q (filter p rs)
after_filter p q [] after = tt
after_filter p q (r ∷ rs) after = elim (p r) as (λ b. AreAfter q (cond b (r ∷ filter p rs) (filter p rs))) [ true ↦ (after.0, after_filter p q rs after.1) | false ↦ after_filter p q rs after.1 ]

-- Rows in order, without some of them.
order_filter : (p : QuarterRow → Bool) (rs : List QuarterRow) → AreInOrder rs → AreInOrder (filter p rs)
order_filter p [] order = tt
order_filter p (r ∷ rs) order = cond_both (p r) _ _ AreInOrder (λ is. (after_filter p r.quarter rs order.0, order_filter p rs order.1)) (λ out. order_filter p rs order.1)

-- Rows that have pairs, without some of them.
pairs_filter : (p : QuarterRow → Bool) (rs : List QuarterRow) → HavePairs rs → HavePairs (filter p rs)
pairs_filter p [] pairs = tt
pairs_filter p (r ∷ rs) pairs = elim (p r) as (λ b. HavePairs (cond b (r ∷ filter p rs) (filter p rs))) [ true ↦ (pairs.0, pairs_filter p rs pairs.1) | false ↦ pairs_filter p rs pairs.1 ]

-- Two lists of rows that have pairs.
pub pairs_both : (xs ys : List QuarterRow) → HavePairs xs → HavePairs ys → HavePairs (xs ++ ys)
pairs_both [] ys a b = b
pairs_both (x ∷ xs) ys a b = (a.0, pairs_both xs ys a.1 b)

-- Each row is of an earlier period.
abbrev pub AreBefore : ℕ → List QuarterRow → Type 0
AreBefore q [] = Unit {0}
AreBefore q (r ∷ rs) = (r.quarter < q) × AreBefore q rs

-- Each row is of the period or a later one.
abbrev pub AreFrom : ℕ → List QuarterRow → Type 0
AreFrom q [] = Unit {0}
AreFrom q (r ∷ rs) = (q ≤ r.quarter) × AreFrom q rs

-- The rows of earlier periods are that.
pub earlier_before : (q : ℕ) (rs : List QuarterRow) → AreBefore q (earlier q rs)
earlier_before q [] = tt
earlier_before q (r ∷ rs) = cond_both (nat_lt r.quarter q) _ _ (AreBefore q) (λ is. (ltb-true r.quarter q is, earlier_before q rs)) (λ past. earlier_before q rs)

-- The rows of later periods are that.
pub later_after : (q : ℕ) (rs : List QuarterRow) → AreAfter q (later q rs)
later_after q [] = tt
later_after q (r ∷ rs) = cond_both (nat_lt q r.quarter) _ _ (AreAfter q) (λ is. (ltb-true q r.quarter is, later_after q rs)) (λ past. later_after q rs)

-- Rows after a period are from it on.
pub after_from : (q : ℕ) (rs : List QuarterRow) → AreAfter q rs → AreFrom q rs
after_from q [] after = tt
after_from q (r ∷ rs) after = (omega (arith, after.0), after_from q rs after.1)

-- Rows from a period on are after an earlier one.
from_after : (m n : ℕ) (rs : List QuarterRow) → m < n → AreFrom n rs → AreAfter m rs
from_after m n [] lt from = tt
from_after m n (r ∷ rs) lt from = (omega (arith, from.0), from_after m n rs lt from.1)

-- Rows after a period, in two lists.
after_both : (q : ℕ) (xs ys : List QuarterRow) → AreAfter q xs → AreAfter q ys → AreAfter q (xs ++ ys)
after_both q [] ys a b = b
after_both q (x ∷ xs) ys a b = (a.0, after_both q xs ys a.1 b)

-- Rows in order before a period, and rows in order from it on, are in order together.
order_both : (q : ℕ) (xs ys : List QuarterRow) → AreInOrder xs → AreInOrder ys → AreBefore q xs → AreFrom q ys → AreInOrder (xs ++ ys)
order_both q [] ys a b before from = b
order_both q (x ∷ xs) ys a b before from = (after_both x.quarter xs ys a.0 (from_after x.quarter q ys before.0 from), order_both q xs ys a.1 b before.1 from)

-- What is so of the rows of one period, by whether it has a pair.
pub any_cases : (P : List QuarterRow → Type 0) (r : QuarterRow) → (0 < r.pairs → P (r ∷ [])) → (r.pairs ≡ 0 → P []) → P (if_any r)
any_cases P r some none = cond_both (eqb r.pairs 0) _ _ P (λ is. none (eqb-true r.pairs 0 is)) (λ apart. some (omega (arith, eqb-false r.pairs 0 apart)))

-- A row by itself and the later rows are in order, and have pairs where each has.
any_later : (row : QuarterRow) (rs : List QuarterRow) → AreInOrder rs → AreInOrder (if_any row ++ later row.quarter rs) × AreFrom row.quarter (if_any row ++ later row.quarter rs)
any_later row rs order =
    let rest = order_filter (λ r. nat_lt row.quarter r.quarter) rs order in let after = later_after row.quarter rs in let from = after_from row.quarter (later row.quarter rs) after in
    any_cases (λ any. AreInOrder (any ++ later row.quarter rs) × AreFrom row.quarter (any ++ later row.quarter rs)) row (λ some. ((after, rest), (omega arith, from))) (λ none. (rest, from))

-- Rows stay in order where one is replaced or left out.
pub order_set : (row : QuarterRow) (rs : List QuarterRow) → AreInOrder rs → AreInOrder (set_row row rs)
order_set row rs order =
    let tail = any_later row rs order in
    order_both row.quarter (earlier row.quarter rs) (if_any row ++ later row.quarter rs) (order_filter (λ r. nat_lt r.quarter row.quarter) rs order) tail.0 (earlier_before row.quarter rs) tail.1

-- Each row has a pair where one is replaced or left out.
pub pairs_set : (row : QuarterRow) (rs : List QuarterRow) → HavePairs rs → HavePairs (set_row row rs)
pairs_set row rs pairs =
    let rest = pairs_filter (λ r. nat_lt row.quarter r.quarter) rs pairs in
    pairs_both (earlier row.quarter rs) (if_any row ++ later row.quarter rs) (pairs_filter (λ r. nat_lt r.quarter row.quarter) rs pairs)
    (any_cases (λ any. HavePairs (any ++ later row.quarter rs)) row (λ some. (some, rest)) (λ none. rest))
