-- Rows in order, cut at a period.
use Rattle.std.{proofs.Common.{nat_lt, ◌≡◌, ◌≢◌, ℕ, zero, suc, ◌<◌, ◌≤◌, cond, List, [], ◌∷◌, length, get_or, refl, ap, ◌∙◌, arith, inl, inr}, proofs.lemmas.Bool.{eq-eqb, ne_eqb, lt-ltb, le-ltb, cases_lt}, proofs.lemmas.List.Sums.{count_by-le-length, length-filter}}
use Rattle.quarter_table.{specs.declared.row.QuarterRow.QuarterRow, specs.Rows.{no_row, row_at, earlier, later, AreAfter, AreInOrder}}

-- A row of an earlier period is among the earlier ones.
pub earlier_on : (q : ℕ) (r : QuarterRow) (rs : List QuarterRow) → r.quarter < q → earlier q (r ∷ rs) ≡ r ∷ earlier q rs
earlier_on q r rs lt = ap (λ b. cond b (r ∷ earlier q rs) (earlier q rs)) (lt-ltb r.quarter q lt)

-- One of the period or a later one is not.
pub earlier_past : (q : ℕ) (r : QuarterRow) (rs : List QuarterRow) → q ≤ r.quarter → earlier q (r ∷ rs) ≡ earlier q rs
earlier_past q r rs le = ap (λ b. cond b (r ∷ earlier q rs) (earlier q rs)) (le-ltb r.quarter q le)

-- A row of a later period is among the later ones.
pub later_on : (q : ℕ) (r : QuarterRow) (rs : List QuarterRow) → q < r.quarter → later q (r ∷ rs) ≡ r ∷ later q rs
later_on q r rs lt = ap (λ b. cond b (r ∷ later q rs) (later q rs)) (lt-ltb q r.quarter lt)

-- One of the period or an earlier one is not.
pub later_past : (q : ℕ) (r : QuarterRow) (rs : List QuarterRow) → r.quarter ≤ q → later q (r ∷ rs) ≡ later q rs
later_past q r rs le = ap (λ b. cond b (r ∷ later q rs) (later q rs)) (le-ltb q r.quarter le)

-- The row of a period, where the first one is that.
pub row_here : (q : ℕ) (r : QuarterRow) (rs : List QuarterRow) → r.quarter ≡ q → row_at q (r ∷ rs) ≡ r
row_here q r rs e = ap (λ b. cond b r (row_at q rs)) (eq-eqb r.quarter q e)

-- The row of a period, where the first one is another.
pub row_other : (q : ℕ) (r : QuarterRow) (rs : List QuarterRow) → r.quarter ≢ q → row_at q (r ∷ rs) ≡ row_at q rs
row_other q r rs ne = ap (λ b. cond b r (row_at q rs)) (ne_eqb r.quarter q ne)

-- Rows after a period are after an earlier one.
pub after_less : (m n : ℕ) (rs : List QuarterRow) → m ≤ n → AreAfter n rs → AreAfter m rs
after_less m n [] le after = tt
after_less m n (r ∷ rs) le after = (omega (arith, after.0), after_less m n rs le after.1)

-- None of rows after a period is of an earlier one.
pub after_earlier : (q : ℕ) (rs : List QuarterRow) → AreAfter q rs → earlier q rs ≡ []
after_earlier q [] after = refl
after_earlier q (r ∷ rs) after = earlier_past q r rs (omega (arith, after.0)) ∙ after_earlier q rs after.1

-- All of them are of later ones.
pub after_later : (q : ℕ) (rs : List QuarterRow) → AreAfter q rs → later q rs ≡ rs
after_later q [] after = refl
after_later q (r ∷ rs) after = later_on q r rs after.0 ∙ ap (λ l. r ∷ l) (after_later q rs after.1)

-- None of them is the period's.
pub after_missing : (q : ℕ) (rs : List QuarterRow) → AreAfter q rs → row_at q rs ≡ no_row q
after_missing q [] after = refl
after_missing q (r ∷ rs) after = row_other q r rs (λ e. absurd (omega (arith, after.0))) ∙ after_missing q rs after.1

-- A row at a place is after the period.
pub after_at : (q : ℕ) (rs : List QuarterRow) (i : ℕ) (d : QuarterRow) → AreAfter q rs → i < length rs → q < (get_or rs i d).quarter
after_at q [] i d after lt = absurd (omega arith)
after_at q (r ∷ rs) zero d after lt = after.0
after_at q (r ∷ rs) (suc i) d after lt = after_at q rs i d after.1 (omega arith)

-- No more rows are earlier than there are.
pub place_within : (q : ℕ) (rs : List QuarterRow) → length (earlier q rs) ≤ length rs
place_within q rs = omega (arith, length-filter (λ (r : QuarterRow). nat_lt r.quarter q) rs, count_by-le-length (λ (r : QuarterRow). nat_lt r.quarter q) rs)

-- Where the first row is not earlier, none is.
pub none_earlier : (q : ℕ) (r : QuarterRow) (rs : List QuarterRow) → AreInOrder (r ∷ rs) → q ≤ r.quarter → earlier q (r ∷ rs) ≡ []
none_earlier q r rs order le = earlier_past q r rs le ∙ after_earlier q rs (after_less q r.quarter rs le order.0)

-- A place whose row is earlier is in front of the period's place.
pub place_more : (q : ℕ) (rs : List QuarterRow) (i : ℕ) (d : QuarterRow) → AreInOrder rs → i < length rs → (get_or rs i d).quarter < q → i < length (earlier q rs)
place_more q [] i d order lt small = absurd (omega arith)
place_more q (r ∷ rs) zero d order lt small = rw (earlier_on q r rs small) (omega arith)
place_more q (r ∷ rs) (suc i) d order lt small =
    let within : i < length rs = omega arith in let first : r.quarter < q = omega (arith, after_at r.quarter rs i d order.0 within, small) in
    rw (earlier_on q r rs first) (omega (arith, place_more q rs i d order.1 within small))

-- A place whose row is not earlier does not.
pub place_less : (q : ℕ) (rs : List QuarterRow) (i : ℕ) (d : QuarterRow) → AreInOrder rs → i < length rs → q ≤ (get_or rs i d).quarter → length (earlier q rs) ≤ i
place_less q [] i d order lt great = absurd (omega arith)
place_less q (r ∷ rs) zero d order lt great = rw (none_earlier q r rs order great) (omega arith)
place_less q (r ∷ rs) (suc i) d order lt great = elim (cases_lt r.quarter q) [
  | inl small ↦ rw (earlier_on q r rs small) (omega (arith, place_less q rs i d order.1 (omega arith) great))
  | inr le ↦ rw (none_earlier q r rs order le) (omega arith)
]
