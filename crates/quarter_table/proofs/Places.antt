-- Where the row of a period is among rows in order, or belongs.
use Rattle.std.{proofs.Common.{◌≡◌, ◌≢◌, ℕ, zero, suc, ◌<◌, List, [], ◌∷◌, length, get_or, Some, refl, sym, ap, ◌∙◌, subst, arith, inl, inr}, proofs.lemmas.Bool.cases_lt}
use Rattle.quarter_table.{specs.declared.row.QuarterRow.QuarterRow, specs.Rows.{earlier, AreAfter, AreInOrder}, specs.Kept.{StandsAt, BelongsAt}, proofs.Orders.{earlier_on, later_past, row_here, row_other, after_at, after_less, after_later, after_missing, none_earlier}}

-- Behind the rows of earlier periods is the row of the period, if there is one.
pub stands : (q : ℕ) (rs : List QuarterRow) (d : QuarterRow) → AreInOrder rs → length (earlier q rs) < length rs
    → (get_or rs (length (earlier q rs)) d).quarter ≡ q → StandsAt q rs (length (earlier q rs))
stands q [] d order lt is = absurd (omega arith)
stands q (r ∷ rs) d order lt is = elim (cases_lt r.quarter q) [
  | inl small ↦
      let on = earlier_on q r rs small in
      let rest = stands q rs d order.1 (let l : length (earlier q (r ∷ rs)) ≡ suc (length (earlier q rs)) = ap length on in omega arith)
      (sym (ap (λ es. (get_or (r ∷ rs) (length es) d).quarter) on) ∙ is) in
      let other = row_other q r rs (λ e. absurd (omega arith)) in
      subst (λ es. StandsAt q (r ∷ rs) (length es)) (sym on) (record {
        row = rest.row ∙ ap Some (sym other);
        quarter_is = ap (λ x. x.quarter) other ∙ rest.quarter_is;
        within = omega (arith, rest.within);
        front = ap (λ es. r ∷ es) rest.front ∙ sym on;
        back = rest.back ∙ sym (later_past q r rs (omega arith));
      })
  | inr le ↦
      let none = none_earlier q r rs order le in
      let here : r.quarter ≡ q = sym (ap (λ es. (get_or (r ∷ rs) (length es) d).quarter) none) ∙ is in
      subst (λ es. StandsAt q (r ∷ rs) (length es)) (sym none) (record {
        row = ap Some (sym (row_here q r rs here));
        quarter_is = ap (λ x. x.quarter) (row_here q r rs here) ∙ here;
        within = omega arith;
        front = sym none;
        back = sym (later_past q r rs (omega arith) ∙ after_later q rs (after_less q r.quarter rs le order.0));
      })
]

-- Where none is there, none is anywhere.
pub belongs : (q : ℕ) (rs : List QuarterRow) (d : QuarterRow) → AreInOrder rs
    → (length (earlier q rs) < length rs → (get_or rs (length (earlier q rs)) d).quarter ≢ q) → BelongsAt q rs (length (earlier q rs))
belongs q [] d order not = record { absent = refl; within = omega arith; front = refl; back = refl }
belongs q (r ∷ rs) d order not = elim (cases_lt r.quarter q) [
  | inl small ↦
      let on = earlier_on q r rs small in
      let rest = belongs q rs d order.1
      (λ lt is. not (let l : length (earlier q (r ∷ rs)) ≡ suc (length (earlier q rs)) = ap length on in omega arith) (ap (λ es. (get_or (r ∷ rs) (length es) d).quarter) on ∙ is)) in
      subst (λ es. BelongsAt q (r ∷ rs) (length es)) (sym on) (record {
        absent = row_other q r rs (λ e. absurd (omega arith)) ∙ rest.absent;
        within = omega (arith, rest.within);
        front = ap (λ es. r ∷ es) rest.front ∙ sym on;
        back = rest.back ∙ sym (later_past q r rs (omega arith));
      })
  | inr le ↦
      let none = none_earlier q r rs order le in
      let apart : r.quarter ≢ q = λ is. not (let l : length (earlier q (r ∷ rs)) ≡ 0 = ap length none in omega arith) (ap (λ es. (get_or (r ∷ rs) (length es) d).quarter) none ∙ is) in
      let above : q < r.quarter = omega arith in
      let after : AreAfter q (r ∷ rs) = (above, after_less q r.quarter rs le order.0) in
      subst (λ es. BelongsAt q (r ∷ rs) (length es)) (sym none) (record {
        absent = after_missing q (r ∷ rs) after;
        within = omega arith;
        front = sym none;
        back = sym (after_later q (r ∷ rs) after);
      })
]

-- As many rows are earlier as are in front of the period's.
in_front : (q : ℕ) (rs : List QuarterRow) (at : ℕ) (d : QuarterRow) → AreInOrder rs → at < length rs → (get_or rs at d).quarter ≡ q → length (earlier q rs) ≡ at
in_front q [] at d order lt is = absurd (omega arith)
in_front q (r ∷ rs) zero d order lt is = ap length (none_earlier q r rs order (omega (arith, is)))
in_front q (r ∷ rs) (suc at) d order lt is =
    let within : at < length rs = omega arith in let small : r.quarter < q = omega (arith, is, after_at r.quarter rs at d order.0 within) in
    ap length (earlier_on q r rs small) ∙ ap suc (in_front q rs at d order.1 within is)

-- The period's row is where it is found.
pub stands_there : (q : ℕ) (rs : List QuarterRow) (at : ℕ) (d : QuarterRow) → AreInOrder rs → at < length rs → (get_or rs at d).quarter ≡ q → StandsAt q rs at
stands_there q rs at d order lt is =
    let e = in_front q rs at d order lt is in
    subst (StandsAt q rs) e (stands q rs d order (omega (arith, e, lt)) (ap (λ n. (get_or rs n d).quarter) e ∙ is))
