-- The gaps of rising numbers are the maximal ranges of what is missing.
use Rattle.std.{proofs.Common.{◌≡◌, ℕ, ◌<◌, ◌≤◌, ◌+◌, ◌-◌, List, [], ◌∷◌, length, refl, sym, ⊎_elim, inl, inr, arith}, specs.Prelude.{sum_by, nat_lt, Some, None}, specs.List.cons_option, proofs.lemmas.Bool.{cases_lt, cond_both, ltb-true, ltb-false}, proofs.lemmas.List.Sums.sum_by-cons}
use Rattle.ledger_model.{specs.Gaps.{Gap, gaps, gap_size, missing}, specs.Evse.first_or_zero, specs.Board.last_or_zero, specs.BoardLaws.{AreRising, IsIn, IsMissing, IsInSome, AreApart, AreGaps}}

-- what is so of the gaps with one number more in front, which may leave a gap
gaps_cases : (P : List Gap → Type 0) (n m : ℕ) (ns : List ℕ) → (n + 1 < m → P ((n + 1, m - 1) ∷ gaps (m ∷ ns))) → (m ≤ n + 1 → P (gaps (m ∷ ns))) → P (gaps (n ∷ m ∷ ns))
gaps_cases P n m ns far near =
    cond_both (nat_lt (n + 1) m) (Some (n + 1, m - 1)) None (λ o. P (cons_option o (gaps (m ∷ ns)))) (λ lt. far (ltb-true (n + 1) m lt)) (λ ge. near (ltb-false (n + 1) m ge))

-- no rising number is below the first
first_is_lowest : (n : ℕ) (ns : List ℕ) → AreRising (n ∷ ns) → (k : ℕ) → IsIn k (n ∷ ns) → n ≤ k
first_is_lowest n [] up k (inl e) = omega arith
first_is_lowest n [] up k (inr h) = absurd h
first_is_lowest n (m ∷ ns) up k (inl e) = omega arith
first_is_lowest n (m ∷ ns) up k (inr h) =
    let low : m ≤ k = first_is_lowest m ns up.1 k h in omega arith

-- what is missing of the rest is missing of all
missing_more : (n m : ℕ) (ns : List ℕ) → AreRising (n ∷ m ∷ ns) → (k : ℕ) → IsMissing (m ∷ ns) k → IsMissing (n ∷ m ∷ ns) k
missing_more n m ns up k h =
    let low : m ≤ h.lower.0 = first_is_lowest m ns up.1 h.lower.0 h.lower.1.0 in
    record {
      absent = λ here. ⊎_elim (λ (e : k ≡ n). let a : h.lower.0 < k = h.lower.1.1 in let b : n < m = up.0 in absurd (omega arith)) (λ (there : IsIn k (m ∷ ns)). h.absent there) here;
      lower = (h.lower.0, (inr h.lower.1.0, h.lower.1.1));
      higher = (h.higher.0, (inr h.higher.1.0, h.higher.1.1));
    }

-- what is missing above the second is missing of the rest
missing_rest : (n m : ℕ) (ns : List ℕ) → AreRising (n ∷ m ∷ ns) → (k : ℕ) → m < k → IsMissing (n ∷ m ∷ ns) k → IsMissing (m ∷ ns) k
missing_rest n m ns up k above h = record {
  absent = λ there. h.absent (inr there);
  lower = (m, (inl refl, above));
  higher = ⊎_elim {C = (high : ℕ) × (IsIn high (m ∷ ns) × (k < high))}
      (λ (e : h.higher.0 ≡ n). let a : k < h.higher.0 = h.higher.1.1 in let b : n < m = up.0 in absurd (omega arith))
      (λ (there : IsIn h.higher.0 (m ∷ ns)). (h.higher.0, (there, h.higher.1.1))) h.higher.1.0;
}

-- what is missing is above the first number
missing_above : (n : ℕ) (ns : List ℕ) → AreRising (n ∷ ns) → (k : ℕ) → IsMissing (n ∷ ns) k → n < k
missing_above n ns up k h =
    let low : n ≤ h.lower.0 = first_is_lowest n ns up h.lower.0 h.lower.1.0 in
    let a : h.lower.0 < k = h.lower.1.1 in omega arith

-- between two numbers that follow one another in the list all is missing
missing_between : (n m : ℕ) (ns : List ℕ) → AreRising (n ∷ m ∷ ns) → (k : ℕ) → n < k → k < m → IsMissing (n ∷ m ∷ ns) k
missing_between n m ns up k above below = record {
  absent = λ here. ⊎_elim (λ (e : k ≡ n). absurd (omega arith))
      (λ (there : IsIn k (m ∷ ns)). let low : m ≤ k = first_is_lowest m ns up.1 k there in absurd (omega arith)) here;
  lower = (n, (inl refl, above));
  higher = (m, (inr (inl refl), below));
}

covers-all : (ns : List ℕ) → AreRising ns → (k : ℕ) → IsMissing ns k → IsInSome k (gaps ns)
covers-all [] up k h = h.lower.1.0
covers-all (n ∷ []) up k h =
    let above : n < k = missing_above n [] up k h in
    ⊎_elim (λ (e : h.higher.0 ≡ n). let a : k < h.higher.0 = h.higher.1.1 in absurd (omega arith)) (λ (none : ⊥). none) h.higher.1.0
covers-all (n ∷ m ∷ ns) up k h =
    let above : n < k = missing_above n (m ∷ ns) up k h in
    let apart : k ≡ m → ⊥ = λ e. h.absent (inr (inl e)) in
    gaps_cases (IsInSome k) n m ns
    (λ far. elim (cases_lt m k) [ inl beyond ↦ inr (covers-all (m ∷ ns) up.1 k (missing_rest n m ns up k beyond h)) | inr below ↦ inl (omega arith, omega arith) ])
    (λ near. covers-all (m ∷ ns) up.1 k (missing_rest n m ns up k (omega arith) h))

within-all : (ns : List ℕ) → AreRising ns → (k : ℕ) → IsInSome k (gaps ns) → IsMissing ns k
within-all [] up k h = absurd h
within-all (n ∷ []) up k h = absurd h
within-all (n ∷ m ∷ ns) up k h = gaps_cases (λ gs. IsInSome k gs → IsMissing (n ∷ m ∷ ns) k) n m ns
    (λ far in_some. elim in_some [
      | inl here ↦ let a : n + 1 ≤ k = here.0 in let b : k ≤ m - 1 = here.1 in missing_between n m ns up k (omega arith) (omega arith)
      | inr there ↦ missing_more n m ns up k (within-all (m ∷ ns) up.1 k there)
    ])
    (λ near there. missing_more n m ns up k (within-all (m ∷ ns) up.1 k there)) h

-- gaps that are apart and begin above a number, with a gap below it in front
AreApart-more : (a b : ℕ) (gs : List Gap) → a ≤ b → ((k : ℕ) → IsInSome k gs → b + 1 < k) → AreApart gs → AreApart ((a, b) ∷ gs)
AreApart-more a b [] up above h = up
AreApart-more a b (g ∷ []) up above h = (up, (above g.0 (inl (omega arith, h)), h))
AreApart-more a b (g ∷ g' ∷ gs) up above h = (up, (above g.0 (inl (omega arith, h.0)), h))

apart-all : (ns : List ℕ) → AreRising ns → AreApart (gaps ns)
apart-all [] up = tt
apart-all (n ∷ []) up = tt
apart-all (n ∷ m ∷ ns) up =
    let rest = apart-all (m ∷ ns) up.1 in
    gaps_cases AreApart n m ns
    (λ far. AreApart-more (n + 1) (m - 1) (gaps (m ∷ ns)) (omega arith) (λ k there. let above : m < k = missing_above m ns up.1 k (within-all (m ∷ ns) up.1 k there) in omega arith) rest)
    (λ near. rest)

pub gaps-AreGaps : (ns : List ℕ) → AreRising ns → AreGaps ns (gaps ns)
gaps-AreGaps ns up = record { covers = covers-all ns up; within = within-all ns up; apart = apart-all ns up }

-- what is in gaps that are apart is not below the first
in_some_above : (g : Gap) (gs : List Gap) → AreApart (g ∷ gs) → (k : ℕ) → IsInSome k (g ∷ gs) → g.0 ≤ k
in_some_above g [] up k (inl h) = h.0
in_some_above g [] up k (inr h) = absurd h
in_some_above g (g' ∷ gs) up k (inl h) = h.0
in_some_above g (g' ∷ gs) up k (inr h) =
    let later : g'.0 ≤ k = in_some_above g' gs up.1.1 k h in
    let a : g.0 ≤ g.1 = up.0 in let b : g.1 + 1 < g'.0 = up.1.0 in omega arith

-- what is in the later ones is at least two above the first
in_later_above : (g : Gap) (gs : List Gap) → AreApart (g ∷ gs) → (k : ℕ) → IsInSome k gs → g.1 + 1 < k
in_later_above g [] up k h = absurd h
in_later_above g (g' ∷ gs) up k h =
    let later : g'.0 ≤ k = in_some_above g' gs up.1.1 k h in
    let b : g.1 + 1 < g'.0 = up.1.0 in omega arith

not_empty : (g : Gap) (gs : List Gap) → AreApart (g ∷ gs) → g.0 ≤ g.1
not_empty g [] up = up
not_empty g (g' ∷ gs) up = up.0

later_apart : (g : Gap) (gs : List Gap) → AreApart (g ∷ gs) → AreApart gs
later_apart g [] up = tt
later_apart g (g' ∷ gs) up = up.1.1

-- of two lists of gaps that have the same numbers, the first ones end no differently
ends_within : (g : Gap) (gs : List Gap) (h : Gap) (hs : List Gap) → AreApart (g ∷ gs) → AreApart (h ∷ hs) → g.0 ≡ h.0
    → ((k : ℕ) → IsInSome k (h ∷ hs) → IsInSome k (g ∷ gs)) → h.1 ≤ g.1
ends_within g gs h hs up up' same within = ⊎_elim
    (λ (more : g.1 < h.1).
    let a : g.0 ≤ g.1 = not_empty g gs up in
    ⊎_elim (λ (here : (g.0 ≤ g.1 + 1) × (g.1 + 1 ≤ g.1)). let b : g.1 + 1 ≤ g.1 = here.1 in absurd (omega arith))
    (λ (there : IsInSome (g.1 + 1) gs). let b : g.1 + 1 < g.1 + 1 = in_later_above g gs up (g.1 + 1) there in absurd (omega arith))
    (within (g.1 + 1) (inl (omega arith, omega arith))))
    (λ (enough : h.1 ≤ g.1). enough)
    (cases_lt g.1 h.1)

later_within : (g : Gap) (gs : List Gap) (h : Gap) (hs : List Gap) → AreApart (g ∷ gs) → g.1 ≡ h.1
    → ((k : ℕ) → IsInSome k (g ∷ gs) → IsInSome k (h ∷ hs)) → (k : ℕ) → IsInSome k gs → IsInSome k hs
later_within g gs h hs up ends within k there = ⊎_elim
    (λ (here : (h.0 ≤ k) × (k ≤ h.1)). let a : k ≤ h.1 = here.1 in let b : g.1 + 1 < k = in_later_above g gs up k there in absurd (omega arith))
    (λ (later : IsInSome k hs). later)
    (within k (inr there))

same_gaps : (gs hs : List Gap) → AreApart gs → AreApart hs → ((k : ℕ) → IsInSome k gs → IsInSome k hs) → ((k : ℕ) → IsInSome k hs → IsInSome k gs) → gs ≡ hs
same_gaps [] [] up up' to from = refl
same_gaps [] (h ∷ hs) up up' to from = absurd (from h.0 (inl (omega arith, not_empty h hs up')))
same_gaps (g ∷ gs) [] up up' to from = absurd (to g.0 (inl (omega arith, not_empty g gs up)))
same_gaps (g ∷ gs) (h ∷ hs) up up' to from =
    let low : h.0 ≤ g.0 = in_some_above h hs up' g.0 (to g.0 (inl (omega arith, not_empty g gs up))) in
    let low' : g.0 ≤ h.0 = in_some_above g gs up h.0 (from h.0 (inl (omega arith, not_empty h hs up'))) in
    let begins : g.0 ≡ h.0 = omega arith in
    let high : h.1 ≤ g.1 = ends_within g gs h hs up up' begins from in
    let high' : g.1 ≤ h.1 = ends_within h hs g gs up' up (sym begins) to in
    let ends : g.1 ≡ h.1 = omega arith in
    let rest : gs ≡ hs = same_gaps gs hs (later_apart g gs up) (later_apart h hs up') (later_within g gs h hs up ends to) (later_within h hs g gs up' (sym ends) from) in
    λ i. (begins i, ends i) ∷ rest i

-- no other list of gaps is that of the missing numbers
pub gaps-only : (ns : List ℕ) (gs : List Gap) → AreRising ns → AreGaps ns gs → gs ≡ gaps ns
gaps-only ns gs up a = same_gaps gs (gaps ns) a.apart (apart-all ns up) (λ k h. covers-all ns up k (a.within k h)) (λ k h. a.covers k (within-all ns up k h))

-- the numbers and what is missing between them make up the range from the first to the last
fills : (n : ℕ) (ns : List ℕ) → AreRising (n ∷ ns) → first_or_zero (n ∷ ns) + length (n ∷ ns) + missing (n ∷ ns) ≡ last_or_zero (n ∷ ns) + 1
fills n [] up = omega arith
fills n (m ∷ ns) up =
    let rest : m + length (m ∷ ns) + missing (m ∷ ns) ≡ last_or_zero (m ∷ ns) + 1 = fills m ns up.1 in
    let rise : n < m = up.0 in
    gaps_cases (λ gs. n + length (n ∷ m ∷ ns) + sum_by gap_size gs ≡ last_or_zero (m ∷ ns) + 1) n m ns
    (λ far. omega (arith, rest, sum_by-cons gap_size (n + 1, m - 1) (gaps (m ∷ ns))))
    (λ near. omega (arith, rest))

pub missing-fills : (ns : List ℕ) → AreRising ns → 0 < length ns → first_or_zero ns + length ns + missing ns ≡ last_or_zero ns + 1
missing-fills [] up some = absurd (omega arith)
missing-fills (n ∷ ns) up some = fills n ns up
