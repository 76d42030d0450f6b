-- One step of a walk: what it does to the gaps, and to the count of what is missing.
use Rattle.std.{proofs.Common.{◌≡◌, ℕ, ◌<◌, ◌≤◌, ◌+◌, ◌-◌, List, [], ◌∷◌, length, refl, ap, sym, ◌∙◌, subst, ⊎_elim, arith, drop}, specs.Prelude.{sum_by, slice_index}, proofs.lemmas.Bool.{cases_lt, lt-ltb, le-ltb}, proofs.lemmas.List.Sums.sum_by-cons}
use Rattle.ledger_model.{specs.BoardLaws.AreRising, specs.Gaps.{gaps, gap_size, missing}}

-- a gap is between the first number and the next
pub gaps_far : (xs ys : List ℕ) → 0 < length xs → 0 < length ys → ys ≡ drop 1 xs → slice_index xs 0 + 1 < slice_index ys 0
    → gaps xs ≡ (slice_index xs 0 + 1, slice_index ys 0 - 1) ∷ gaps ys
gaps_far [] ys some more e far = absurd (omega arith)
gaps_far (n ∷ []) ys some more e far = let none : length ys ≡ 0 = ap length e in absurd (omega arith)
gaps_far (n ∷ m ∷ ns) ys some more e far =
    let P : List ℕ → Type 0 = λ zs. n + 1 < slice_index zs 0 → gaps (n ∷ m ∷ ns) ≡ (n + 1, slice_index zs 0 - 1) ∷ gaps zs in
    subst P (sym e) (λ h. rw (lt-ltb (n + 1) m h)) far

-- the first number and the next follow one another, or the next is not above
pub gaps_near : (xs ys : List ℕ) → 0 < length xs → 0 < length ys → ys ≡ drop 1 xs → slice_index ys 0 ≤ slice_index xs 0 + 1
    → gaps xs ≡ gaps ys
gaps_near [] ys some more e near = absurd (omega arith)
gaps_near (n ∷ []) ys some more e near = let none : length ys ≡ 0 = ap length e in absurd (omega arith)
gaps_near (n ∷ m ∷ ns) ys some more e near =
    let P : List ℕ → Type 0 = λ zs. slice_index zs 0 ≤ n + 1 → gaps (n ∷ m ∷ ns) ≡ gaps zs in
    subst P (sym e) (λ h. rw (le-ltb (n + 1) m h)) near

-- nothing is missing after the last number
pub gaps_last : (xs : List ℕ) → drop 1 xs ≡ [] → gaps xs ≡ []
gaps_last [] e = refl
gaps_last (n ∷ []) e = refl
gaps_last (n ∷ m ∷ ns) e = let none : length (m ∷ ns) ≡ 0 = ap length e in absurd (omega arith)

-- rising numbers rise from the second on, which is above the first
pub rising_on : (xs ys : List ℕ) → 0 < length xs → 0 < length ys → ys ≡ drop 1 xs → AreRising xs → AreRising ys × (slice_index xs 0 < slice_index ys 0)
rising_on [] ys some more e up = absurd (omega arith)
rising_on (n ∷ []) ys some more e up = let none : length ys ≡ 0 = ap length e in absurd (omega arith)
rising_on (n ∷ m ∷ ns) ys some more e up =
    let P : List ℕ → Type 0 = λ zs. AreRising zs × (n < slice_index zs 0) in subst P (sym e) (up.1, up.0)

-- what is missing from the first number on is what is missing before the next one, and after it
pub missing_on : (xs ys : List ℕ) → 0 < length xs → 0 < length ys → ys ≡ drop 1 xs → slice_index xs 0 < slice_index ys 0
    → missing xs ≡ (slice_index ys 0 - slice_index xs 0 - 1) + missing ys
missing_on xs ys some more e rise = ⊎_elim
    (λ (far : slice_index xs 0 + 1 < slice_index ys 0).
    let same : missing xs ≡ (slice_index ys 0 - 1 + 1 - (slice_index xs 0 + 1)) + missing ys =
    ap (sum_by gap_size) (gaps_far xs ys some more e far) ∙ sum_by-cons gap_size (slice_index xs 0 + 1, slice_index ys 0 - 1) (gaps ys) in
    omega (arith, same))
    (λ (near : slice_index ys 0 ≤ slice_index xs 0 + 1).
    let same : missing xs ≡ missing ys = ap (sum_by gap_size) (gaps_near xs ys some more e near) in
    omega (arith, same))
    (cases_lt (slice_index xs 0 + 1) (slice_index ys 0))
