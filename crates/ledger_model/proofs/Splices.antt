-- The pairs of readings in a row, when some are put in between.
use Rattle.std.{proofs.Common.{◌≡◌, ℕ, ◌+◌, ◌-◌, ◌≤◌, List, [], ◌∷◌, ◌++◌, Option, Some, None, length, slice_get, refl, sym, ap, ◌∙◌, arith, append_assoc, length-append}, specs.List.{zip, sum_by}, proofs.lemmas.List.append-nil, proofs.lemmas.List.Sums.sum_by-append}
use Rattle.ledger_model.{specs.Event.MeterReading, specs.Energy.{Pair, followed}, specs.Deltas.{across, pairs_between, first_reading, last_reading}}

-- The last reading, or what came before if there is none.
abbrev last_after : Option MeterReading → List MeterReading → Option MeterReading
last_after before [] = before
last_after before (r ∷ rs) = last_after (Some r) rs

-- Nothing pairs with nothing behind it.
across_none : (before : Option MeterReading) → across before None ≡ []
across_none None = refl
across_none (Some r) = refl

-- Readings that follow one another are the pairs between nothing and nothing.
zip_between : (r : MeterReading) (rs : List MeterReading) → zip (r ∷ rs) rs ≡ pairs_between (Some r) rs None
zip_between r [] = refl
zip_between r (s ∷ rs) = ap (λ ps. (r, s) ∷ ps) (zip_between s rs)

followed_between : (rs : List MeterReading) → followed rs ≡ pairs_between None rs None
followed_between [] = refl
followed_between (r ∷ rs) = zip_between r rs

-- Readings in a row, cut behind the first part.
between_front : (before : Option MeterReading) (xs ys : List MeterReading) (after : Option MeterReading)
    → pairs_between before (xs ++ ys) after ≡ pairs_between before xs None ++ pairs_between (last_after before xs) ys after
between_front before [] ys after = ap (λ ps. ps ++ pairs_between before ys after) (sym (across_none before))
between_front before (x ∷ xs) ys after =
    ap (λ ps. across before (Some x) ++ ps) (between_front (Some x) xs ys after)
    ∙ sym (append_assoc (across before (Some x)) (pairs_between (Some x) xs None) (pairs_between (last_after (Some x) xs) ys after))

-- A reading or none, with those behind.
between_first : (before : Option MeterReading) (ys : List MeterReading) → pairs_between before ys None ≡ across before (first_reading ys) ++ pairs_between None ys None
between_first before [] = sym (append-nil (across before None))
between_first before (y ∷ ys) = refl

-- Readings in a row, cut in front of the last part.
between_back : (before : Option MeterReading) (xs ys : List MeterReading) → pairs_between before (xs ++ ys) None ≡ pairs_between before xs (first_reading ys) ++ pairs_between None ys None
between_back before [] ys = between_first before ys
between_back before (x ∷ xs) ys =
    ap (λ ps. across before (Some x) ++ ps) (between_back (Some x) xs ys) ∙ sym (append_assoc (across before (Some x)) (pairs_between (Some x) xs (first_reading ys)) (pairs_between None ys None))

last_behind : (x : MeterReading) (xs : List MeterReading) → last_after (Some x) xs ≡ slice_get (x ∷ xs) (length xs)
last_behind x [] = refl
last_behind x (y ∷ ys) = last_behind y ys

-- The last reading is that after none.
pub last_is : (xs : List MeterReading) → last_after None xs ≡ last_reading xs
last_is [] = refl
last_is (x ∷ xs) = last_behind x xs ∙ ap (slice_get (x ∷ xs)) (let e : length xs ≡ length (x ∷ xs) - 1 = omega arith in e)

-- The pairs of readings in a row: those of the front, those of the middle with the readings on either side, and those
-- of the back.
pub followed_cut : (front mid back : List MeterReading) → followed (front ++ (mid ++ back)) ≡ followed front ++ (pairs_between (last_reading front) mid (first_reading back) ++ followed back)
followed_cut front mid back =
    followed_between (front ++ (mid ++ back))
    ∙ between_front None front (mid ++ back) None
    ∙ ap (λ ps. ps ++ pairs_between (last_after None front) (mid ++ back) None) (sym (followed_between front))
    ∙ ap (λ ps. followed front ++ ps) (between_back (last_after None front) mid back)
    ∙ ap (λ ps. followed front ++ (pairs_between (last_after None front) mid (first_reading back) ++ ps)) (sym (followed_between back))
    ∙ ap (λ last. followed front ++ (pairs_between last mid (first_reading back) ++ followed back)) (last_is front)

-- Sums over the pairs of readings, when some are put in between: what the pair across added goes, and what the pairs
-- between add comes.
pub followed_sums : (f : Pair → ℕ) (front mid back : List MeterReading)
    → sum_by f (followed (front ++ (mid ++ back))) + sum_by f (across (last_reading front) (first_reading back))
    ≡ sum_by f (followed (front ++ back)) + sum_by f (pairs_between (last_reading front) mid (first_reading back))
followed_sums f front mid back =
    let a = across (last_reading front) (first_reading back) in let m = pairs_between (last_reading front) mid (first_reading back) in
    let with_mid = ap (sum_by f) (followed_cut front mid back) ∙ sum_by-append f (followed front) (m ++ followed back) ∙ ap (λ n. sum_by f (followed front) + n) (sum_by-append f m (followed back)) in
    let without = ap (sum_by f) (followed_cut front [] back) ∙ sum_by-append f (followed front) (a ++ followed back) ∙ ap (λ n. sum_by f (followed front) + n) (sum_by-append f a (followed back)) in
    omega (arith, with_mid, without)

-- Two readings make one pair at most.
pub few_across : (before after : Option MeterReading) → length (across before after) ≤ 1
few_across None after = omega arith
few_across (Some a) None = omega arith
few_across (Some a) (Some b) = omega arith

-- Readings in a row make one pair more at most than there are readings.
pub few_between : (before : Option MeterReading) (rs : List MeterReading) (after : Option MeterReading) → length (pairs_between before rs after) ≤ length rs + 1
few_between before [] after = let few = few_across before after in omega (arith, few)
few_between before (r ∷ rs) after = omega (arith, few_across before (Some r), few_between (Some r) rs after, length-append (across before (Some r)) (pairs_between (Some r) rs after))
