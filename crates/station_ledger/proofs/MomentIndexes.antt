-- An index of readings, with some put in or taken out.
use Rattle.std.{proofs.Common.{◌≡◌, ℕ, ◌+◌, ◌<◌, ◌≤◌, true, false, not, eqb, List, [], ◌∷◌, length, refl, sym, ap, ◌∙◌, arith}, specs.List.AllByRecursion, proofs.lemmas.Bool.Decides.nat_tests}
use Rattle.ledger_model.specs.InTime.{put_in_time}
use Rattle.reading_index.{specs.Ranks.owner_of, specs.Timed.{Timed, has_rank, owned, without, AreAbove, AreRising}, proofs.Listed.filter-ranked}
use Rattle.station_ledger.{specs.ByMoment.{ArePuttable, put_each, take_each}, specs.Runs.own_timed, proofs.MomentLists.{AreApart, behind_apart, each_put_each, other_apart, none_has, put_each-put, without_put}, proofs.MomentRanks.{at, has_owned, length-without, owned-put, owned-put_else, owned-without, owned-without_else, put-ranked}}

-- Readings of one owner.
abbrev pub AreOf : ℕ → List Timed → Type 0
AreOf o ts = AllByRecursion (λ t. owner_of t.0 ≡ o) ts

-- None of these has its rank there.
abbrev AreNew : List Timed → List Timed → Type 0
AreNew xs ts = AllByRecursion (λ x. has_rank x.0 ts ≡ false) xs

has_put : (n : ℕ) (x : Timed) (ts : List Timed) → (x.0 ≡ n → ⊥) → has_rank n (put_in_time at x ts) ≡ has_rank n ts
has_put n x [] apart = grind (arith, nat_tests)
has_put n x (t ∷ ts) apart = grind (arith, nat_tests, has_put n x ts apart)

new-put : (x : Timed) (xs ts : List Timed) → AreAbove x.0 xs → AreNew xs ts → AreNew xs (put_in_time at x ts)
new-put x [] ts behind new = tt
new-put x (y ∷ ys) ts behind new = (has_put y.0 x ts (λ same. absurd (let lt : x.0 < y.0 = behind.0 in omega (arith, lt, same))) ∙ new.0, new-put x ys ts behind.1 new.1)

puttable : (xs ts : List Timed) → AreRising xs → AreNew xs ts → ArePuttable xs ts
puttable [] ts up new = tt
puttable (x ∷ xs) ts up new = (new.0, puttable xs (put_in_time at x ts) up.1 (new-put x xs ts up.0 new.1))

-- An event's readings may be put in where those of their owner are others.
pub own_puttable : (o seq : ℕ) (xs ts : List Timed) → AreRising xs → AreOf o xs → AllByRecursion (λ t. own_timed seq t ≡ true) xs
    → AllByRecursion (λ t. own_timed seq t ≡ false) (owned o ts) → ArePuttable xs ts
own_puttable o seq xs ts up mine own foreign = puttable xs ts up (new xs mine own)
  where
    new : (xs : List Timed) → AreOf o xs → AllByRecursion (λ t. own_timed seq t ≡ true) xs → AreNew xs ts
    new [] mine own = tt
    new (x ∷ xs) mine own = (
      sym (has_owned x.0 ts) ∙ ap (λ n. has_rank x.0 (owned n ts)) mine.0 ∙ none_has x.0 (owned o ts) (other_apart seq true x (owned o ts) own.0 foreign),
      new xs mine.1 own.1,
    )

pub ranked-put_each : (xs ts : List Timed) → ArePuttable xs ts → AreRising ts → AreRising (put_each xs ts)
ranked-put_each [] ts can up = up
ranked-put_each (x ∷ xs) ts can up = ranked-put_each xs (put_in_time at x ts) can.1 (put-ranked x ts up can.0)

pub owned-put_each : (o : ℕ) (xs ts : List Timed) → ArePuttable xs ts → AreRising ts → AreOf o xs → owned o (put_each xs ts) ≡ put_each xs (owned o ts)
owned-put_each o [] ts can up mine = refl
owned-put_each o (x ∷ xs) ts can up mine = owned-put_each o xs (put_in_time at x ts) can.1 (put-ranked x ts up can.0) mine.1 ∙ ap (put_each xs) (owned-put o x ts up mine.0)

pub owned-put_each_else : (o u : ℕ) (xs ts : List Timed) → (o ≡ u → ⊥) → ArePuttable xs ts → AreRising ts → AreOf o xs → owned u (put_each xs ts) ≡ owned u ts
owned-put_each_else o u [] ts apart can up mine = refl
owned-put_each_else o u (x ∷ xs) ts apart can up mine =
    owned-put_each_else o u xs (put_in_time at x ts) apart can.1 (put-ranked x ts up can.0) mine.1 ∙ owned-put_else u x ts up (λ same. apart (sym mine.0 ∙ same))

pub ranked-take_each : (xs ts : List Timed) → AreRising ts → AreRising (take_each xs ts)
ranked-take_each [] ts up = up
ranked-take_each (x ∷ xs) ts up = ranked-take_each xs (without x.0 ts) (filter-ranked (λ t. not (eqb t.0 x.0)) ts up)

pub owned-take_each : (o : ℕ) (xs ts : List Timed) → owned o (take_each xs ts) ≡ take_each xs (owned o ts)
owned-take_each o [] ts = refl
owned-take_each o (x ∷ xs) ts = owned-take_each o xs (without x.0 ts) ∙ ap (take_each xs) (owned-without o x.0 ts)

pub owned-take_each_else : (o u : ℕ) (xs ts : List Timed) → (o ≡ u → ⊥) → AreOf o xs → owned u (take_each xs ts) ≡ owned u ts
owned-take_each_else o u [] ts apart mine = refl
owned-take_each_else o u (x ∷ xs) ts apart mine = owned-take_each_else o u xs (without x.0 ts) apart mine.1 ∙ owned-without_else u x.0 ts (λ same. apart (sym mine.0 ∙ same))

has_here : (x : Timed) (ts : List Timed) → has_rank x.0 (put_in_time at x ts) ≡ true
has_here x [] = grind (arith, nat_tests)
has_here x (t ∷ ts) = grind (arith, nat_tests, has_here x ts)

-- Readings of an owner that are there are taken out: so many fewer.
pub fewer-take_each : (o seq : ℕ) (xs others ts : List Timed) → AreRising xs → AreOf o xs
    → AllByRecursion (λ t. own_timed seq t ≡ true) xs → AllByRecursion (λ t. own_timed seq t ≡ false) others
    → owned o ts ≡ put_each xs others → length (take_each xs ts) + length xs ≤ length ts
fewer-take_each o seq [] others ts up mine own foreign is = omega arith
fewer-take_each o seq (x ∷ xs) others ts up mine own foreign is =
    let apart : AreApart x.0 xs = behind_apart x.0 xs up.0 in
    let last : owned o ts ≡ put_in_time at x (put_each xs others) = is ∙ put_each-put xs x others apart in
    let none : AreApart x.0 (put_each xs others) = each_put_each (λ t. t.0 ≡ x.0 → ⊥) xs others apart (other_apart seq true x others own.0 foreign) in
    let there : has_rank x.0 ts ≡ true = sym (has_owned x.0 ts) ∙ ap (λ n. has_rank x.0 (owned n ts)) mine.0 ∙ ap (has_rank x.0) last ∙ has_here x (put_each xs others) in
    let rest : owned o (without x.0 ts) ≡ put_each xs others = owned-without o x.0 ts ∙ ap (without x.0) last ∙ without_put x (put_each xs others) none in
    omega (arith, length-without x.0 ts there, fewer-take_each o seq xs others (without x.0 ts) up.1 mine.1 own.1 foreign rest)
