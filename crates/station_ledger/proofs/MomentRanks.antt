-- Readings by rank: what a rank says, and how lists by rank change.
use Rattle.std.{proofs.Common.{◌≡◌, ℕ, ◌+◌, ◌*◌, ◌/◌, ◌%◌, ◌^◌, ◌<◌, ◌≤◌, true, false, cond, not, List, [], ◌∷◌, ◌++◌, length, refl, ap, ◌∙◌, eqb, arith}, proofs.lemmas.Nat.{div-mul-add, mod-mul-add}, proofs.lemmas.Bool.Decides.nat_tests, proofs.lemmas.Bool.{eq-eqb, ne_eqb}}
use Rattle.ledger_model.{specs.declared.reading.Direction.Direction, specs.declared.reading.Direction.TheVariants.{Import, Export}, specs.InTime.{put_in_time, AreInTime}, proofs.Callers.put-passed, proofs.SumsByTransaction.filter_turned}
use Rattle.reading_index.{specs.Ranks.{number_of, owner, owner_of, place_of, rank}, specs.Timed.{Timed, from_on, has_rank, in_front, owned, without, AreAbove, AreRising}}
use Rattle.key_index.proofs.Orders.{above_less}
use Rattle.station_ledger.specs.ByMoment.{put_each}

abbrev pub at : Timed → ℕ
at t = t.0

-- A rank has the parts that it was made of.
pub owner_of-rank : (o m n p : ℕ) → m < 2 ^ 62 → n < 2 ^ 31 → p < 2 ^ 10 → owner_of (rank o m n p) ≡ o
owner_of-rank o m n p moment number place =
    ap (λ r. r / 2 ^ 31 / 2 ^ 62) (div-mul-add ((o * 2 ^ 62 + m) * 2 ^ 31 + n) (2 ^ 10) p place)
    ∙ ap (λ r. r / 2 ^ 62) (div-mul-add (o * 2 ^ 62 + m) (2 ^ 31) n number)
    ∙ div-mul-add o (2 ^ 62) m moment

pub number_of-rank : (o m n p : ℕ) → n < 2 ^ 31 → p < 2 ^ 10 → number_of (rank o m n p) ≡ n
number_of-rank o m n p number place =
    ap (λ r. r % 2 ^ 31) (div-mul-add ((o * 2 ^ 62 + m) * 2 ^ 31 + n) (2 ^ 10) p place)
    ∙ mod-mul-add (o * 2 ^ 62 + m) (2 ^ 31) n number

pub place_of-rank : (o m n p : ℕ) → p < 2 ^ 10 → place_of (rank o m n p) ≡ p
place_of-rank o m n p place = mod-mul-add ((o * 2 ^ 62 + m) * 2 ^ 31 + n) (2 ^ 10) p place

-- Two slots or two directions have two owners.
pub owner-apart : (s u : ℕ) (d e : Direction) → owner s d ≡ owner u e → (s ≡ u) × (d ≡ e)
owner-apart s u Import Import same = (omega (arith, same), refl)
owner-apart s u Import Export same = absurd (omega (arith, same))
owner-apart s u Export Import same = absurd (omega (arith, same))
owner-apart s u Export Export same = (omega (arith, same), refl)

-- Ranks that rise do so weakly.
pub ranked-in_time : (ts : List Timed) → AreRising ts → AreInTime at ts
ranked-in_time [] up = tt
ranked-in_time (t ∷ []) up = tt
ranked-in_time (t ∷ u ∷ ts) up = (let lt : t.0 < u.0 = up.0.0 in omega (arith, lt), ranked-in_time (u ∷ ts) up.1)

put_behind : (n : ℕ) (x : Timed) (ts : List Timed) → n < x.0 → AreAbove n ts → AreAbove n (put_in_time at x ts)
put_behind n x [] lt behind = (lt, tt)
put_behind n x (t ∷ ts) lt behind = grind (arith, nat_tests, put_behind n x ts lt behind.1)

-- A reading of a rank that none has is put in by rank.
pub put-ranked : (x : Timed) (ts : List Timed) → AreRising ts → has_rank x.0 ts ≡ false → AreRising (put_in_time at x ts)
put-ranked x [] up none = (tt, tt)
put-ranked x (t ∷ ts) up none = grind (arith, nat_tests, put-ranked x ts up.1, put_behind t.0 x ts, above_less x.0 t.0 ts)

-- A rank is looked for among the readings of its owner.
pub has_owned : (k : ℕ) (ts : List Timed) → has_rank k (owned (owner_of k) ts) ≡ has_rank k ts
has_owned k [] = refl
has_owned k (t ∷ ts) = grind (arith, nat_tests, has_owned k ts)

pub length-put : (x : Timed) (ts : List Timed) → length (put_in_time at x ts) ≡ length ts + 1
length-put x [] = omega arith
length-put x (t ∷ ts) = grind (arith, nat_tests, length-put x ts)

few_without : (k : ℕ) (ts : List Timed) → length (without k ts) ≤ length ts
few_without k [] = omega arith
few_without k (t ∷ ts) = grind (arith, nat_tests, few_without k ts)

-- Where a reading has the rank, it goes.
pub length-without : (k : ℕ) (ts : List Timed) → has_rank k ts ≡ true → length (without k ts) + 1 ≤ length ts
length-without k [] some = cc
length-without k (t ∷ ts) some = grind (arith, nat_tests, few_without k ts, length-without k ts)

-- From a rank on nothing is in front of it.
front_none : (k n : ℕ) (ts : List Timed) → k ≤ n → AreAbove n ts → in_front k ts ≡ []
front_none k n [] le behind = refl
front_none k n (t ∷ ts) le behind = grind (arith, nat_tests, front_none k n ts le behind.1)

all_on : (k n : ℕ) (ts : List Timed) → k ≤ n → AreAbove n ts → from_on k ts ≡ ts
all_on k n [] le behind = refl
all_on k n (t ∷ ts) le behind = grind (arith, nat_tests, all_on k n ts le behind.1)

-- By rank, those in front of a rank are in front of those from it on.
pub parted : (k : ℕ) (ts : List Timed) → AreRising ts → ts ≡ in_front k ts ++ from_on k ts
parted k [] up = refl
parted k (t ∷ ts) up = grind (arith, nat_tests, parted k ts up.1, front_none k t.0 ts, all_on k t.0 ts)

-- A reading is put in between them.
pub put-between : (x : Timed) (ts : List Timed) → AreRising ts → put_in_time at x ts ≡ in_front x.0 ts ++ x ∷ from_on x.0 ts
put-between x [] up = refl
put-between x (t ∷ ts) up = grind (arith, nat_tests, put-between x ts up.1, front_none x.0 t.0 ts, all_on x.0 t.0 ts)

-- A reading of the owner is put in among the owner's, and one of another changes none of them.
pub owned-put : (o : ℕ) (x : Timed) (ts : List Timed) → AreRising ts → owner_of x.0 ≡ o → owned o (put_in_time at x ts) ≡ put_in_time at x (owned o ts)
owned-put o x ts up same = put-passed at (λ t. eqb (owner_of t.0) o) x ts (ranked-in_time ts up) ∙ ap (λ b. cond b (put_in_time at x (owned o ts)) (owned o ts)) (eq-eqb (owner_of x.0) o same)

pub owned-put_else : (o : ℕ) (x : Timed) (ts : List Timed) → AreRising ts → (owner_of x.0 ≡ o → ⊥) → owned o (put_in_time at x ts) ≡ owned o ts
owned-put_else o x ts up apart = put-passed at (λ t. eqb (owner_of t.0) o) x ts (ranked-in_time ts up) ∙ ap (λ b. cond b (put_in_time at x (owned o ts)) (owned o ts)) (ne_eqb (owner_of x.0) o apart)

-- What is taken out is taken out of the owner's.
pub owned-without : (o k : ℕ) (ts : List Timed) → owned o (without k ts) ≡ without k (owned o ts)
owned-without o k ts = filter_turned (λ t. eqb (owner_of t.0) o) (λ t. not (eqb t.0 k)) ts

pub owned-without_else : (o k : ℕ) (ts : List Timed) → (owner_of k ≡ o → ⊥) → owned o (without k ts) ≡ owned o ts
owned-without_else o k [] apart = refl
owned-without_else o k (t ∷ ts) apart = grind (arith, nat_tests, owned-without_else o k ts apart)

pub length-put_each : (xs ts : List Timed) → length (put_each xs ts) ≡ length ts + length xs
length-put_each [] ts = omega arith
length-put_each (x ∷ xs) ts = omega (arith, length-put_each xs (put_in_time at x ts), length-put x ts)
