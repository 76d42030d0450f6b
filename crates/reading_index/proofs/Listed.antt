-- The readings of an owner from a rank on, one after the other.
use Rattle.std.{proofs.Common.{◌≡◌, ℕ, ◌+◌, ◌*◌, ◌/◌, ◌^◌, ◌<◌, ◌≤◌, Bool, true, false, cond, not, List, [], ◌∷◌, ◌++◌, Option, Some, None, map, option_map, append_assoc, refl, sym, ap, subst, ◌∙◌, ⊎_elim, arith}, specs.List.filter, proofs.Math.Nat.div-mul-le_self, proofs.lemmas.Nat.div-mul-add, proofs.lemmas.Bool.{cases_lt, cases_eq, eq-eqb, ne_eqb, lt-ltb, le-ltb}}
use Rattle.key_index.specs.Entries.{Entry, from}
use Rattle.ledger_model.specs.Event.{MeterReading}
use Rattle.reading_index.{specs.Ranks.{owner_of, rank}, specs.declared.placed.PlacedReading.PlacedReading, specs.Timed.{Timed, first_of, from_on, placed_at, only_owned, owned, with_rank, AreAbove, AreRising}, proofs.Ranked.first_behind}

-- From a rank on, one that is in front is left out, and one that is not comes first.
past : (r : ℕ) (t : Timed) (ts : List Timed) → t.0 < r → from_on r (t ∷ ts) ≡ from_on r ts
past r t ts lt = ap (λ b. cond (not b) (t ∷ from_on r ts) (from_on r ts)) (lt-ltb t.0 r lt)

here : (r : ℕ) (t : Timed) (ts : List Timed) → r ≤ t.0 → from_on r (t ∷ ts) ≡ t ∷ from_on r ts
here r t ts le = ap (λ b. cond (not b) (t ∷ from_on r ts) (from_on r ts)) (le-ltb t.0 r le)

-- All are from a rank on if they are behind one that is.
all_on : (r n : ℕ) (ts : List Timed) → r ≤ n + 1 → AreAbove n ts → from_on r ts ≡ ts
all_on r n [] le above = refl
all_on r n (t ∷ ts) le above = let up = above.0 in here r t ts (omega (arith, le, up)) ∙ ap (λ us. t ∷ us) (all_on r n ts le above.1)

-- Where none is the first, there is none.
pub none_left : (r : ℕ) (ts : List Timed) → first_of (from_on r ts) ≡ None → from_on r ts ≡ []
none_left r ts none = empty (from_on r ts) none
  where
    empty : (us : List Timed) → first_of us ≡ None → us ≡ []
    empty [] h = refl
    empty (u ∷ us) h = cc

-- A reading that comes first from a rank on, and those behind it.
pub record IsFirst (r : ℕ) (e : Timed) (ts : List Timed) : Type 0 where
  pub steps : from_on r ts ≡ e ∷ from_on (e.0 + 1) ts
  pub low : r ≤ e.0

pub first_left : (r : ℕ) (e : Timed) (ts : List Timed) → AreRising ts → first_of (from_on r ts) ≡ Some e → IsFirst r e ts
first_left r e [] rising some = cc
first_left r e (t ∷ ts) rising some = ⊎_elim
    (λ (lt : t.0 < r).
    let rest : IsFirst r e ts = first_left r e ts rising.1 (ap first_of (sym (past r t ts lt)) ∙ some) in
    let low = rest.low in
    record { steps = past r t ts lt ∙ rest.steps ∙ ap (λ us. e ∷ us) (sym (past (e.0 + 1) t ts (omega (arith, lt, low)))); low = low })
    (λ (le : r ≤ t.0).
    let is : t ≡ e = same (ap first_of (sym (here r t ts le)) ∙ some) in
    subst (λ (x : Timed). IsFirst r x (t ∷ ts)) is (record {
      steps = here r t ts le ∙ ap (λ us. t ∷ us) (all_on r t.0 ts (omega (arith, le)) rising.0 ∙ sym (past (t.0 + 1) t ts (omega arith) ∙ all_on (t.0 + 1) t.0 ts (omega arith) rising.0));
      low = le;
    }))
    (cases_lt t.0 r)
  where
    same : Some t ≡ Some e → t ≡ e
    same h = cc

-- The first rank of an owner is in front of all of its own.
first_rank : (o n : ℕ) → owner_of n ≡ o → rank o 0 0 0 ≤ n
first_rank o n is =
    let moments : n / 2 ^ 10 / 2 ^ 31 / 2 ^ 62 * 2 ^ 62 ≤ n / 2 ^ 10 / 2 ^ 31 = div-mul-le_self (n / 2 ^ 10 / 2 ^ 31) (2 ^ 62) in
    let numbers : n / 2 ^ 10 / 2 ^ 31 * 2 ^ 31 ≤ n / 2 ^ 10 = div-mul-le_self (n / 2 ^ 10) (2 ^ 31) in
    let places : n / 2 ^ 10 * 2 ^ 10 ≤ n = div-mul-le_self n (2 ^ 10) in
    omega (arith, is, moments, numbers, places)

pub all_owned : (o : ℕ) (ts : List Timed) → from_on (rank o 0 0 0) (owned o ts) ≡ owned o ts
all_owned o [] = refl
all_owned o (t ∷ ts) = ⊎_elim
    (λ (same : owner_of t.0 ≡ o).
    let own = ap (λ b. cond b (t ∷ owned o ts) (owned o ts)) (eq-eqb (owner_of t.0) o same) in
    ap (from_on (rank o 0 0 0)) own ∙ here (rank o 0 0 0) t (owned o ts) (first_rank o t.0 same) ∙ ap (λ us. t ∷ us) (all_owned o ts) ∙ sym own)
    (λ (apart : owner_of t.0 ≡ o → ⊥).
    let other = ap (λ b. cond b (t ∷ owned o ts) (owned o ts)) (ne_eqb (owner_of t.0) o apart) in
    ap (from_on (rank o 0 0 0)) other ∙ all_owned o ts ∙ sym other)
    (cases_eq (owner_of t.0) o)

-- Those of an owner rise, as all do.
behind_passed : (p : Timed → Bool) (n : ℕ) (ts : List Timed) → AreAbove n ts → AreAbove n (filter p ts)
behind_passed p n [] behind = tt
behind_passed p n (t ∷ ts) behind =
    elim (p t) as (λ b. AreAbove n (cond b (t ∷ filter p ts) (filter p ts))) [ true ↦ (behind.0, behind_passed p n ts behind.1) | false ↦ behind_passed p n ts behind.1 ]

pub filter-ranked : (p : Timed → Bool) (ts : List Timed) → AreRising ts → AreRising (filter p ts)
filter-ranked p [] up = tt
filter-ranked p (t ∷ ts) up =
    elim (p t) as (λ b. AreRising (cond b (t ∷ filter p ts) (filter p ts))) [ true ↦ (behind_passed p t.0 ts up.0, filter-ranked p ts up.1) | false ↦ filter-ranked p ts up.1 ]

-- The first rank of an owner is its own.
pub owner_of-first : (o : ℕ) → owner_of (rank o 0 0 0) ≡ o
owner_of-first o =
    ap (λ r. r / 2 ^ 31 / 2 ^ 62) (div-mul-add ((o * 2 ^ 62 + 0) * 2 ^ 31 + 0) (2 ^ 10) 0 (omega arith))
    ∙ ap (λ r. r / 2 ^ 62) (div-mul-add (o * 2 ^ 62 + 0) (2 ^ 31) 0 (omega arith))
    ∙ div-mul-add o (2 ^ 62) 0 (omega arith)

-- What a search for the next reading of an owner finds.
pub found_left : (o own k r : ℕ) (es : List (Entry MeterReading)) (ts : List Timed) (at : Option (Entry MeterReading)) (got : Option Timed)
    → k ≡ rank o 0 0 0 → own ≡ owner_of k → o ≤ owner_of r → AreRising es → map with_rank es ≡ ts → at ≡ first_of (from r es)
    → got ≡ only_owned own (option_map with_rank at)
    → got ≡ first_of (from_on r (owned o ts))
found_left o own k r es ts at got first is low rising all at_is got_is =
    let same : own ≡ o = is ∙ ap owner_of first ∙ owner_of-first o in
    got_is ∙ (λ i. only_owned (same i) (option_map with_rank (at_is i))) ∙ first_behind o r es low rising ∙ ap (λ us. first_of (from_on r (owned o us))) all

-- One reading more is listed.
pub one_more : (r : ℕ) (e : Timed) (done next all : List PlacedReading) (ts : List Timed) → IsFirst r e ts
    → next ≡ done ++ placed_at e ∷ [] → done ++ map placed_at (from_on r ts) ≡ all
    → next ++ map placed_at (from_on (e.0 + 1) ts) ≡ all
one_more r e done next all ts first more was = ap (λ rs. rs ++ map placed_at (from_on (e.0 + 1) ts)) more
    ∙ append_assoc done (placed_at e ∷ []) (map placed_at (from_on (e.0 + 1) ts))
    ∙ sym (ap (λ us. done ++ map placed_at us) first.steps) ∙ was
