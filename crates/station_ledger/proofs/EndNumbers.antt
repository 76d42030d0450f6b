-- What is missing between live numbers, by the first, the last and how many there are.
use Rattle.std.{proofs.lemmas.Bool.Decides.nat_tests, proofs.Common.{◌≡◌, ◌==◌, ◌&&◌, Bool, false, cond, ℕ, suc, ◌+◌, ◌-◌, ◌<◌, List, [], ◌∷◌, Some, None, length, slice_get, refl, sym, ap, ◌∙◌, arith}, proofs.lemmas.Bool.{eq-eqb, ne_eqb}}
use Rattle.energy_flow.specs.Flow.{Energy}
use Rattle.ledger_model.{specs.declared.by_direction.ByDirection.ByDirection, specs.Content.{Entry, live_of}, specs.Board.last_or_zero, specs.BoardLaws.AreRising, specs.Evse.first_or_zero, specs.Gaps.missing, proofs.GapLemmas.missing-fills}
use Rattle.station_ledger.specs.Standing.{standing_with, kept_with}

pub first_is : (ns : List ℕ) (n : ℕ) → slice_get ns 0 ≡ Some n → (first_or_zero ns ≡ n) × (0 < length ns)
first_is [] n h = cc
first_is (m ∷ ns) n h = (cc, omega arith)

pub last_is : (ns : List ℕ) (n : ℕ) → slice_get ns (length ns - 1) ≡ Some n → last_or_zero ns ≡ n
last_is [] n h = cc
last_is (m ∷ []) n h = cc
last_is (m ∷ k ∷ ns) n h = let at : suc (length (k ∷ ns) - 1) ≡ length (m ∷ k ∷ ns) - 1 = omega arith in last_is (k ∷ ns) n (ap (slice_get (m ∷ k ∷ ns)) at ∙ h)

-- a list without a first number has none
pub none_first : (ns : List ℕ) → slice_get ns 0 ≡ None → length ns ≡ 0
none_first [] h = refl
none_first (m ∷ ns) h = cc

pub none_last : (ns : List ℕ) → slice_get ns (length ns - 1) ≡ None → length ns ≡ 0
none_last [] h = refl
none_last (m ∷ []) h = cc
none_last (m ∷ k ∷ ns) h =
    let at : suc (length (k ∷ ns) - 1) ≡ length (m ∷ k ∷ ns) - 1 = omega arith in
    absurd (omega (arith, none_last (k ∷ ns) (ap (slice_get (m ∷ k ∷ ns)) at ∙ h)))

-- the numbers and what is missing fill the range
pub fills : (ns : List ℕ) (first last : ℕ) → AreRising ns → slice_get ns 0 ≡ Some first → slice_get ns (length ns - 1) ≡ Some last → first + length ns + missing ns ≡ last + 1
fills ns first last up a z = omega (arith, missing-fills ns up (first_is ns first a).1, (first_is ns first a).0, last_is ns last z)

-- completeness, by what is missing
pub none_missing : (b : Bool) (n : ℕ) → n ≡ 0 → b ≡ (b && (n == 0))
none_missing b n none = grind (arith, nat_tests, none)

pub some_missing : (b : Bool) (n : ℕ) → (n ≡ 0 → ⊥) → false ≡ (b && (n == 0))
some_missing b n some = grind (arith, nat_tests, some)

-- a transaction with a live event is kept
pub kept_some : (energy : ByDirection Energy) (tx : List ℕ) (es : List Entry) → 0 < length (live_of tx es) → Some (standing_with energy tx es) ≡ kept_with energy tx es
kept_some energy tx es some = ap (λ b. cond b None (Some (standing_with energy tx es))) (sym (ne_eqb (length (live_of tx es)) 0 (λ e. absurd (omega arith))))

-- one without is not
pub kept_none : (energy : ByDirection Energy) (tx : List ℕ) (es : List Entry) → length (live_of tx es) ≡ 0 → None ≡ kept_with energy tx es
kept_none energy tx es none = ap (λ b. cond b None (Some (standing_with energy tx es))) (sym (eq-eqb (length (live_of tx es)) 0 none))
