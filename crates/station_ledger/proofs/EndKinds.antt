-- The kinds of a transaction's live events: when they start and end, by the first, the last and the count of Started
-- and Ended.
use Rattle.std.{proofs.lemmas.Bool.Decides.nat_tests, proofs.Common.{◌≡◌, ℕ, suc, ◌+◌, ◌-◌, true, false, cond, ◌&&◌, List, [], ◌∷◌, length, slice_get, refl, ap, ◌∙◌, arith}, specs.List.count_by, proofs.lemmas.List.Sums.sum_by-cons}
use Rattle.ledger_model.{specs.declared.kind.Kind.Kind, specs.declared.kind.Kind.TheVariants.{Started, Updated, Ended}, specs.Complete.{goes_on_and_ends, starts_and_ends}}
use Rattle.station_ledger.specs.Standing.{is_started, is_ended, starts_and_ends_by}
use Rattle.event_chain.specs.Kept.{is_end}

-- one kind more is counted
counted : (k : Kind) (ks : List Kind) → count_by is_end (k ∷ ks) ≡ cond (is_end k) 1 0 + count_by is_end ks
counted k ks = sum_by-cons (λ (x : Kind). cond {A = ℕ} (is_end x) 1 0) k ks

-- where none is Started or Ended, the last is not Ended
none_ends : (k : Kind) (ks : List Kind) → count_by is_end (k ∷ ks) ≡ 0 → is_ended (slice_get (k ∷ ks) (length ks)) ≡ false
none_ends k [] none = grind (arith, counted k [])
none_ends k (m ∷ ms) none = none_ends m ms (omega (arith, none, counted k (m ∷ ms)))

-- after the first
goes_on : (k : Kind) (ks : List Kind) → count_by is_end (k ∷ ks) ≡ 1 → goes_on_and_ends (k ∷ ks) ≡ is_ended (slice_get (k ∷ ks) (length ks))
goes_on k [] one = grind (arith, counted k [])
goes_on k (m ∷ ms) one = grind (arith, counted k (m ∷ ms), goes_on m ms, none_ends m ms)

-- from the first on
whole : (ks : List Kind) → count_by is_end ks ≡ 2 → starts_and_ends ks ≡ (is_started (slice_get ks 0) && is_ended (slice_get ks (length ks - 1)))
whole [] two = cc
whole (Updated ∷ ks) two = refl
whole (Ended ∷ ks) two = refl
whole (Started ∷ []) two = absurd (omega (arith, two, counted Started []))
whole (Started ∷ m ∷ ms) two =
    let at : suc (length ms) ≡ length (Started ∷ m ∷ ms) - 1 = omega arith in
    goes_on m ms (omega (arith, two, counted Started (m ∷ ms))) ∙ ap (λ n. is_ended (slice_get (Started ∷ m ∷ ms) n)) at

-- what goes on and ends has one end
one_end : (ks : List Kind) → goes_on_and_ends ks ≡ true → count_by is_end ks ≡ 1
one_end [] h = cc
one_end (k ∷ []) h = grind (arith, counted k [])
one_end (k ∷ m ∷ ms) h = grind (arith, counted k (m ∷ ms), one_end (m ∷ ms))

-- what starts and ends has two
two_ends : (ks : List Kind) → starts_and_ends ks ≡ true → count_by is_end ks ≡ 2
two_ends [] h = cc
two_ends (k ∷ ks) h = grind (arith, counted k ks, one_end ks)

-- with another count nothing starts and ends
pub not_two : (ks : List Kind) → (count_by is_end ks ≡ 2 → ⊥) → starts_and_ends ks ≡ false
not_two ks other = grind (arith, two_ends ks, other)

-- events start and end by the first kind, the last, and how many are either
pub by_ends : (ks : List Kind) → starts_and_ends_by (slice_get ks 0) (slice_get ks (length ks - 1)) (count_by is_end ks) ≡ starts_and_ends ks
by_ends ks = grind (arith, nat_tests, whole ks, not_two ks)
