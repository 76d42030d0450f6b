-- The places of a transaction, cut at a rank.
use Rattle.std.{proofs.lemmas.Grind.common_steps, proofs.Common.{◌≡◌, ℕ, ◌+◌, ◌<◌, ◌≤◌, ◌/◌, ◌%◌, ◌^◌, nat_lt, Bool, true, false, cond, List, [], ◌∷◌, Some, None, map, slice_get, refl, sym, ap, ◌∙◌, arith}, proofs.lemmas.Bool.Decides.{Decides-ltb, Decides-eqb}, specs.List.filter}
use Rattle.key_index.{specs.Entries.{below, from, first_of, last_of, AreAbove, AreRising}, specs.Key.rank, proofs.Orders.below_more}
use Rattle.event_chain.{specs.Flat.{EventPlace, segment}, specs.Edits.{at_home, places_before, places_behind}, proofs.Decided.{denied, not_so, same_test}, proofs.Places.{not_less, seg_above, last_under_seg, below_under, below_rising}}

-- Of greater ranks none is in front.
none_under : (t r n : ℕ) (es : List EventPlace) → AreAbove n es → r ≤ n → filter (λ e. nat_lt e.0 r) (segment t es) ≡ []
none_under t r n [] h le = refl
none_under t r n (e ∷ es) h le = grind (arith, common_steps, none_under t r n es h.1 le)

-- All greater ranks are behind.
all_over : (t r n : ℕ) (es : List EventPlace) → AreAbove n es → r ≤ n → filter (λ e. nat_lt r e.0) (segment t es) ≡ segment t es
all_over t r n [] h le = refl
all_over t r n (e ∷ es) h le = grind (arith, common_steps, all_over t r n es h.1 le)

-- Those of a transaction in front of a rank.
pub seg_below : (t r : ℕ) (es : List EventPlace) → AreRising es → filter (λ e. nat_lt e.0 r) (segment t es) ≡ segment t (below r es)
seg_below t r [] h = refl
seg_below t r (e ∷ es) h = grind (arith, common_steps, none_under, not_less, seg_below t r es h.1)

-- Those behind it.
pub seg_from : (t r n : ℕ) (es : List EventPlace) → n ≡ r + 1 → AreRising es → filter (λ e. nat_lt r e.0) (segment t es) ≡ segment t (from n es)
seg_from t r n [] up h = refl
seg_from t r n (e ∷ es) up h = grind (arith, common_steps, Decides-ltb, not_so, not_less, all_over, seg_from t r n es up h.1)

-- The last place in front of a rank, where it is of the rank's transaction.
pub before_seg : (t r : ℕ) (es : List EventPlace) → AreRising es → t ≡ r / 2 ^ 31 → at_home t (last_of (below r es)) ≡ last_of (places_before r es)
before_seg t r es h home = grind (arith, common_steps, last_under_seg, below_rising, below_more, below_under, seg_below)

-- The first of a segment from a rank of its transaction on.
first_on : (t n : ℕ) (es : List EventPlace) → AreRising es → rank t 0 ≤ n → at_home t (first_of (from n es)) ≡ slice_get (segment t (from n es)) 0
first_on t n [] h le = refl
first_on t n (e ∷ es) h le = grind (arith, common_steps, not_less, denied, Decides-eqb, seg_above, first_on t n es h.1 le)

-- The first place behind a rank, where it is of the rank's transaction.
pub behind_seg : (t r n : ℕ) (es : List EventPlace) → AreRising es → t ≡ r / 2 ^ 31 → n ≡ r + 1 → at_home t (first_of (from n es)) ≡ slice_get (places_behind r es) 0
behind_seg t r n es h home up = grind (arith, common_steps, first_on, seg_from)

-- Where the first place from a rank on has another rank, it is the first one behind the rank.
pub from_past : (r n : ℕ) (es : List EventPlace) → n ≡ r + 1 → ((e : EventPlace) → first_of (from r es) ≡ Some e → e.0 ≡ r → ⊥) → from r es ≡ from n es
from_past r n [] up apart = refl
from_past r n (e ∷ es) up apart =
    elim (nat_lt e.0 r) as (λ b. nat_lt e.0 r ≡ b → ((x : EventPlace) → first_of (cond b (from r es) (e ∷ es)) ≡ Some x → x.0 ≡ r → ⊥)
    → cond b (from r es) (e ∷ es) ≡ cond (nat_lt e.0 n) (from n es) (e ∷ es)) [
      | true ↦ λ y none. let lt : e.0 < r = (Decides-ltb e.0 r).0 y in from_past r n es up none ∙ sym (ap (λ b. cond b (from n es) (e ∷ es)) ((Decides-ltb e.0 n).1 (omega (arith, up))))
      | false ↦ λ never none. let ge : r ≤ e.0 = not_less e.0 r never in let other : e.0 ≡ r → ⊥ = none e refl in let over : n ≤ e.0 = omega (arith, up, other) in
          sym (ap (λ b. cond b (from n es) (e ∷ es)) (not_so _ (Decides-ltb e.0 n) (λ lt. absurd (omega arith))))
    ] refl apart

-- None of a transaction is behind its last rank.
none_over : (t r : ℕ) (es : List EventPlace) → r + 1 ≡ rank (t + 1) 0 → filter (λ e. nat_lt r e.0) (segment t es) ≡ []
none_over t r [] is = refl
none_over t r (e ∷ es) is = grind (arith, common_steps, none_over t r es is)

-- No place is behind the greatest number.
pub behind_last : (t number r : ℕ) (es : List EventPlace) → t ≡ r / 2 ^ 31 → number ≡ r % 2 ^ 31 → number ≡ 2147483647 → slice_get (places_behind r es) 0 ≡ None
behind_last t number r es home is last = ap (λ xs. slice_get xs 0) (none_over (r / 2 ^ 31) r es (omega (arith, is, last)))

-- What places of a transaction are turned into, cut by a test that is one of their ranks.
pub map_cut : {X : Type 0} (h : EventPlace → X) (f : X → Bool) (g : ℕ → Bool) (t : ℕ) (es : List EventPlace)
    → ((e : EventPlace) → e.0 / 2 ^ 31 ≡ t → f (h e) ≡ g e.0)
    → filter f (map h (segment t es)) ≡ map h (filter (λ e. g e.0) (segment t es))
map_cut h f g t [] same = refl
map_cut {X = X} h f g t (e ∷ es) same = grind (arith, common_steps, map_cut h f g t es same)

-- A smaller number is that of a smaller rank.
pub less_rank : (t seq r : ℕ) → r / 2 ^ 31 ≡ t → nat_lt (r % 2 ^ 31) seq ≡ nat_lt r (rank t seq)
less_rank t seq r home = same_test _ _ (Decides-ltb (r % 2 ^ 31) seq) (Decides-ltb r (rank t seq)) (λ lt. omega arith) (λ lt. omega arith)

-- A greater number is that of a greater rank.
pub more_rank : (t seq r : ℕ) → r / 2 ^ 31 ≡ t → nat_lt seq (r % 2 ^ 31) ≡ nat_lt (rank t seq) r
more_rank t seq r home = same_test _ _ (Decides-ltb seq (r % 2 ^ 31)) (Decides-ltb (rank t seq) r) (λ lt. omega arith) (λ lt. omega arith)
