-- The steps of a walk over linked places.
use Rattle.std.{proofs.lemmas.Grind.common_steps, proofs.Common.{◌≡◌, ℕ, ◌+◌, ◌<◌, ◌/◌, ◌%◌, ◌^◌, ◌==◌, ◌&&◌, nat_lt, Bool, true, false, cond, List, [], ◌∷◌, ◌++◌, Option, Some, None, length, map, drop, slice_get, option_map, inl, inr, refl, sym, ap, ◌∙◌, subst, arith}, specs.Prelude.slice_index, specs.List.filter, specs.Ordering.nat_cmp, specs.FinMap.Entries.is_sorted-where_key, proofs.lemmas.Bool.{cases_eq, and_parts}, proofs.lemmas.Bool.Decides.{Decides-ltb, Decides-eqb}}
use Rattle.slot_arena.specs.Arena.{value_at}
use Rattle.key_index.specs.Entries.{AreAbove, below, AreBelow}
use Rattle.key_index.specs.Entries as entries
use Rattle.ledger_model.{specs.BoardLaws.AreRising, proofs.Callers.second, specs.Content.Stored}
use Rattle.event_store.specs.Slots.{Held}
use Rattle.event_chain.{specs.Flat.{EventPlace, place_of, segment}, specs.Edits.places_behind, specs.Kept.AreRanks, specs.Lists.{slot_in, HasRank, AreOwn}, specs.Walk.{number_in, is_under, are_under, numbers_on, numbers_from}, proofs.Decided.{rank_test, not_so}, proofs.Changes.{find_first, find_rest}, proofs.Flats.in_segment, proofs.Lives.first_left, proofs.Members.{AllPlaces, all_found}, proofs.Places.{below_under, ranks_of}, proofs.Splits.{cut_present, behind_present}}

-- Each number is above this one.
abbrev AllAbove : ℕ → List ℕ → Type 0
AllAbove n [] = Unit {0}
AllAbove n (m ∷ ms) = (n < m) × AllAbove n ms

-- They rise with a smaller one in front.
rising_more : (n : ℕ) (ns : List ℕ) → AllAbove n ns → AreRising ns → AreRising (n ∷ ns)
rising_more n ns h rising = grind (arith, common_steps)

-- Numbers of greater ranks of one transaction are greater.
numbers_above : (t r : ℕ) (es : List EventPlace) → AreAbove r es → r / 2 ^ 31 ≡ t → AllAbove (r % 2 ^ 31) (map number_in (segment t es))
numbers_above t r [] h home = tt
numbers_above t r (e ∷ es) h home = grind (arith, common_steps, numbers_above t r es h.1 home)

-- The numbers of a transaction rise.
pub numbers_rising : (t : ℕ) (es : List EventPlace) → entries.AreRising es → AreRising (map number_in (segment t es))
numbers_rising t [] h = tt
numbers_rising t (e ∷ es) h = grind (arith, common_steps, rising_more, numbers_above, Decides-eqb, numbers_rising t es h.1)

-- What is left of greater ranks is greater.
left_above : (n : ℕ) (f : EventPlace → Bool) (es : List EventPlace) → AreAbove n es → AreAbove n (filter f es)
left_above n f [] h = tt
left_above n f (e ∷ es) h = elim (f e) as (λ b. AreAbove n (cond b (e ∷ filter f es) (filter f es))) [ true ↦ (h.0, left_above n f es h.1) | false ↦ left_above n f es h.1 ]

-- What is left of rising ranks rises.
left_rising : (f : EventPlace → Bool) (es : List EventPlace) → entries.AreRising es → entries.AreRising (filter f es)
left_rising f [] h = tt
left_rising f (e ∷ es) h = elim (f e) as (λ b. entries.AreRising (cond b (e ∷ filter f es) (filter f es))) [ true ↦ (left_above e.0 f es h.0, left_rising f es h.1) | false ↦ left_rising f es h.1 ]

-- All greater ranks are greater.
above_all : (n : ℕ) (es : List EventPlace) → AreAbove n es → filter (λ e. nat_lt n e.0) es ≡ es
above_all n [] h = refl
above_all n (e ∷ es) h = grind (arith, common_steps, above_all n es h.1)

-- Those greater than the first are the others.
behind_first : (e : EventPlace) (es : List EventPlace) → entries.AreRising (e ∷ es) → filter (λ x. nat_lt e.0 x.0) (e ∷ es) ≡ es
behind_first e es h = grind (arith, common_steps, not_so, Decides-ltb, above_all)

-- Those greater than a rank are among those that a test of greater ranks leaves.
greater_twice : (g : ℕ → Bool) (n : ℕ) (es : List EventPlace) → ((m : ℕ) → n < m → g m ≡ true) → filter (λ e. nat_lt n e.0) (filter (λ e. g e.0) es) ≡ filter (λ e. nat_lt n e.0) es
greater_twice g n [] up = refl
greater_twice g n (e ∷ es) up = grind (arith, common_steps, up e.0, greater_twice g n es up)

-- A test that all pass leaves all.
all_pass : (es : List EventPlace) → filter (λ e. true) es ≡ es
all_pass [] = refl
all_pass (e ∷ es) = ap (λ (xs : List EventPlace). e ∷ xs) (all_pass es)

-- What holds of all holds of those in front of a rank.
all_below : (P : EventPlace → Type 0) (n : ℕ) (es : List EventPlace) → AllPlaces P es → AllPlaces P (below n es)
all_below P n [] h = tt
all_below P n (e ∷ es) h = elim (nat_lt e.0 n) as (λ b. AllPlaces P (cond b (e ∷ below n es) [])) [ true ↦ (h.0, all_below P n es h.1) | false ↦ tt ]

-- No place in front of a slot's has the slot.
none_front : (s r : ℕ) (es : List EventPlace) → AllPlaces (λ p. p.1 ≡ s → p.0 ≡ r) es → AreBelow r es → AllPlaces (λ p. p.1 ≡ s → ⊥) es
none_front s r [] own under = tt
none_front s r (e ∷ es) own under = ((λ is. let same = own.0 is in let lt = under.0 in absurd (omega arith)), none_front s r es own.1 under.1)

-- Places without the slot are passed over.
on_passed : (s : ℕ) (xs ys : List EventPlace) → AllPlaces (λ p. p.1 ≡ s → ⊥) xs → numbers_on s (xs ++ ys) ≡ numbers_on s ys
on_passed s [] ys h = refl
on_passed s (x ∷ xs) ys h = ap (λ b. cond b (number_in x ∷ map number_in (segment (x.0 / 2 ^ 31) (xs ++ ys))) (numbers_on s (xs ++ ys))) (not_so _ (Decides-eqb x.1 s) h.0) ∙ on_passed s xs ys h.1

-- From a slot's place on come its number and those behind it.
pub on_is : (r s : ℕ) (es : List EventPlace) → entries.AreRising es → AreOwn es → place_of r es ≡ Some s → numbers_on s es ≡ number_in (r, s) ∷ map number_in (places_behind r es)
on_is r s es rising own there =
    let mine = all_found (λ p. p.1 ≡ s → p.0 ≡ r) es (ranks_of es rising) (λ p at e. own p.0 r s (at ∙ ap Some e) there) in
    let rest = entries.from (r + 1) es in
    ap (numbers_on s) (cut_present r es rising s there)
    ∙ on_passed s (below r es) ((r, s) ∷ rest) (none_front s r (below r es) (all_below (λ p. p.1 ≡ s → p.0 ≡ r) r es mine) (below_under r es))
    ∙ ap (λ b. cond b (number_in (r, s) ∷ map number_in (segment (r / 2 ^ 31) rest)) (numbers_on s rest)) ((Decides-eqb s s).1 refl)
    ∙ ap (λ xs. number_in (r, s) ∷ map number_in xs) (behind_present r es rising s there)

-- A slot from which there are numbers has a rank.
pub rank_on : (s : ℕ) (es : List EventPlace) → AreRanks es → 0 < length (numbers_on s es) → HasRank es s
rank_on s [] ranks some = absurd (omega arith)
rank_on s (e ∷ es) ranks some =
    elim (e.1 == s) as (λ b. (e.1 == s) ≡ b → 0 < length (cond b (number_in e ∷ map number_in (segment (e.0 / 2 ^ 31) es)) (numbers_on s es)) → HasRank (e ∷ es) s) [
      | true ↦ λ y _. record { rank = e.0; found = find_first nat_cmp rank_test e es ∙ ap Some ((Decides-eqb e.1 s).0 y) }
      | false ↦ λ _ rest. let has = rank_on s es (second _ _ ranks) rest in record { rank = has.rank; found = find_rest nat_cmp rank_test e es ranks has.rank s has.found }
    ] refl some

-- The event of a place that is found has its rank.
under_found : (slots : List (Option Held)) (r s : ℕ) (es : List EventPlace) → are_under slots es ≡ true → place_of r es ≡ Some s → is_under r (value_at slots s) ≡ true
under_found slots r s [] all there = cc
under_found slots r s (e ∷ es) all there =
    let parts = and_parts (is_under e.0 (value_at slots e.1)) (are_under slots es) all in
    elim (cases_eq r e.0) [
      | inl is ↦ let at : Some e.1 ≡ Some s = sym (ap (λ b. cond b (Some e.1) (place_of r es)) ((rank_test r e.0).1 is)) ∙ there in let same : e.1 ≡ s = cc in
          ap (λ k. is_under k (value_at slots s)) is ∙ ap (λ k. is_under e.0 (value_at slots k)) (sym same) ∙ parts.0
      | inr other ↦ under_found slots r s es parts.1 (sym (ap (λ b. cond b (Some e.1) (place_of r es)) (not_so _ (rank_test r e.0) other)) ∙ there)
    ]

-- What a slot that has an event of a rank holds.
under_held : (r : ℕ) (o : Option Held) → is_under r o ≡ true → (stored : Stored) × (o ≡ Some (r, stored))
under_held r None h = cc
under_held r (Some held) h = (held.1, ap (λ (k : ℕ). Some (k, held.1)) ((Decides-eqb held.0 r).0 h))

-- Each event has its rank where each place that is found says so.
pub all_under : (slots : List (Option Held)) (es : List EventPlace) → AllPlaces (λ p. is_under p.0 (value_at slots p.1) ≡ true) es → are_under slots es ≡ true
all_under slots [] h = refl
all_under slots (e ∷ es) h = ap (λ b. b && are_under slots es) h.0 ∙ all_under slots es h.1

-- What is known if a test holds.
told : (b : Bool) (ns : List ℕ) → 0 < length (cond b ns []) → (b ≡ true) × (0 < length ns)
told b ns some = grind (arith, common_steps)

-- A slot holds one event.
held_same : (o : Option Held) (a b : Held) → o ≡ Some a → o ≡ Some b → a ≡ b
held_same o a b x y = cc

-- The places from a place on; none if there is no place.
abbrev pub on_from : List EventPlace → Option EventPlace → List EventPlace
on_from es None = []
on_from es (Some e) = e ∷ places_behind e.0 es

-- A place is found if there is one.
abbrev pub IsFound : List EventPlace → Option EventPlace → Type 0
IsFound es None = Unit {0}
IsFound es (Some e) = place_of e.0 es ≡ Some e.1

-- A walk along places: what is left from the next one on.
pub record IsLeft (es : List EventPlace) (place : Option EventPlace) (ps : List EventPlace) : Type 0 where
  pub left : on_from es place ≡ ps
  pub found : IsFound es place

-- What is there if a test lets it be.
if_there : (b : Bool) (o : Option ℕ) (s : ℕ) → cond b o None ≡ Some s → (b ≡ true) × (o ≡ Some s)
if_there b o s is = grind (arith, common_steps)

module _ (es : List EventPlace) (rising : entries.AreRising es) where
  -- Places of a transaction that a test of greater ranks leaves are left from the first of them on.
  left_of : (t : ℕ) (g : ℕ → Bool) → ((n m : ℕ) → g n ≡ true → n < m → g m ≡ true) → (ps : List EventPlace) → filter (λ e. g e.0) (segment t es) ≡ ps → IsLeft es (slice_get ps 0) ps
  left_of t g up [] is = record { left = refl; found = tt }
  left_of t g up (e ∷ ps) is =
      let of_t = λ (x : EventPlace). x.0 / 2 ^ 31 == t in
      let ranks = is_sorted-where_key nat_cmp (λ r. r / 2 ^ 31 == t) es (ranks_of es rising) in
      let own = first_left (λ x. g x.0) (segment t es) e ranks (ap (λ xs. slice_get xs 0) is) in
      let there = if_there (e.0 / 2 ^ 31 == t) (place_of e.0 es) e.1 (sym (in_segment t e.0 es) ∙ own.0) in
      let rises = subst entries.AreRising is (left_rising (λ x. g x.0) (segment t es) (left_rising of_t es rising)) in
      let behind : places_behind e.0 es ≡ ps =
      ap (λ k. filter (λ (x : EventPlace). nat_lt e.0 x.0) (segment k es)) ((Decides-eqb (e.0 / 2 ^ 31) t).0 there.0) ∙ sym (greater_twice g e.0 (segment t es) (λ m. up e.0 m own.1))
      ∙ ap (filter (λ (x : EventPlace). nat_lt e.0 x.0)) is ∙ behind_first e ps rises in
      record { left = ap (λ (xs : List EventPlace). e ∷ xs) behind; found = there.1 }

  -- The places of a transaction.
  pub left_first : (t : ℕ) → IsLeft es (slice_get (segment t es) 0) (segment t es)
  left_first t = left_of t (λ _. true) (λ n m _ _. refl) (segment t es) (all_pass (segment t es))

  -- Those behind a rank.
  pub left_behind : (r : ℕ) → IsLeft es (slice_get (places_behind r es) 0) (places_behind r es)
  left_behind r = left_of (r / 2 ^ 31) (nat_lt r) (λ n m less lt. (Decides-ltb r m).1 (omega (arith, (Decides-ltb r n).0 less))) (places_behind r es) refl

-- The place of a slot.
place_in : (o : Option EventPlace) (k : ℕ) → Some k ≡ option_map slot_in o → (e : EventPlace) × ((o ≡ Some e) × (k ≡ e.1))
place_in o k is = grind (arith, common_steps)

-- No slot, no place.
no_place : (o : Option EventPlace) → None ≡ option_map slot_in o → o ≡ None
no_place o is = grind (arith, common_steps)

module _ (es : List EventPlace) (slots : List (Option Held)) (rising : entries.AreRising es) (own : AreOwn es) where
  -- The place of a walk at a slot.
  pub record IsAt (s : ℕ) : Type 0 where
    pub rank : ℕ
    pub found : place_of rank es ≡ Some s
    pub stored : Stored
    pub held_is : value_at slots s ≡ Some (rank, stored)
    pub all : are_under slots es ≡ true
    pub numbers : numbers_from es slots s ≡ number_in (rank, s) ∷ map number_in (places_behind rank es)

  -- There where a slot is found.
  at_found : (r s : ℕ) → are_under slots es ≡ true → place_of r es ≡ Some s → IsAt s
  at_found r s all there =
      let held = under_held r (value_at slots s) (under_found slots r s es all there) in
      record { rank = r; found = there; stored = held.0; held_is = held.1; all = all; numbers = ap (λ b. cond b (numbers_on s es) []) all ∙ on_is r s es rising own there }

  -- There where numbers come from it on.
  pub at_place : (s : ℕ) → 0 < length (numbers_from es slots s) → IsAt s
  at_place s some = let parts = told (are_under slots es) (numbers_on s es) some in let has = rank_on s es (ranks_of es rising) parts.1 in at_found has.rank s parts.0 has.found

  -- Numbers from the first of some places on are theirs.
  numbers_left : (e : EventPlace) (o : Option EventPlace) (ps : List EventPlace) → are_under slots es ≡ true → o ≡ Some e → IsLeft es o ps → numbers_from es slots e.1 ≡ map number_in ps
  unfolding at_found
  numbers_left e o ps all is left = let here = subst (λ x. IsLeft es x ps) is left in (at_found e.0 e.1 all here.found).numbers ∙ ap (map number_in) here.left

  -- A walk starts at the first place of its transaction.
  pub start_some : (t : ℕ) (e : EventPlace) → are_under slots es ≡ true → slice_get (segment t es) 0 ≡ Some e → numbers_from es slots e.1 ≡ map number_in (segment t es)
  start_some t e all is = numbers_left e (slice_get (segment t es) 0) (segment t es) all is (left_first es rising t)

  module _ (s : ℕ) (at : IsAt s) where
    abbrev behind : List EventPlace
    behind = places_behind at.rank es

    rest_is : drop 1 (numbers_from es slots s) ≡ map number_in behind
    rest_is = ap (drop 1) at.numbers

    -- The number of the slot's event is the first.
    pub number_read : (h : Held) → value_at slots s ≡ Some h → h.0 % 2 ^ 31 ≡ slice_index (numbers_from es slots s) 0
    number_read h here = grind (arith, common_steps, held_same)

    -- A step goes to the first place behind.
    pub next_some : (k : ℕ) → Some k ≡ option_map slot_in (slice_get behind 0) → numbers_from es slots k ≡ drop 1 (numbers_from es slots s)
    next_some k is = let e = place_in (slice_get behind 0) k is in
        ap (numbers_from es slots) e.1.1 ∙ numbers_left e.0 (slice_get behind 0) behind at.all e.1.0 (left_behind es rising at.rank) ∙ sym rest_is

    -- There are numbers from it on.
    pub next_stands : (k : ℕ) → Some k ≡ option_map slot_in (slice_get behind 0) → 0 < length (numbers_from es slots k)
    next_stands k is = grind (arith, common_steps, next_some, rest_is)

    -- Where there is none behind, the walk is over.
    pub next_none : None ≡ option_map slot_in (slice_get behind 0) → [] ≡ drop 1 (numbers_from es slots s)
    next_none is = ap (map number_in) (ap (on_from es) (sym (no_place (slice_get behind 0) is)) ∙ (left_behind es rising at.rank).left) ∙ sym rest_is

-- Where a transaction has no first place it has no numbers.
pub start_none : (ps : List EventPlace) → None ≡ slice_get ps 0 → [] ≡ map number_in ps
start_none [] none = refl
start_none (p ∷ ps) none = cc

-- Where it has one there are numbers.
pub start_stands : (ps : List EventPlace) (e : EventPlace) → slice_get ps 0 ≡ Some e → 0 < length (map number_in ps)
start_stands ps e none = grind (arith, common_steps)
