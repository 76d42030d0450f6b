-- The thread of free slots is kept by each step of an arena.
use Rattle.std.{proofs.Common.{◌≡◌, ℕ, zero, suc, ◌+◌, ◌-◌, ◌<◌, ◌≤◌, true, cond, List, [], ◌∷◌, length, get_or, set, replicate, Option, Some, None, is_some, refl, sym, ap, ◌∙◌, subst, arith, length-set}, proofs.lemmas.List.{length-map, map-set, get_or-set_same, get_or-set_other}, proofs.lemmas.List.Sums.{sum_by-set, sum_by-cons}}
use Rattle.slot_arena.{specs.declared.slot.Slot.Slot, specs.declared.slot.Slot.TheVariants.{Free, Held}, specs.Slots.{HoldsValue, LinksOn}, specs.declared.arena.TheConstants.MAX_SLOTS, specs.Arena.{value_at, IsHeld, held_count}, specs.Free.{IsApart, AreApart, value_in, values_in, IsThread, AreMade, IsThreaded, links}, proofs.Rooms.holding_within, proofs.Fresh.{length-links, links_at, links_made, links_values}}

module _ {X : Type 0} where
  -- One where the option holds a value, else nothing.
  abbrev one : Option X → ℕ
  one o = cond (is_some o) 1 0

  -- What the arena shows of a place is what the place shows.
  pub shown_at : (row : List (Option (Slot X))) (i : ℕ) → value_at (values_in row) i ≡ value_in (get_or row i None)
  shown_at [] i = refl
  shown_at (place ∷ row) zero = refl
  shown_at (place ∷ row) (suc i) = shown_at row i

  -- A written place shows in the arena only at its id.
  pub shown_set : (row : List (Option (Slot X))) (i : ℕ) (place : Option (Slot X)) → values_in (set row i place) ≡ set (values_in row) i (value_in place)
  shown_set row i place = map-set value_in row i place

  -- An arena has as many ids as its row has places.
  pub shown_length : (row : List (Option (Slot X))) → length (values_in row) ≡ length row
  shown_length row = length-map row value_in

  -- A place that shows a value holds it.
  shows_value : (place : Option (Slot X)) → is_some (value_in place) ≡ true → (x : X) × (place ≡ Some (Held x))
  shows_value None shows = cc
  shows_value (Some (Free next)) shows = cc
  shows_value (Some (Held x)) shows = (x, refl)

  -- The slot of a held id holds a value.
  pub held_holds : (row : List (Option (Slot X))) (i : ℕ) → IsHeld (values_in row) i → HoldsValue row i
  held_holds row i held = shows_value (get_or row i None) (ap is_some (sym (shown_at row i)) ∙ held)

  -- So is the slot of an id that is held in the arena that the row shows.
  pub held_in : (row : List (Option (Slot X))) (slots : List (Option X)) (i id : ℕ) → values_in row ≡ slots → i ≡ id → IsHeld slots id → HoldsValue row i
  held_in row slots i id shows same held = held_holds row i (subst (λ n. IsHeld (values_in row) n) (sym same) (subst (λ l. IsHeld l id) (sym shows) held))

  -- A place written changes the count of values by what it held and what it holds.
  counted : (row : List (Option (Slot X))) (i : ℕ) (place : Option (Slot X)) → i < length row
      → held_count (values_in (set row i place)) + one (value_in (get_or row i None)) ≡ held_count (values_in row) + one (value_in place)
  counted row i place lt =
      let within : i < length (values_in row) = subst (λ n. i < n) (sym (shown_length row)) lt in
      ap (λ slots. held_count slots + one (value_in (get_or row i None))) (shown_set row i place)
      ∙ ap (λ o. held_count (set (values_in row) i (value_in place)) + one o) (sym (shown_at row i))
      ∙ sum_by-set one (values_in row) i (value_in place) None within

  -- A slot written keeps each place made.
  made_kept : (row : List (Option (Slot X))) (i : ℕ) (slot : Slot X) → AreMade row → AreMade (set row i (Some slot))
  made_kept [] i slot made = tt
  made_kept (place ∷ row) zero slot made = ((slot, refl), made.1)
  made_kept (place ∷ row) (suc i) slot made = (made.0, made_kept row i slot made.1)

  -- A thread is kept by a write to a slot that is not on it.
  thread_kept : (row : List (Option (Slot X))) (first i : ℕ) (free : List ℕ) (place : Option (Slot X)) → IsApart i free → IsThread row first free → IsThread (set row i place) first free
  thread_kept row first i [] place apart thread = tt
  thread_kept row first i (id ∷ free) place apart thread =
      let next = thread.1.0 in
      (thread.0, (next, (get_or-set_other row i id place None (λ e. apart.0 (sym e)) ∙ thread.1.1.0, thread_kept row next i free place apart.1 thread.1.1.1)))

  -- A slot that holds a value is on no thread.
  held_apart : (row : List (Option (Slot X))) (first i : ℕ) (x : X) (free : List ℕ) → get_or row i None ≡ Some (Held x) → IsThread row first free → IsApart i free
  held_apart row first i x [] holds thread = tt
  held_apart row first i x (id ∷ free) holds thread =
      let next = thread.1.0 in
      let differs : i ≡ id → ⊥ = λ e. let clash : Some (Held x) ≡ Some (Free next) = sym holds ∙ ap (λ n. get_or row n None) e ∙ thread.1.1.0 in cc in
      (differs, held_apart row next i x free holds thread.1.1.1)

  -- A thread that is not empty begins at a free slot.
  links_of : (row : List (Option (Slot X))) (first : ℕ) (free : List ℕ) → IsThread row first free → 0 < length free → LinksOn row first
  links_of row first [] thread lt = absurd (omega arith)
  links_of row first (id ∷ free) thread lt = (thread.1.0, ap (λ n. get_or row n None) thread.0 ∙ thread.1.1.0)

  -- Where a slot is free, the first one is.
  pub first_links : (row : List (Option (Slot X))) (first spare : ℕ) → IsThreaded row first spare → 0 < spare → LinksOn row first
  first_links row first spare t lt = links_of row first t.free t.thread (subst (λ n. 0 < n) t.spare_is lt)

  -- The first free slot takes a value, and the thread goes on at the next one.
  taken_at : (row : List (Option (Slot X))) (first spare next : ℕ) (x : X) (free : List ℕ) → get_or row first None ≡ Some (Free next) → 0 < spare
      → IsThread row first free → AreApart free → spare ≡ length free → length free + held_count (values_in row) ≡ length row → AreMade row → length row ≤ MAX_SLOTS
      → IsThreaded (set row first (Some (Held x))) next (spare - 1)
  taken_at row first spare next x [] links some thread apart count all made few = absurd (omega arith)
  taken_at row first spare next x (id ∷ free) links some thread apart count all made few =
      let new = set row first (Some (Held x)) in let within = holding_within row first (Free next) links in
      let same : thread.1.0 ≡ next = let e : Some (Free thread.1.0) ≡ Some (Free next) = sym thread.1.1.0 ∙ ap (λ n. get_or row n None) (sym thread.0) ∙ links in cc in
      let one_more : held_count (values_in new) ≡ held_count (values_in row) + 1 =
      let was : one (value_in (get_or row first None)) ≡ 0 = ap (λ place. one (value_in place)) links in omega (arith, counted row first (Some (Held x)) within, was) in
      record {
        free = free;
        thread = thread_kept row next first free (Some (Held x)) (subst (λ n. IsApart n free) (sym thread.0) apart.0) (subst (λ n. IsThread row n free) same thread.1.1.1);
        apart = apart.1;
        spare_is = omega (arith, count);
        others_held = omega (arith, one_more, all, length-set row first (Some (Held x)));
        made = made_kept row first (Held x) made;
        few = omega (arith, few, length-set row first (Some (Held x)));
      }

  -- A value put into the first free slot leaves the others threaded.
  pub threaded-take : (row : List (Option (Slot X))) (first spare next : ℕ) (x : X) → IsThreaded row first spare → 0 < spare → get_or row first None ≡ Some (Free next)
      → IsThreaded (set row first (Some (Held x))) next (spare - 1)
  threaded-take row first spare next x t some links = taken_at row first spare next x t.free links some t.thread t.apart t.spare_is t.others_held t.made t.few

  -- A slot is first on the thread after its value was taken out.
  pub threaded-give : (row : List (Option (Slot X))) (first spare id : ℕ) → IsThreaded row first spare → HoldsValue row id → IsThreaded (set row id (Some (Free first))) id (spare + 1)
  threaded-give row first spare id t holds =
      let new = set row id (Some (Free first)) in let within = holding_within row id (Held holds.0) holds.1 in let apart = held_apart row first id holds.0 t.free holds.1 t.thread in
      let one_less : held_count (values_in new) + 1 ≡ held_count (values_in row) =
      let was : one (value_in (get_or row id None)) ≡ 1 = ap (λ place. one (value_in place)) holds.1 in omega (arith, counted row id (Some (Free first)) within, was) in
      record {
        free = id ∷ t.free;
        thread = (refl, (first, (get_or-set_same row id (Some (Free first)) None within, thread_kept row first id t.free (Some (Free first)) apart t.thread)));
        apart = (apart, t.apart);
        spare_is = omega (arith, t.spare_is);
        others_held = omega (arith, one_less, t.others_held, length-set row id (Some (Free first)));
        made = made_kept row id (Free first) t.made;
        few = omega (arith, t.few, length-set row id (Some (Free first)));
      }

  -- A value written over another leaves the thread as it is.
  pub threaded-write : (row : List (Option (Slot X))) (first spare id : ℕ) (w : X) → IsThreaded row first spare → HoldsValue row id → IsThreaded (set row id (Some (Held w))) first spare
  threaded-write row first spare id w t holds =
      let new = set row id (Some (Held w)) in let within = holding_within row id (Held holds.0) holds.1 in let apart = held_apart row first id holds.0 t.free holds.1 t.thread in
      let as_many : held_count (values_in new) ≡ held_count (values_in row) =
      let was : one (value_in (get_or row id None)) ≡ 1 = ap (λ place. one (value_in place)) holds.1 in omega (arith, counted row id (Some (Held w)) within, was) in
      record {
        free = t.free;
        thread = thread_kept row first id t.free (Some (Held w)) apart t.thread;
        apart = t.apart;
        spare_is = t.spare_is;
        others_held = omega (arith, as_many, t.others_held, length-set row id (Some (Held w)));
        made = made_kept row id (Held w) t.made;
        few = omega (arith, t.few, length-set row id (Some (Held w)));
      }

-- The numbers from one on, so many.
abbrev numbers : ℕ → ℕ → List ℕ
numbers from zero = []
numbers from (suc count) = from ∷ numbers (suc from) count

-- They are as many as is said.
length-numbers : (from count : ℕ) → length (numbers from count) ≡ count
length-numbers from zero = refl
length-numbers from (suc count) = ap suc (length-numbers (suc from) count)

-- A smaller number is none of them.
numbers_above : (n from count : ℕ) → n < from → IsApart n (numbers from count)
numbers_above n from zero lt = tt
numbers_above n from (suc count) lt = (λ e. absurd (omega arith), numbers_above n (suc from) count (omega arith))

-- None of them occurs twice.
numbers_apart : (from count : ℕ) → AreApart (numbers from count)
numbers_apart from zero = tt
numbers_apart from (suc count) = (numbers_above from (suc from) count (omega arith), numbers_apart (suc from) count)

module _ (X : Type 0) where
  -- Empty options hold no value.
  none_held : (count : ℕ) → held_count (replicate {A = Option X} count None) ≡ 0
  none_held zero = refl
  none_held (suc count) = omega (arith, sum_by-cons (one {X = X}) None (replicate count None), none_held count)

  -- Where each slot leads to the next, they are a thread.
  numbers_thread : (row : List (Option (Slot X))) (from count n : ℕ) → ((i : ℕ) → i < n → get_or row i None ≡ Some (Free (suc i))) → from + count ≤ n → IsThread row from (numbers from count)
  numbers_thread row from zero n next le = tt
  numbers_thread row from (suc count) n next le = (refl, (suc from, (next from (omega arith), numbers_thread row (suc from) count n next (omega arith))))

  -- A new row of links is one thread.
  pub threaded-new : (n : ℕ) → n ≤ MAX_SLOTS → IsThreaded (links {X = X} 0 n) 0 n
  threaded-new n few =
      let row = links {X = X} 0 n in
      let none : held_count (values_in row) ≡ 0 = ap held_count (links_values X 0 n) ∙ none_held n in
      record {
        free = numbers 0 n;
        thread = numbers_thread row 0 n n (λ i lt. links_at X 0 n i lt ∙ ap (λ k. Some (Free (suc k))) (let e : 0 + i ≡ i = omega arith in e)) (omega arith);
        apart = numbers_apart 0 n;
        spare_is = sym (length-numbers 0 n);
        others_held = omega (arith, none, length-numbers 0 n, length-links X 0 n);
        made = links_made X 0 n;
        few = omega (arith, few, length-links X 0 n);
      }
