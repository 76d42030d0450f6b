-- A transaction's readings, by the order of the entries and by the numbers one after the other.
use Rattle.std.{proofs.Common.{◌≡◌, ℕ, zero, suc, ◌<◌, Bool, true, false, cond, not, ◌&&◌, List, [], ◌∷◌, ◌++◌, Option, Some, None, All, refl, ap, sym, ◌∙◌, nat_lt, filter, flat_map, bytes_eq, append-nil, arith}, specs.FinMap.Entries.find, proofs.Math.Path.fun_ext, proofs.lemmas.Bool.{lt-ltb, le-ltb, ltb-true}, proofs.lemmas.List.Concat.flat_map-append, proofs.lemmas.List.Elements.{All-filter, All-head, All-tail, All-weaker, filter-append}}
use Rattle.std.specs.FinMap as finite
use Rattle.ledger_model.{specs.declared.reading.Direction.Direction, specs.Event.{MeterReading, toward}, specs.Key.{KeyName, key_cmp}, specs.Content.{Content, Entry, Stored, entries, live_of, live}, specs.Deltas.{before_key, behind_key}, specs.Energy.readings_of, specs.Entries.IsRising, specs.Laws.{upto, readings_at, by_number}, proofs.Cuts.at_key, proofs.KeysByNumber.{own_before_key, own_behind_key}, proofs.OneMoreByCommand.live_cut, proofs.SumsByTransaction.{filter_twice, same_text}}

-- of tests on numbers, one after the other
below_next : (n m : ℕ) → (nat_lt m n && nat_lt m (suc n)) ≡ nat_lt m n
below_next n m = by_case (nat_lt m n) refl
  where
    by_case : (b : Bool) → nat_lt m n ≡ b → (b && nat_lt m (suc n)) ≡ b
    by_case true is = lt-ltb m (suc n) (let lt = ltb-true m n is in omega arith)
    by_case false is = refl

not_above : (n m : ℕ) → (nat_lt n m && nat_lt m (suc n)) ≡ false
not_above n m = by_case (nat_lt n m) refl
  where
    by_case : (b : Bool) → nat_lt n m ≡ b → (b && nat_lt m (suc n)) ≡ false
    by_case true is = le-ltb m (suc n) (let lt = ltb-true n m is in omega arith)
    by_case false is = refl

none_left : {X : Type 0} (xs : List X) → filter (λ x. false) xs ≡ []
none_left [] = refl
none_left (x ∷ xs) = none_left xs

all_left : {X : Type 0} (p : X → Bool) (xs : List X) → All (λ x. p x ≡ true) xs → filter p xs ≡ xs
all_left p [] h = refl
all_left p (x ∷ xs) h =
    let here : p x ≡ true = All-head (λ y. p y ≡ true) x xs h in
    ap (λ b. cond b (x ∷ filter p xs) (filter p xs)) here ∙ ap (λ ys. x ∷ ys) (all_left p xs (All-tail (λ y. p y ≡ true) x xs h))

module _ (d : Direction) (tx : List ℕ) where
  -- the readings of entries, and the live entries of the transaction with a number below another
  abbrev told : List Entry → List MeterReading
  told es = flat_map (λ e. toward d e.1.event.readings) es

  abbrev is_own : Entry → Bool
  is_own e = bytes_eq tx e.0.tx

  abbrev own : List Entry → List Entry
  own es = filter is_own es

  abbrev below : ℕ → List Entry → List Entry
  below n es = filter (λ e. nat_lt e.0.seq n) es

  abbrev named : ℕ → KeyName
  named n = record { tx = tx; seq = n }

  at_number : (n : ℕ) (o : Option Stored) → told (below (suc n) (own (live (at_key (named n) o)))) ≡ readings_at d o
  at_number n None = refl
  at_number n (Some s) = by_case s.voided
    where
      by_case : (b : Bool) → told (below (suc n) (own (cond (not b) ((named n, s) ∷ []) []))) ≡ cond b [] (toward d s.event.readings)
      by_case true = refl
      by_case false = rw (same_text tx, lt-ltb n (suc n) (omega arith)) (append-nil (toward d s.event.readings))

  -- one number more adds the readings of its event
  one_more : (n : ℕ) (es : List Entry) → IsRising es → told (below (suc n) (live_of tx es)) ≡ told (below n (live_of tx es)) ++ readings_at d (find key_cmp (named n) es)
  one_more n es rising =
      let front = below n (live_of tx es) in
      let mid = own (live (at_key (named n) (find key_cmp (named n) es))) in
      let back = filter (λ (e : Entry). nat_lt n e.0.seq) (live_of tx es) in
      let parts : live_of tx es ≡ front ++ (mid ++ back) =
      ap own (live_cut (named n) es rising)
      ∙ filter-append is_own (before_key (named n) es) (live (at_key (named n) (find key_cmp (named n) es)) ++ behind_key (named n) es)
      ∙ (λ i. own_before_key (named n) es i ++ filter-append is_own (live (at_key (named n) (find key_cmp (named n) es))) (behind_key (named n) es) i)
      ∙ ap (λ l. front ++ (mid ++ l)) (own_behind_key (named n) es) in
      let under = λ (e : Entry). nat_lt e.0.seq (suc n) in
      let stays : below (suc n) front ≡ front = filter_twice under (λ e. nat_lt e.0.seq n) (live_of tx es) ∙ ap (λ p. filter p (live_of tx es)) (fun_ext (λ (e : Entry). below_next n e.0.seq)) in
      let none : below (suc n) back ≡ [] =
      filter_twice under (λ e. nat_lt n e.0.seq) (live_of tx es) ∙ ap (λ p. filter p (live_of tx es)) (fun_ext (λ (e : Entry). not_above n e.0.seq)) ∙ none_left (live_of tx es) in
      ap (λ l. told (below (suc n) l)) parts
      ∙ ap told (filter-append under front (mid ++ back) ∙ (λ i. stays i ++ filter-append under mid back i) ∙ (λ i. front ++ (below (suc n) mid ++ none i)))
      ∙ flat_map-append (λ (e : Entry). toward d e.1.event.readings) front (below (suc n) mid ++ []) ∙ ap (λ l. told front ++ told l) (append-nil (below (suc n) mid))
      ∙ ap (λ rs. told front ++ rs) (at_number n (find key_cmp (named n) es))

  all_numbers : (n : ℕ) (es : List Entry) → IsRising es → flat_map (λ seq. readings_at d (find key_cmp (named seq) es)) (upto n) ≡ told (below n (live_of tx es))
  all_numbers zero es s = sym (ap told (ap (λ p. filter p (live_of tx es)) (fun_ext (λ (e : Entry). le-ltb e.0.seq 0 (omega arith))) ∙ none_left (live_of tx es)))
  all_numbers (suc n) es s =
      flat_map-append (λ seq. readings_at d (find key_cmp (named seq) es)) (upto n) (n ∷ [])
      ∙ (λ i. all_numbers n es s i ++ append-nil (readings_at d (find key_cmp (named n) es)) i)
      ∙ sym (one_more n es s)

  pub readings_by_number : (c : Content) (n : ℕ) → All (λ (e : Entry). e.0.seq < n) (entries c) → by_number d tx c n ≡ readings_of d tx (entries c)
  readings_by_number c n h =
      let at = λ (seq : ℕ). ap (readings_at d) (finite.get-entries c.events (named seq)) in
      let few = All-filter is_own (λ e. e.0.seq < n) (live (entries c)) (All-filter (λ (e : Entry). not e.1.voided) (λ e. e.0.seq < n) (entries c) h) in
      (λ i. flat_map (λ seq. at seq i) (upto n))
      ∙ all_numbers n (entries c) (finite.entries_sorted c.events)
      ∙ ap told (all_left (λ e. nat_lt e.0.seq n) (live_of tx (entries c)) (All-weaker (λ e. e.0.seq < n) (λ e. nat_lt e.0.seq n ≡ true) (λ e lt. lt-ltb e.0.seq n lt) (live_of tx (entries c)) few))
