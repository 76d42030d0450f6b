-- The pairs of a station's readings, transaction by transaction.
use Rattle.std.{proofs.Common.{◌≡◌, ℕ, Bool, true, false, cond, List, [], ◌∷◌, ◌++◌, map, refl, sym, ap, ◌∙◌, append-nil, eqb}, specs.List.{filter, filter_map, flat_map}, proofs.Math.Path.fun_ext, proofs.lemmas.Grind.flat_map-append, proofs.lemmas.List.Elements.filter-append, proofs.lemmas.List.Sums.sum_by-append, proofs.lemmas.List.map-append}
use Rattle.energy_flow.specs.Flow.{plus}
use Rattle.ledger_model.{specs.BoardLaws.sum_of_energies, specs.Content.{Entry, has_transaction, live, transactions_of}, specs.declared.order.Order.Order, specs.declared.order.Order.TheVariants.{Sequence, Moment}, specs.declared.reading.Direction.Direction, specs.Deltas.own_events, specs.Energy.{Pair, all_pairs_by, difference, energy_over, energy_within, followed, pairs_by, parts_of, parts_over}, specs.Entries.IsRising, specs.Event.{MeterReading, toward}, specs.Evse.{evse_of, first_or_zero, transactions_at}, specs.InTime.in_order, specs.Parts.{Part, energy_of_parts}, specs.Periods.Periods}
use Rattle.transaction_laws.proofs.LoneEntries.{live_of_own, live_own, live_transactions, none_own, own_transactions}

module _ {X A : Type 0} where
  -- what gives nothing where a test fails
  pub flat_map_passed : (f : X → List A) (p : X → Bool) → ((x : X) → p x ≡ false → f x ≡ []) → (xs : List X) → flat_map f (filter p xs) ≡ flat_map f xs
  flat_map_passed f p none [] = refl
  flat_map_passed f p none (x ∷ xs) = by_case (p x) (none x) (flat_map_passed f p none xs)
    where
      by_case : (b : Bool) → (b ≡ false → f x ≡ []) → flat_map f (filter p xs) ≡ flat_map f xs → flat_map f (cond b (x ∷ filter p xs) (filter p xs)) ≡ f x ++ flat_map f xs
      by_case true nothing rest = ap (λ l. f x ++ l) rest
      by_case false nothing rest = rest ∙ ap (λ l. l ++ flat_map f xs) (sym (nothing refl))

  -- those that pass a test, as nothing where it fails
  pub flat_map_chosen : (f : X → List A) (p : X → Bool) (xs : List X) → flat_map f (filter p xs) ≡ flat_map (λ x. cond (p x) (f x) []) xs
  flat_map_chosen f p [] = refl
  flat_map_chosen f p (x ∷ xs) = by_case (p x) (flat_map_chosen f p xs)
    where
      by_case : (b : Bool) → flat_map f (filter p xs) ≡ flat_map (λ x. cond (p x) (f x) []) xs
          → flat_map f (cond b (x ∷ filter p xs) (filter p xs)) ≡ cond b (f x) [] ++ flat_map (λ x. cond (p x) (f x) []) xs
      by_case true rest = ap (λ l. f x ++ l) rest
      by_case false rest = rest

  pub flat_map_same : (f g : X → List A) → ((x : X) → f x ≡ g x) → (xs : List X) → flat_map f xs ≡ flat_map g xs
  flat_map_same f g same xs = ap (λ h. flat_map h xs) (fun_ext same)

  -- one for each that passes a test
  pub map_chosen : (f : X → A) (p : X → Bool) (xs : List X) → map f (filter p xs) ≡ flat_map (λ x. cond (p x) (f x ∷ []) []) xs
  map_chosen f p [] = refl
  map_chosen f p (x ∷ xs) = by_case (p x) (map_chosen f p xs)
    where
      by_case : (b : Bool) → map f (filter p xs) ≡ flat_map (λ x. cond (p x) (f x ∷ []) []) xs
          → map f (cond b (x ∷ filter p xs) (filter p xs)) ≡ cond b (f x ∷ []) [] ++ flat_map (λ x. cond (p x) (f x ∷ []) []) xs
      by_case true rest = ap (λ l. f x ∷ l) rest
      by_case false rest = rest

-- pieces of pieces
pub flat_map_twice : {X A B : Type 0} (g : A → List B) (f : X → List A) (xs : List X) → flat_map g (flat_map f xs) ≡ flat_map (λ x. flat_map g (f x)) xs
flat_map_twice g f [] = refl
flat_map_twice g f (x ∷ xs) = flat_map-append g (f x) (flat_map f xs) ∙ ap (λ l. flat_map g (f x) ++ l) (flat_map_twice g f xs)

pub map_pieces : {X A B : Type 0} (g : A → B) (f : X → List A) (xs : List X) → map g (flat_map f xs) ≡ flat_map (λ x. map g (f x)) xs
map_pieces g f [] = refl
map_pieces g f (x ∷ xs) = map-append g (f x) (flat_map f xs) ∙ ap (λ l. map g (f x) ++ l) (map_pieces g f xs)

-- the transactions that a transaction alone shows: itself, if it has a live event
pub shown_own : (t : List ℕ) (es : List Entry) → transactions_of (live (own_events t es)) ≡ cond (has_transaction t (live es)) (t ∷ []) []
shown_own t es = ap transactions_of (live_own t es) ∙ own_transactions t (live es)

-- the EVSE of a transaction alone
pub evse_own : (t : List ℕ) (es : List Entry) → evse_of t (own_events t es) ≡ evse_of t es
evse_own t es = ap (λ l. first_or_zero (filter_map (λ (e : Entry). e.1.event.evse) l)) (live_of_own t es)

module _ (order : Order) (d : Direction) where
  -- the pairs by a transaction's live events
  abbrev pairs_from : List Entry → List Pair
  pairs_from l = followed (in_order order (λ (r : MeterReading). r.moment) (flat_map (λ (e : Entry). toward d e.1.event.readings) l))

  no_readings : (o : Order) → followed (in_order o (λ (r : MeterReading). r.moment) []) ≡ []
  no_readings Sequence = refl
  no_readings Moment = refl

  no_pairs : (t : List ℕ) (es : List Entry) → has_transaction t (live es) ≡ false → pairs_by order d t es ≡ []
  no_pairs t es none = ap pairs_from (none_own t (live es) none) ∙ no_readings order

  pub pairs_own : (t : List ℕ) (es : List Entry) → pairs_by order d t (own_events t es) ≡ pairs_by order d t es
  pairs_own t es = ap pairs_from (live_of_own t es)

  -- the pairs of a transaction alone are its own
  pub all_pairs_own : (t : List ℕ) (es : List Entry) → all_pairs_by order d (own_events t es) ≡ pairs_by order d t es
  all_pairs_own t es = ap (flat_map (λ tx. pairs_by order d tx (own_events t es))) (shown_own t es) ∙ by_case (has_transaction t (live es)) refl
    where
      by_case : (b : Bool) → has_transaction t (live es) ≡ b → flat_map (λ tx. pairs_by order d tx (own_events t es)) (cond b (t ∷ []) []) ≡ pairs_by order d t es
      by_case true is = append-nil (pairs_by order d t (own_events t es)) ∙ pairs_own t es
      by_case false is = sym (no_pairs t es is)

  -- those of a station are those of its transactions, one after the other
  pub all_pairs : (es : List Entry) → IsRising es → all_pairs_by order d es ≡ flat_map (λ t. all_pairs_by order d (own_events t es)) (transactions_of es)
  all_pairs es rising =
      ap (flat_map (λ t. pairs_by order d t es)) (live_transactions es rising)
      ∙ flat_map_passed (λ t. pairs_by order d t es) (λ t. has_transaction t (live es)) (λ t none. no_pairs t es none) (transactions_of es)
      ∙ sym (flat_map_same (λ t. all_pairs_by order d (own_events t es)) (λ t. pairs_by order d t es) (λ t. all_pairs_own t es) (transactions_of es))

  -- the pairs at an EVSE
  abbrev pairs_at : ℕ → List Entry → List Pair
  pairs_at evse es = flat_map (λ tx. pairs_by order d tx es) (transactions_at evse es)

  pairs_at_own : (evse : ℕ) (t : List ℕ) (es : List Entry) → pairs_at evse (own_events t es) ≡ cond (eqb (evse_of t es) evse) (pairs_by order d t es) []
  pairs_at_own evse t es =
      ap (λ ts. flat_map (λ tx. pairs_by order d tx (own_events t es)) (filter (λ tx. eqb (evse_of tx (own_events t es)) evse) ts)) (shown_own t es)
      ∙ by_case (has_transaction t (live es)) refl
    where
      one : (b : Bool) → flat_map (λ tx. pairs_by order d tx (own_events t es)) (cond b (t ∷ []) []) ≡ cond b (pairs_by order d t es) []
      one true = append-nil (pairs_by order d t (own_events t es)) ∙ pairs_own t es
      one false = refl

      none : (b : Bool) (ps : List Pair) → ps ≡ [] → [] ≡ cond b ps []
      none true ps is = sym is
      none false ps is = refl

      by_case : (b : Bool) → has_transaction t (live es) ≡ b
          → flat_map (λ tx. pairs_by order d tx (own_events t es)) (filter (λ tx. eqb (evse_of tx (own_events t es)) evse) (cond b (t ∷ []) []))
          ≡ cond (eqb (evse_of t es) evse) (pairs_by order d t es) []
      by_case true is =
          ap (λ n. flat_map (λ tx. pairs_by order d tx (own_events t es)) (cond (eqb n evse) (t ∷ []) [])) (evse_own t es) ∙ one (eqb (evse_of t es) evse)
      by_case false is = none (eqb (evse_of t es) evse) (pairs_by order d t es) (no_pairs t es is)

  pub evse_pairs : (evse : ℕ) (es : List Entry) → IsRising es
      → flat_map (λ tx. pairs_by order d tx es) (transactions_at evse es)
      ≡ flat_map (λ t. flat_map (λ tx. pairs_by order d tx (own_events t es)) (transactions_at evse (own_events t es))) (transactions_of es)
  evse_pairs evse es rising =
      flat_map_chosen (λ tx. pairs_by order d tx es) (λ tx. eqb (evse_of tx es) evse) (transactions_of (live es))
      ∙ ap (flat_map (λ t. cond (eqb (evse_of t es) evse) (pairs_by order d t es) [])) (live_transactions es rising)
      ∙ flat_map_passed (λ t. cond (eqb (evse_of t es) evse) (pairs_by order d t es) []) (λ t. has_transaction t (live es))
      (λ t none. nothing (eqb (evse_of t es) evse) (pairs_by order d t es) (no_pairs t es none)) (transactions_of es)
      ∙ sym (flat_map_same (λ t. pairs_at evse (own_events t es)) (λ t. cond (eqb (evse_of t es) evse) (pairs_by order d t es) []) (λ t. pairs_at_own evse t es) (transactions_of es))
    where
      nothing : (b : Bool) (ps : List Pair) → ps ≡ [] → cond b ps [] ≡ []
      nothing true ps is = is
      nothing false ps is = refl

-- the energy of pairs, piece by piece
pub energy_pieces : {X : Type 0} (h : X → List Pair) (xs : List X) → energy_over (flat_map h xs) ≡ sum_of_energies (map (λ x. energy_over (h x)) xs)
energy_pieces h [] = refl
energy_pieces h (x ∷ xs) =
    (λ i. record { up = sum_by-append (λ p. (difference p).up) (h x) (flat_map h xs) i; down = sum_by-append (λ p. (difference p).down) (h x) (flat_map h xs) i })
    ∙ ap (plus (energy_over (h x))) (energy_pieces h xs)

-- and of a period
pub within_pieces : {X : Type 0} (period : Periods) (quarter : ℕ) (h : X → List Pair) (xs : List X)
    → energy_within period quarter (flat_map h xs) ≡ sum_of_energies (map (λ x. energy_within period quarter (h x)) xs)
within_pieces period quarter h [] = refl
within_pieces period quarter h (x ∷ xs) =
    let in_it = λ (ts : List Part). filter (λ t. eqb t.0 quarter) ts in
    let first = parts_over period (h x) in
    let rest = parts_over period (flat_map h xs) in
    ap (λ ts. energy_of_parts (in_it ts)) (flat_map-append (parts_of period) (h x) (flat_map h xs))
    ∙ ap energy_of_parts (filter-append (λ (t : Part). eqb t.0 quarter) first rest)
    ∙ (λ i. record { up = sum_by-append (λ (t : Part). t.1.up) (in_it first) (in_it rest) i; down = sum_by-append (λ (t : Part). t.1.down) (in_it first) (in_it rest) i })
    ∙ ap (plus (energy_within period quarter (h x))) (within_pieces period quarter h xs)
