-- The readings of a transaction in either order, with one event more.
use Rattle.std.{proofs.Common.{◌≡◌, ℕ, ◌+◌, ◌*◌, ◌≤◌, Bool, true, false, not, ◌||◌, List, [], ◌∷◌, ◌++◌, length, map, refl, sym, ap, subst, ◌∙◌, bytes_eq, eqb, nat_lt, arith}, specs.List.{All, filter, flat_map, sum_by, zip}, proofs.Math.Path.fun_ext, proofs.lemmas.Bool.{eq-eqb, ltb-true, ne_eqb}, proofs.lemmas.Grind.flat_map-append, proofs.lemmas.List.{append-nil, length-map, map-append, map-id}, proofs.lemmas.Simd.map-map, proofs.lemmas.List.Elements.{All-head, All-tail, All-weaker, filter-append, filter_passes}}
use Rattle.ledger_model.{specs.declared.order.Order.Order, specs.declared.order.Order.TheVariants.Sequence, specs.declared.reading.Direction.Direction, specs.Content.{Entry, live, live_of, transactions_of}, specs.Deltas.{before_key, behind_key, own_events, IsOneMore}, specs.Energy.{Pair, all_pairs_by, followed, pairs_by, readings_by, readings_of}, specs.Event.{MeterReading, toward}, specs.Evse.{evse_of, transactions_at}, specs.InTime.{across_runs, in_order, in_pairs, runs}, specs.ReadingOrder.{Numbered, bare, is_own, numbered, numbered_by, pairs_across, pairs_with, runs_of}, proofs.InTimeLemmas.{order-length, order-map, order-nil, order-passed}, proofs.KeysByNumber.{own_before_key, own_behind_key}, proofs.OneMore.{by_transaction_sums, evse_else, live_else, live_with, live_without, nothing_taken, passed_sum, taken}, proofs.RunLemmas.{AreForeign, AreOwn, few_by_runs, foreign_passed, one_run, own_passed, runs_sums}, proofs.SumLemmas.{sum_by-flat_map, sum_by-map}}
pub use Rattle.ledger_model.proofs.InTimeLemmas.{order-nil}

map-flat : {X Y Z : Type 0} (g : Y → Z) (h : X → List Y) (xs : List X) → map g (flat_map h xs) ≡ flat_map (λ x. map g (h x)) xs
map-flat g h [] = refl
map-flat g h (x ∷ xs) = map-append g (h x) (flat_map h xs) ∙ ap (λ ys. map g (h x) ++ ys) (map-flat g h xs)

-- Without their numbers they are the readings in that order.
pub numbered_readings : (order : Order) (d : Direction) (tx : List ℕ) (es : List Entry) → map (λ n. n.1) (numbered_by order d tx es) ≡ readings_by order d tx es
numbered_readings order d tx es =
    sym (order-map order (λ r. r.moment) (λ (n : Numbered). n.1) (flat_map (numbered d) (live_of tx es)))
    ∙ ap (in_order order (λ r. r.moment))
    (map-flat (λ (n : Numbered). n.1) (numbered d) (live_of tx es)
    ∙ ap (λ h. flat_map h (live_of tx es)) (fun_ext (λ (e : Entry). map-map (λ (n : Numbered). n.1) (λ r. (e.0.seq, r)) (toward d e.1.event.readings) ∙ map-id (toward d e.1.event.readings))))

zip-map : {X Y : Type 0} (g : X → Y) (xs ys : List X) → zip (map g xs) (map g ys) ≡ map (λ p. (g p.0, g p.1)) (zip xs ys)
zip-map g [] ys = refl
zip-map g (x ∷ xs) [] = refl
zip-map g (x ∷ xs) (y ∷ ys) = ap (λ ps. (g x, g y) ∷ ps) (zip-map g xs ys)

pairs-map : {X Y : Type 0} (g : X → Y) (xs : List X) → in_pairs (map g xs) ≡ map (λ p. (g p.0, g p.1)) (in_pairs xs)
pairs-map g [] = refl
pairs-map g (x ∷ xs) = zip-map g (x ∷ xs) xs

-- So their pairs are those of the readings.
numbered_pairs : (order : Order) (d : Direction) (tx : List ℕ) (es : List Entry) → map bare (in_pairs (numbered_by order d tx es)) ≡ pairs_by order d tx es
numbered_pairs order d tx es = sym (pairs-map (λ (n : Numbered). n.1) (numbered_by order d tx es)) ∙ ap followed (numbered_readings order d tx es)

-- Another number is not that one.
other_foreign : (seq n : ℕ) (rs : List MeterReading) → (n ≡ seq → ⊥) → AreForeign (is_own seq) (map (λ r. (n, r)) rs)
other_foreign seq n [] apart = tt
other_foreign seq n (r ∷ rs) apart = (ne_eqb n seq apart, other_foreign seq n rs apart)

all_own : (seq : ℕ) (rs : List MeterReading) → AreOwn (is_own seq) (map (λ r. (seq, r)) rs)
all_own seq [] = tt
all_own seq (r ∷ rs) = (eq-eqb seq seq refl, all_own seq rs)

foreign-append : (seq : ℕ) (xs ys : List Numbered) → AreForeign (is_own seq) xs → AreForeign (is_own seq) ys → AreForeign (is_own seq) (xs ++ ys)
foreign-append seq [] ys a b = b
foreign-append seq (x ∷ xs) ys a b = (a.0, foreign-append seq xs ys a.1 b)

others_foreign : (d : Direction) (seq : ℕ) (es : List Entry) → All (λ e. e.0.seq ≡ seq → ⊥) es → AreForeign (is_own seq) (flat_map (numbered d) es)
others_foreign d seq [] apart = tt
others_foreign d seq (e ∷ es) apart = foreign-append seq (numbered d e) (flat_map (numbered d) es)
    (other_foreign seq e.0.seq (toward d e.1.event.readings) (All-head (λ (x : Entry). x.0.seq ≡ seq → ⊥) e es apart))
    (others_foreign d seq es (All-tail (λ (x : Entry). x.0.seq ≡ seq → ⊥) e es apart))

module _ (d : Direction) (es more : List Entry) (e : Entry) (one : IsOneMore es more (before_key e.0 es) e (behind_key e.0 es)) where
  abbrev here : List Entry
  here = own_events e.0.tx (before_key e.0 es)

  abbrev there : List Entry
  there = own_events e.0.tx (behind_key e.0 es)

  abbrev AreOthers : List Entry → Type 0
  AreOthers l = All (λ (x : Entry). x.0.seq ≡ e.0.seq → ⊥) l

  before_foreign : AreForeign (is_own e.0.seq) (flat_map (numbered d) here)
  before_foreign =
      let less = λ (x : Entry). nat_lt x.0.seq e.0.seq in
      let others : AreOthers (filter less (live_of e.0.tx es)) =
      All-weaker (λ x. less x ≡ true) (λ x. x.0.seq ≡ e.0.seq → ⊥) (λ x lt same. absurd (let below = ltb-true x.0.seq e.0.seq lt in omega arith)) _ (filter_passes less (live_of e.0.tx es)) in
      others_foreign d e.0.seq here (subst AreOthers (sym (own_before_key e.0 es)) others)

  behind_foreign : AreForeign (is_own e.0.seq) (flat_map (numbered d) there)
  behind_foreign =
      let more = λ (x : Entry). nat_lt e.0.seq x.0.seq in
      let others : AreOthers (filter more (live_of e.0.tx es)) =
      All-weaker (λ x. more x ≡ true) (λ x. x.0.seq ≡ e.0.seq → ⊥) (λ x gt same. absurd (let above = ltb-true e.0.seq x.0.seq gt in omega arith)) _ (filter_passes more (live_of e.0.tx es)) in
      others_foreign d e.0.seq there (subst AreOthers (sym (own_behind_key e.0 es)) others)

  -- by sequence: those in front, its own, and those behind
  with_it : flat_map (numbered d) (live_of e.0.tx more) ≡ flat_map (numbered d) here ++ (numbered d e ++ flat_map (numbered d) there)
  with_it = ap (flat_map (numbered d)) (live_with es more (before_key e.0 es) e (behind_key e.0 es) one) ∙ flat_map-append (numbered d) here (e ∷ there)

  without_it : flat_map (numbered d) (live_of e.0.tx es) ≡ flat_map (numbered d) here ++ flat_map (numbered d) there
  without_it = ap (flat_map (numbered d)) (live_without es more (before_key e.0 es) e (behind_key e.0 es) one) ∙ flat_map-append (numbered d) here there

  abbrev foreign : Numbered → Bool
  foreign n = not (is_own e.0.seq n)

  -- those that pass a test
  passed : (p : Numbered → Bool) → filter p (flat_map (numbered d) (live_of e.0.tx more))
      ≡ filter p (flat_map (numbered d) here) ++ (filter p (numbered d e) ++ filter p (flat_map (numbered d) there))
  passed p =
      ap (filter p) with_it
      ∙ filter-append p (flat_map (numbered d) here) (numbered d e ++ flat_map (numbered d) there)
      ∙ ap (λ l. filter p (flat_map (numbered d) here) ++ l) (filter-append p (numbered d e) (flat_map (numbered d) there))

  struck_out : filter foreign (flat_map (numbered d) (live_of e.0.tx more)) ≡ flat_map (numbered d) (live_of e.0.tx es)
  struck_out =
      passed foreign
      ∙ (λ i. (foreign_passed (is_own e.0.seq) (flat_map (numbered d) here) before_foreign).1 i
      ++ ((own_passed (is_own e.0.seq) (numbered d e) (all_own e.0.seq (toward d e.1.event.readings))).1 i
      ++ (foreign_passed (is_own e.0.seq) (flat_map (numbered d) there) behind_foreign).1 i))
      ∙ sym without_it

  its_own : filter (is_own e.0.seq) (flat_map (numbered d) (live_of e.0.tx more)) ≡ numbered d e
  its_own =
      passed (is_own e.0.seq)
      ∙ (λ i. (foreign_passed (is_own e.0.seq) (flat_map (numbered d) here) before_foreign).0 i
      ++ ((own_passed (is_own e.0.seq) (numbered d e) (all_own e.0.seq (toward d e.1.event.readings))).0 i
      ++ (foreign_passed (is_own e.0.seq) (flat_map (numbered d) there) behind_foreign).0 i))
      ∙ append-nil (numbered d e)

  pub runs_by_sequence : runs_of Sequence d e.0 more ≤ 1
  runs_by_sequence =
      subst (λ l. runs (is_own e.0.seq) l ≤ 1) (sym with_it)
      (one_run (is_own e.0.seq) (flat_map (numbered d) here) (numbered d e) (flat_map (numbered d) there) before_foreign (all_own e.0.seq (toward d e.1.event.readings)) behind_foreign)

  module _ (order : Order) where
    pub less_numbered : filter foreign (numbered_by order d e.0.tx more) ≡ numbered_by order d e.0.tx es
    less_numbered = sym (order-passed (λ n. n.1.moment) order foreign (flat_map (numbered d) (live_of e.0.tx more))) ∙ ap (in_order order (λ n. n.1.moment)) struck_out

    pub own_numbered : length (filter (is_own e.0.seq) (numbered_by order d e.0.tx more)) ≡ length (toward d e.1.event.readings)
    own_numbered =
        ap length (sym (order-passed (λ n. n.1.moment) order (is_own e.0.seq) (flat_map (numbered d) (live_of e.0.tx more))) ∙ ap (in_order order (λ n. n.1.moment)) its_own)
        ∙ order-length (λ n. n.1.moment) order (numbered d e) ∙ length-map (toward d e.1.event.readings) (λ r. (e.0.seq, r))

    pub few_come_and_go : length (pairs_across order d e.0 more) + length (pairs_with order d e.0 more) ≤ length (toward d e.1.event.readings) + 2 * runs_of order d e.0 more
    few_come_and_go =
        let few = few_by_runs (is_own e.0.seq) (numbered_by order d e.0.tx more) in
        omega (
          arith,
          few,
          own_numbered,
          length-map (across_runs (is_own e.0.seq) (numbered_by order d e.0.tx more)) bare,
          length-map (filter (λ p. is_own e.0.seq p.0 || is_own e.0.seq p.1) (in_pairs (numbered_by order d e.0.tx more))) bare,
        )

    module _ (f : Pair → ℕ) where
      pub transaction_moves : sum_by f (pairs_by order d e.0.tx more) + sum_by f (pairs_across order d e.0 more) ≡ sum_by f (pairs_by order d e.0.tx es) + sum_by f (pairs_with order d e.0 more)
      transaction_moves =
          let all = runs_sums (is_own e.0.seq) (λ p. f (bare p)) (numbered_by order d e.0.tx more) in
          let with_them = ap (sum_by f) (sym (numbered_pairs order d e.0.tx more)) ∙ sum_by-map f bare (in_pairs (numbered_by order d e.0.tx more)) in
          let without = ap (sum_by f) (sym (numbered_pairs order d e.0.tx es))
          ∙ sum_by-map f bare (in_pairs (numbered_by order d e.0.tx es))
          ∙ ap (λ ns. sum_by (λ p. f (bare p)) (in_pairs ns)) (sym less_numbered) in
          let gone = sum_by-map f bare (across_runs (is_own e.0.seq) (numbered_by order d e.0.tx more)) in
          let came = sum_by-map f bare (filter (λ p. is_own e.0.seq p.0 || is_own e.0.seq p.1) (in_pairs (numbered_by order d e.0.tx more))) in
          omega (arith, all, with_them, without, gone, came)

-- The readings of another transaction stay.
pub others_stay : (order : Order) (d : Direction) (es more front : List Entry) (e : Entry) (back : List Entry) (tx : List ℕ)
    → IsOneMore es more front e back → bytes_eq tx e.0.tx ≡ false → pairs_by order d tx more ≡ pairs_by order d tx es
others_stay order d es more front e back tx one apart =
    ap (λ l. followed (in_order order (λ r. r.moment) (flat_map (λ (x : Entry). toward d x.1.event.readings) l))) (live_else es more front e back tx one apart)

no_pairs : (order : Order) (f : Pair → ℕ) (rs : List MeterReading) → rs ≡ [] → sum_by f (followed (in_order order (λ r. r.moment) rs)) ≡ 0
no_pairs order f rs none = ap (λ rs. sum_by f (followed (in_order order (λ r. r.moment) rs))) none ∙ ap (λ rs. sum_by f (followed rs)) (order-nil (λ r. r.moment) order)

-- A sum over the pairs of the station.
pub station_moves : (d : Direction) (es more : List Entry) (e : Entry) (one : IsOneMore es more (before_key e.0 es) e (behind_key e.0 es)) (order : Order) (f : Pair → ℕ)
    → sum_by f (all_pairs_by order d more) + sum_by f (pairs_across order d e.0 more) ≡ sum_by f (all_pairs_by order d es) + sum_by f (pairs_with order d e.0 more)
station_moves d es more e one order f =
    let g = λ (u : List ℕ). sum_by f (pairs_by order d u es) in let h = λ (u : List ℕ). sum_by f (pairs_by order d u more) in
    let all = by_transaction_sums g h es more (before_key e.0 es) e (behind_key e.0 es) one
    (λ u apart. ap (sum_by f) (others_stay order d es more (before_key e.0 es) e (behind_key e.0 es) u one apart))
    (λ none. no_pairs order f (readings_of d e.0.tx es) (ap (flat_map (λ (x : Entry). toward d x.1.event.readings)) none))
    (λ none. no_pairs order f (readings_of d e.0.tx more) (ap (flat_map (λ (x : Entry). toward d x.1.event.readings)) none)) in
    let own = transaction_moves d es more e one order f in
    let less = sum_by-flat_map f (λ u. pairs_by order d u es) (transactions_of (live es)) in let many = sum_by-flat_map f (λ u. pairs_by order d u more) (transactions_of (live more)) in
    omega (arith, all, own, less, many)

-- A sum over the pairs of an EVSE: the transaction's are taken from where it was and brought to where it is.
pub evse_sums : (order : Order) (d : Direction) (f : Pair → ℕ) (evse : ℕ) (es more front : List Entry) (e : Entry) (back : List Entry) → IsOneMore es more front e back
    → sum_by f (flat_map (λ u. pairs_by order d u more) (transactions_at evse more)) + taken (eqb (evse_of e.0.tx es) evse) (sum_by f (pairs_by order d e.0.tx es))
    ≡ sum_by f (flat_map (λ u. pairs_by order d u es) (transactions_at evse es)) + taken (eqb (evse_of e.0.tx more) evse) (sum_by f (pairs_by order d e.0.tx more))
evse_sums order d f evse es more front e back one =
    let g = λ (u : List ℕ). taken (eqb (evse_of u es) evse) (sum_by f (pairs_by order d u es)) in let h = λ (u : List ℕ). taken (eqb (evse_of u more) evse) (sum_by f (pairs_by order d u more)) in
    let all = by_transaction_sums g h es more front e back one
    (λ u apart. ap (λ n. taken (eqb n evse) (sum_by f (pairs_by order d u more))) (evse_else es more front e back u one apart)
    ∙ ap (λ ps. taken (eqb (evse_of u es) evse) (sum_by f ps)) (others_stay order d es more front e back u one apart))
    (λ none. ap (taken (eqb (evse_of e.0.tx es) evse)) (no_pairs order f (readings_of d e.0.tx es) (ap (flat_map (λ (x : Entry). toward d x.1.event.readings)) none))
    ∙ nothing_taken (eqb (evse_of e.0.tx es) evse))
    (λ none. ap (taken (eqb (evse_of e.0.tx more) evse)) (no_pairs order f (readings_of d e.0.tx more) (ap (flat_map (λ (x : Entry). toward d x.1.event.readings)) none))
    ∙ nothing_taken (eqb (evse_of e.0.tx more) evse)) in
    let less = sum_by-flat_map f (λ u. pairs_by order d u es) (transactions_at evse es)
    ∙ passed_sum (λ u. sum_by f (pairs_by order d u es)) (λ u. eqb (evse_of u es) evse) (transactions_of (live es)) in
    let many = sum_by-flat_map f (λ u. pairs_by order d u more) (transactions_at evse more)
    ∙ passed_sum (λ u. sum_by f (pairs_by order d u more)) (λ u. eqb (evse_of u more) evse) (transactions_of (live more)) in
    omega (arith, all, less, many)
