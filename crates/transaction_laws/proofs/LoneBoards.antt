-- The board of a station is the sum of those of its transactions.
use Rattle.std.{proofs.Common.{◌≡◌, ℕ, ◌+◌, Bool, true, false, cond, ◌&&◌, ◌==◌, List, [], ◌∷◌, ◌++◌, map, length, refl, sym, ap, subst, ◌∙◌, eqb, arith}, specs.List.{filter, filter_map, flat_map}, proofs.Math.Path.fun_ext, proofs.lemmas.Bool.eqb-true, proofs.lemmas.List.Folds.flat_map-map, proofs.lemmas.List.map-append}
use Rattle.std.specs.FinMap as finite
use Rattle.energy_flow.specs.Flow.{Energy}
use Rattle.ledger_model.{specs.Board.{Board, Flowed, Shown, board_by, figures_by, flows_under, last_or_zero, shown_by, sum_of_figures}, specs.BoardLaws.{IsIn, sum_of_energies}, specs.ByDirection.{in_each, no_flows, plus_flows}, specs.Complete.starts_and_ends, specs.Content.{Content, Entry, empty_content, entries, has_transaction, live, transactions_of}, specs.declared.by_direction.ByDirection.ByDirection, specs.declared.command.Command.Command, specs.declared.order.Order.Order, specs.declared.reading.Direction.Direction, specs.declared.reading.Direction.TheVariants.{Import, Export}, specs.Deltas.own_events, specs.Energy.{all_pairs_by, energy_in_by, energy_over, energy_within, pairs_by, flows_in_by, followed, parts_of, parts_of_both, parts_over, quarters_by, rising}, specs.Entries.IsRising, specs.Event.{MeterReading, toward}, specs.Evse.{energy_at_by, evse_of, evses, first_or_zero, flows_at_by, transactions_at}, specs.Gaps.{gaps, missing}, specs.InTime.in_order, specs.Laws.left_by, specs.Limits.Bounds, specs.Parts.Part, specs.Periods.Periods, proofs.EnergyLemmas.site_quarter, proofs.SumLemmas.rising-IsIn}
use Rattle.transaction_laws.{specs.Alone.{AreEnough, alone}, specs.BoardSums.{added_up, board_of_run, sum_of_boards, transactions}, proofs.AloneEvents.entries_alone, proofs.LoneEntries.{live_of_own, live_transactions}, proofs.LoneFigures.figures_sum, proofs.LonePairs.{all_pairs, all_pairs_own, energy_pieces, evse_own, evse_pairs, flat_map_same, flat_map_twice, map_chosen, map_pieces, shown_own, within_pieces}, proofs.LoneRuns.alone_from_empty, proofs.RisingLists.{in_both_pieces, in_each_piece, in_pieces, rising_alike}}

pub map_twice : {X A B : Type 0} (g : A → B) (f : X → A) (xs : List X) → map g (map f xs) ≡ map (λ x. g (f x)) xs
map_twice g f [] = refl
map_twice g f (x ∷ xs) = ap (λ l. g (f x) ∷ l) (map_twice g f xs)

pub map_same : {X A : Type 0} (f g : X → A) → ((x : X) → f x ≡ g x) → (xs : List X) → map f xs ≡ map g xs
map_same f g same xs = ap (λ h. map h xs) (fun_ext same)

pub map_itself : (f : ℕ → ByDirection Energy) (ks : List ℕ) → map (λ (line : Flowed). line.0) (map (λ k. (k, f k)) ks) ≡ ks
map_itself f [] = refl
map_itself f (k ∷ ks) = ap (λ l. k ∷ l) (map_itself f ks)

-- the numbers of lines
numbers : {X : Type 0} (ks : X → List ℕ) (f : X → ℕ → ByDirection Energy) (xs : List X) → map (λ (line : Flowed). line.0) (flat_map (λ x. map (λ k. (k, f x k)) (ks x)) xs) ≡ flat_map ks xs
numbers ks f xs = map_pieces (λ (line : Flowed). line.0) (λ x. map (λ k. (k, f x k)) (ks x)) xs ∙ flat_map_same _ _ (λ x. map_itself (f x) (ks x)) xs

-- nothing more
pub nothing_more : (f : ByDirection Energy) → plus_flows no_flows f ≡ f
nothing_more f =
    let iu : 0 + f.import.up ≡ f.import.up = omega arith in
    let id : 0 + f.import.down ≡ f.import.down = omega arith in
    let xu : 0 + f.export.up ≡ f.export.up = omega arith in
    let xd : 0 + f.export.down ≡ f.export.down = omega arith in
    λ i. record { import = record { up = iu i; down = id i }; export = record { up = xu i; down = xd i } }

module _ (order : Order) (es : List Entry) where
  own : List ℕ → List Entry
  own t = own_events t es

  -- a transaction as a board shows it, by its live events
  abbrev shown_from : List ℕ → List Entry → Shown
  shown_from t l = record {
    tx = t;
    evse = first_or_zero (filter_map (λ (e : Entry). e.1.event.evse) l);
    events = length l;
    first = first_or_zero (map (λ (e : Entry). e.0.seq) l);
    last = last_or_zero (map (λ (e : Entry). e.0.seq) l);
    complete = starts_and_ends (map (λ (e : Entry). e.1.event.kind) l) && (missing (map (λ (e : Entry). e.0.seq) l) == 0);
    missing = missing (map (λ (e : Entry). e.0.seq) l);
    energy = in_each (λ d. energy_over (followed (in_order order (λ (r : MeterReading). r.moment) (flat_map (λ (e : Entry). toward d e.1.event.readings) l))));
    gaps = gaps (map (λ (e : Entry). e.0.seq) l);
  }

  shown_alone : (t : List ℕ) → shown_by order (own_events t es) t ≡ shown_by order es t
  shown_alone t = ap (shown_from t) (live_of_own t es)

  -- the lines of transactions
  transactions_one : (t : List ℕ) → map (shown_by order (own_events t es)) (transactions_of (live (own_events t es))) ≡ cond (has_transaction t (live es)) (shown_by order es t ∷ []) []
  transactions_one t = ap (map (shown_by order (own_events t es))) (shown_own t es) ∙ by_case (has_transaction t (live es))
    where
      by_case : (b : Bool) → map (shown_by order (own_events t es)) (cond b (t ∷ []) []) ≡ cond b (shown_by order es t ∷ []) []
      by_case true = ap (λ s. s ∷ []) (shown_alone t)
      by_case false = refl

  transactions_sum : IsRising es
      → map (shown_by order es) (transactions_of (live es)) ≡ flat_map (λ t. map (shown_by order (own_events t es)) (transactions_of (live (own_events t es)))) (transactions_of es)
  transactions_sum up =
      ap (map (shown_by order es)) (live_transactions es up)
      ∙ map_chosen (shown_by order es) (λ t. has_transaction t (live es)) (transactions_of es)
      ∙ sym (flat_map_same _ _ transactions_one (transactions_of es))

  -- the lines of EVSEs
  evses_one : (t : List ℕ) → evses (own_events t es) ≡ cond (has_transaction t (live es)) (evse_of t es ∷ []) []
  evses_one t = ap (λ ts. rising (map (λ tx. evse_of tx (own_events t es)) ts)) (shown_own t es) ∙ by_case (has_transaction t (live es))
    where
      by_case : (b : Bool) → rising (map (λ tx. evse_of tx (own_events t es)) (cond b (t ∷ []) [])) ≡ cond b (evse_of t es ∷ []) []
      by_case true = ap (λ n. n ∷ []) (evse_own t es)
      by_case false = refl

  evses_sum : IsRising es → rising (flat_map (λ t. evses (own_events t es)) (transactions_of es)) ≡ evses es
  evses_sum up =
      ap rising (flat_map_same _ _ evses_one (transactions_of es)
      ∙ sym (map_chosen (λ t. evse_of t es) (λ t. has_transaction t (live es)) (transactions_of es))
      ∙ ap (map (λ t. evse_of t es)) (sym (live_transactions es up)))

  abbrev evse_lines : List ℕ → List Flowed
  evse_lines t = map (λ evse. (evse, flows_at_by order evse (own_events t es))) (evses (own_events t es))

  transactions_at_own : (evse : ℕ) (t : List ℕ) → transactions_at evse (own_events t es) ≡ cond (has_transaction t (live es)) (cond (eqb (evse_of t es) evse) (t ∷ []) []) []
  transactions_at_own evse t = ap (filter (λ tx. eqb (evse_of tx (own_events t es)) evse)) (shown_own t es) ∙ by_case (has_transaction t (live es))
    where
      by_case : (b : Bool) → filter (λ tx. eqb (evse_of tx (own_events t es)) evse) (cond b (t ∷ []) []) ≡ cond b (cond (eqb (evse_of t es) evse) (t ∷ []) []) []
      by_case true = ap (λ n. cond (eqb n evse) (t ∷ []) []) (evse_own t es)
      by_case false = refl

  -- where a transaction alone has none at an EVSE, it has no energy there
  none_at : (evse : ℕ) (t : List ℕ) → transactions_at evse (own_events t es) ≡ [] → flows_at_by order evse (own_events t es) ≡ no_flows
  none_at evse t none = ap (λ ts. in_each (λ d. energy_over (flat_map (λ tx. all_pairs_of d tx) ts))) none
    where
      all_pairs_of : Direction → List ℕ → List (MeterReading × MeterReading)
      all_pairs_of d tx = pairs_by order d tx (own_events t es)

  -- its lines give what it has at an EVSE
  under_one : (evse : ℕ) (t : List ℕ) (rest : List Flowed) → flows_under evse (evse_lines t ++ rest) ≡ plus_flows (flows_at_by order evse (own_events t es)) (flows_under evse rest)
  under_one evse t rest =
      ap (λ ks. flows_under evse (map (λ k. (k, flows_at_by order k (own_events t es))) ks ++ rest)) (evses_one t)
      ∙ by_case (has_transaction t (live es)) (transactions_at_own evse t)
    where
      none : transactions_at evse (own_events t es) ≡ [] → flows_under evse rest ≡ plus_flows (flows_at_by order evse (own_events t es)) (flows_under evse rest)
      none empty = sym (nothing_more (flows_under evse rest)) ∙ ap (λ f. plus_flows f (flows_under evse rest)) (sym (none_at evse t empty))

      at : (b : Bool) → (b ≡ true → evse_of t es ≡ evse) → transactions_at evse (own_events t es) ≡ cond b (t ∷ []) []
          → cond b (plus_flows (flows_at_by order (evse_of t es) (own_events t es)) (flows_under evse rest)) (flows_under evse rest)
          ≡ plus_flows (flows_at_by order evse (own_events t es)) (flows_under evse rest)
      at true same there = ap (λ k. plus_flows (flows_at_by order k (own_events t es)) (flows_under evse rest)) (same refl)
      at false same there = none there

      by_case : (b : Bool) → transactions_at evse (own_events t es) ≡ cond b (cond (eqb (evse_of t es) evse) (t ∷ []) []) []
          → flows_under evse (map (λ k. (k, flows_at_by order k (own_events t es))) (cond b (evse_of t es ∷ []) []) ++ rest)
          ≡ plus_flows (flows_at_by order evse (own_events t es)) (flows_under evse rest)
      by_case true there = at (eqb (evse_of t es) evse) (eqb-true (evse_of t es) evse) there
      by_case false there = none there

  under_all : (evse : ℕ) (ts : List (List ℕ)) → flows_under evse (flat_map evse_lines ts) ≡ in_each (λ d. sum_of_energies (map (λ t. energy_at_by order d evse (own_events t es)) ts))
  under_all evse [] = refl
  under_all evse (t ∷ ts) = under_one evse t (flat_map evse_lines ts) ∙ ap (plus_flows (flows_at_by order evse (own_events t es))) (under_all evse ts)

  evse_energy : (evse : ℕ) (d : Direction) → IsRising es → energy_at_by order d evse es ≡ sum_of_energies (map (λ t. energy_at_by order d evse (own_events t es)) (transactions_of es))
  evse_energy evse d up =
      ap energy_over (evse_pairs order d evse es up)
      ∙ energy_pieces (λ t. flat_map (λ tx. pairs_by order d tx (own_events t es)) (transactions_at evse (own_events t es))) (transactions_of es)

  evse_lines_sum : IsRising es → added_up (flat_map evse_lines (transactions_of es)) ≡ map (λ evse. (evse, flows_at_by order evse es)) (evses es)
  evse_lines_sum up =
      ap (λ ks. map (λ k. (k, flows_under k (flat_map evse_lines (transactions_of es)))) ks)
      (ap rising (numbers (λ t. evses (own_events t es)) (λ t evse. flows_at_by order evse (own_events t es)) (transactions_of es)) ∙ evses_sum up)
      ∙ map_same _ _ (λ evse. ap (λ f. (evse, f)) (under_all evse (transactions_of es) ∙ sym (λ i. in_each (λ d. evse_energy evse d up i)))) (evses es)

  -- the lines of periods
  module _ (period : Periods) where
    abbrev quarters_toward : Direction → List ℕ → List ℕ
    quarters_toward d t = map (λ (p : Part). p.0) (parts_over period (all_pairs_by order d (own_events t es)))

    toward_all : IsRising es → (d : Direction) → map (λ (p : Part). p.0) (parts_over period (all_pairs_by order d es)) ≡ flat_map (quarters_toward d) (transactions_of es)
    toward_all up d =
        ap (λ ps. map (λ (p : Part). p.0) (parts_over period ps)) (all_pairs order d es up)
        ∙ ap (map (λ (p : Part). p.0)) (flat_map_twice (parts_of period) (λ t. all_pairs_by order d (own_events t es)) (transactions_of es))
        ∙ map_pieces (λ (p : Part). p.0) (λ t. parts_over period (all_pairs_by order d (own_events t es))) (transactions_of es)

    both_ways : (fs : List Entry) → map (λ (p : Part). p.0) (parts_of_both order period fs)
        ≡ map (λ (p : Part). p.0) (parts_over period (all_pairs_by order Import fs)) ++ map (λ (p : Part). p.0) (parts_over period (all_pairs_by order Export fs))
    both_ways fs = map-append (λ (p : Part). p.0) (parts_over period (all_pairs_by order Import fs)) (parts_over period (all_pairs_by order Export fs))

    quarters_sum : IsRising es → rising (flat_map (λ t. quarters_by order period (own_events t es)) (transactions_of es)) ≡ quarters_by order period es
    quarters_sum up =
        let both = λ (t : List ℕ). quarters_toward Import t ++ quarters_toward Export t in
        let all : map (λ (p : Part). p.0) (parts_of_both order period es) ≡ flat_map (quarters_toward Import) (transactions_of es) ++ flat_map (quarters_toward Export) (transactions_of es) =
        both_ways es ∙ (λ i. toward_all up Import i ++ toward_all up Export i) in
        rising_alike (flat_map (λ t. quarters_by order period (own_events t es)) (transactions_of es)) (map (λ (p : Part). p.0) (parts_of_both order period es))
        (λ k there. subst (IsIn k) (sym all) (in_both_pieces (quarters_toward Import) (quarters_toward Export) (transactions_of es) k
        (in_pieces (λ t. quarters_by order period (own_events t es)) both
        (λ t n is. subst (IsIn n) (both_ways (own_events t es)) ((rising-IsIn n (map (λ (p : Part). p.0) (parts_of_both order period (own_events t es)))).0 is)) (transactions_of es) k there)))
        (λ k there. in_pieces both (λ t. quarters_by order period (own_events t es))
        (λ t n is. (rising-IsIn n (map (λ (p : Part). p.0) (parts_of_both order period (own_events t es)))).1 (subst (IsIn n) (sym (both_ways (own_events t es))) is)) (transactions_of es) k
        (in_each_piece (quarters_toward Import) (quarters_toward Export) (transactions_of es) k (subst (IsIn k) all there)))

    quarter_energy : (quarter : ℕ) (d : Direction) → IsRising es → energy_in_by order d period quarter es ≡ sum_of_energies (map (energy_in_by order d period quarter) (map own (transactions_of es)))
    unfolding own
    quarter_energy quarter d up =
        ap (energy_within period quarter) (all_pairs order d es up)
        ∙ within_pieces period quarter (λ t. all_pairs_by order d (own_events t es)) (transactions_of es)
        ∙ ap sum_of_energies (sym (map_twice (energy_in_by order d period quarter) own (transactions_of es)))

    abbrev quarter_lines : List ℕ → List Flowed
    quarter_lines t = map (λ quarter. (quarter, flows_in_by order period quarter (own_events t es))) (quarters_by order period (own_events t es))

    under_quarter : (quarter : ℕ) → IsRising es → flows_under quarter (flat_map quarter_lines (transactions_of es)) ≡ flows_in_by order period quarter es
    unfolding own
    under_quarter quarter up =
        ap (flows_under quarter) (sym (flat_map-map (λ fs. (board_by order period fs).quarters) own (transactions_of es)))
        ∙ site_quarter order period quarter (map own (transactions_of es))
        ∙ sym (λ i. in_each (λ d. quarter_energy quarter d up i))

    quarter_lines_sum : IsRising es → added_up (flat_map quarter_lines (transactions_of es)) ≡ map (λ quarter. (quarter, flows_in_by order period quarter es)) (quarters_by order period es)
    quarter_lines_sum up =
        ap (λ ks. map (λ k. (k, flows_under k (flat_map quarter_lines (transactions_of es)))) ks)
        (ap rising (numbers (λ t. quarters_by order period (own_events t es)) (λ t quarter. flows_in_by order period quarter (own_events t es)) (transactions_of es)) ∙ quarters_sum up)
        ∙ map_same _ _ (λ quarter. ap (λ f. (quarter, f)) (under_quarter quarter up)) (quarters_by order period es)

    -- the whole board
    pub board_sum : IsRising es → board_by order period es ≡ sum_of_boards period (map (λ t. board_by order period (own_events t es)) (transactions_of es))
    board_sum up =
        let board = λ (t : List ℕ). board_by order period (own_events t es) in
        let ts = transactions_of es in
        let figures : figures_by order es ≡ sum_of_figures (map (λ (b : Board). b.figures) (map board ts)) = figures_sum order es up
        ∙ ap sum_of_figures (sym (map_twice (λ (b : Board). b.figures) board ts)) in
        let evse = sym (evse_lines_sum up) ∙ ap added_up (sym (flat_map-map (λ (b : Board). b.evses) board ts)) in
        let quarter = sym (quarter_lines_sum up) ∙ ap added_up (sym (flat_map-map (λ (b : Board). b.quarters) board ts)) in
        let transaction = transactions_sum up ∙ sym (flat_map-map (λ (b : Board). b.transactions) board ts) in
        λ i. record { period = period; figures = figures i; evses = evse i; quarters = quarter i; transactions = transaction i }

pub content_board : (order : Order) (period : Periods) (c : Content)
    → board_by order period (entries c) ≡ sum_of_boards period (map (λ tx. board_by order period (entries (alone tx 0 c))) (transactions_of (entries c)))
content_board order period c =
    board_sum order (entries c) period (finite.entries_sorted c.events)
    ∙ ap (sum_of_boards period) (map_same _ _ (λ tx. ap (board_by order period) (sym (entries_alone tx c.events))) (transactions_of (entries c)))

pub run_board : (order : Order) (period : Periods) (limits lone : Bounds) (commands : List Command) → AreEnough limits lone
    → board_by order period (entries (left_by limits empty_content commands))
    ≡ sum_of_boards period (map (λ tx. board_of_run order period lone tx limits commands) (transactions (left_by limits empty_content commands)))
run_board order period limits lone commands enough =
    let c = left_by limits empty_content commands in
    content_board order period c
    ∙ ap (sum_of_boards period) (map_same _ _ (λ tx. ap (λ d. board_by order period (entries d)) (sym ((alone_from_empty limits lone tx commands enough).content))) (transactions_of (entries c)))

pub shown_of_content : (order : Order) (c : Content) (tx : List ℕ) (n : ℕ) → shown_by order (entries (alone tx n c)) tx ≡ shown_by order (entries c) tx
shown_of_content order c tx n = ap (λ l. shown_by order l tx) (entries_alone tx c.events) ∙ shown_alone order (entries c) tx

pub only_shown : (order : Order) (c : Content) (tx : List ℕ) (n : ℕ)
    → map (shown_by order (entries (alone tx n c))) (transactions_of (live (entries (alone tx n c)))) ≡ cond (has_transaction tx (live (entries c))) (shown_by order (entries c) tx ∷ []) []
only_shown order c tx n = ap (λ l. map (shown_by order l) (transactions_of (live l))) (entries_alone tx c.events) ∙ transactions_one order (entries c) tx

pub pairs_of_content : (order : Order) (d : Direction) (c : Content) (tx : List ℕ) (n : ℕ) → all_pairs_by order d (entries (alone tx n c)) ≡ pairs_by order d tx (entries c)
pairs_of_content order d c tx n = ap (all_pairs_by order d) (entries_alone tx c.events) ∙ all_pairs_own order d tx (entries c)

pub period_energy : (order : Order) (d : Direction) (period : Periods) (quarter : ℕ) (c : Content)
    → energy_in_by order d period quarter (entries c) ≡ sum_of_energies (map (λ tx. energy_in_by order d period quarter (entries (alone tx 0 c))) (transactions c))
period_energy order d period quarter c =
    ap (energy_within period quarter) (all_pairs order d (entries c) (finite.entries_sorted c.events))
    ∙ within_pieces period quarter (λ tx. all_pairs_by order d (own_events tx (entries c))) (transactions c)
    ∙ ap sum_of_energies (map_same _ _ (λ tx. ap (energy_in_by order d period quarter) (sym (entries_alone tx c.events))) (transactions c))

pub evse_energies : (order : Order) (d : Direction) (evse : ℕ) (c : Content)
    → energy_at_by order d evse (entries c) ≡ sum_of_energies (map (λ tx. energy_at_by order d evse (entries (alone tx 0 c))) (transactions c))
evse_energies order d evse c =
    evse_energy order (entries c) evse d (finite.entries_sorted c.events)
    ∙ ap sum_of_energies (map_same _ _ (λ tx. ap (energy_at_by order d evse) (sym (entries_alone tx c.events))) (transactions c))

pub content_figures : (order : Order) (c : Content) → figures_by order (entries c) ≡ sum_of_figures (map (λ tx. figures_by order (entries (alone tx 0 c))) (transactions c))
content_figures order c =
    figures_sum order (entries c) (finite.entries_sorted c.events)
    ∙ ap sum_of_figures (map_same _ _ (λ tx. ap (figures_by order) (sym (entries_alone tx c.events))) (transactions c))
