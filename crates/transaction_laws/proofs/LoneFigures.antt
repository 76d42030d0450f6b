-- The figures of a station are the sums of those of its transactions.
use Rattle.std.{proofs.Common.{◌≡◌, ℕ, ◌+◌, ◌==◌, ◌&&◌, Bool, true, false, cond, not, ◌||◌, List, [], ◌∷◌, All, map, length, refl, sym, ap, ◌∙◌, bytes_eq, arith}, specs.List.{count_by, sum_by}, proofs.Math.Path.fun_ext, proofs.lemmas.Bool.or_right, proofs.lemmas.List.Elements.{All-nil, All-cons}, proofs.lemmas.List.Recursion.is_sum_by, proofs.lemmas.List.Sums.{length-filter, sum_by-cons}}
use Rattle.ledger_model.{specs.Board.{figures_by, sum_of_figures}, specs.Complete.{is_complete, starts_and_ends}, specs.Content.{Entry, has_transaction, live, transactions_of}, specs.declared.figures.Figures.Figures, specs.declared.order.Order.Order, specs.declared.reading.Direction.Direction, specs.declared.reading.Direction.TheVariants.{Import, Export}, specs.Deltas.own_events, specs.Energy.{Pair, all_pairs_by, difference}, specs.Entries.IsRising, specs.Gaps.{missing, numbers_of}, proofs.SumLemmas.{passed_sum, sum_by-const, sum_by-flat_map, sum_by-same, sum_by_keys}, proofs.SumsByTransaction.{once, same_text}, proofs.Transactions.{any-map, ids}}
use Rattle.transaction_laws.{proofs.LoneEntries.{live_of_own, live_transactions, turned_text}, proofs.LonePairs.{all_pairs, shown_own}}

-- each entry belongs to one transaction of those that are listed
listed_once : (es : List Entry) (e : Entry) → has_transaction e.0.tx es ≡ true → count_by (λ t. bytes_eq t e.0.tx) (transactions_of es) ≡ 1
listed_once es e there =
    ap (λ p. count_by p (transactions_of es)) (fun_ext (λ t. turned_text t e.0.tx))
    ∙ once 1 e.0.tx (ids es) ∙ ap (λ b. cond b 1 0) (any-map e.0.tx es ∙ there)

all_once : (es fs : List Entry) → ((t : List ℕ) → has_transaction t fs ≡ true → has_transaction t es ≡ true) → All (λ e. count_by (λ t. bytes_eq t e.0.tx) (transactions_of es) ≡ 1) fs
all_once es [] there = All-nil (λ e. count_by (λ t. bytes_eq t e.0.tx) (transactions_of es) ≡ 1)
all_once es (f ∷ fs) there = All-cons (λ e. count_by (λ t. bytes_eq t e.0.tx) (transactions_of es) ≡ 1) f fs
    (listed_once es f (there f.0.tx (ap (λ b. b || has_transaction f.0.tx fs) (same_text f.0.tx))))
    (all_once es fs (λ t is. there t (or_right (bytes_eq t f.0.tx) (has_transaction t fs) is)))

-- a sum over all entries, transaction by transaction
pub sum_own : (f : Entry → ℕ) (es : List Entry) → sum_by f es ≡ sum_by (λ t. sum_by f (own_events t es)) (transactions_of es)
sum_own f es = sym (sum_by_keys f (λ t (e : Entry). bytes_eq t e.0.tx) (transactions_of es) es (all_once es es (λ t is. is)))

-- a sum over the transactions with a live event, transaction by transaction
pub sum_shown : (g : List ℕ → List Entry → ℕ) (es : List Entry) → ((t : List ℕ) → g t (own_events t es) ≡ g t es) → IsRising es
    → sum_by (λ tx. g tx es) (transactions_of (live es)) ≡ sum_by (λ t. sum_by (λ tx. g tx (own_events t es)) (transactions_of (live (own_events t es)))) (transactions_of es)
sum_shown g es same rising =
    ap (sum_by (λ tx. g tx es)) (live_transactions es rising)
    ∙ passed_sum (λ tx. g tx es) (λ t. has_transaction t (live es)) (transactions_of es)
    ∙ sym (sum_by-same _ _ (λ t. ap (sum_by (λ tx. g tx (own_events t es))) (shown_own t es) ∙ one t (has_transaction t (live es))) (transactions_of es))
  where
    one : (t : List ℕ) (b : Bool) → sum_by (λ tx. g tx (own_events t es)) (cond b (t ∷ []) []) ≡ cond b (g t es) 0
    one t true = let whole = sum_by-cons (λ tx. g tx (own_events t es)) t [] in omega (arith, whole, same t)
    one t false = refl

module _ (order : Order) (es : List Entry) (rising : IsRising es) where
  events_sum : length (live es) ≡ sum_by (λ t. length (live (own_events t es))) (transactions_of es)
  events_sum =
      length-filter (λ (e : Entry). not e.1.voided) es
      ∙ sum_own (λ e. cond (not e.1.voided) 1 0) es
      ∙ sym (sum_by-same _ _ (λ t. length-filter (λ (e : Entry). not e.1.voided) (own_events t es)) (transactions_of es))

  counted : (xs : List (List ℕ)) → length xs ≡ sum_by (λ x. 1) xs
  counted xs = omega (arith, sum_by-const 1 xs)

  transactions_sum : length (transactions_of (live es)) ≡ sum_by (λ t. length (transactions_of (live (own_events t es)))) (transactions_of es)
  transactions_sum =
      counted (transactions_of (live es)) ∙ sum_shown (λ t es. 1) es (λ t. refl) rising
      ∙ sym (sum_by-same _ _ (λ t. counted (transactions_of (live (own_events t es)))) (transactions_of es))

  complete_own : (t : List ℕ) → is_complete t (own_events t es) ≡ is_complete t es
  complete_own t = ap (λ l. starts_and_ends (map (λ (e : Entry). e.1.event.kind) l) && (missing (map (λ (e : Entry). e.0.seq) l) == 0)) (live_of_own t es)

  missing_own : (t : List ℕ) → missing (numbers_of t (own_events t es)) ≡ missing (numbers_of t es)
  missing_own t = ap (λ l. missing (map (λ (e : Entry). e.0.seq) l)) (live_of_own t es)

  pairs_sum : (d : Direction) (f : Pair → ℕ) → sum_by f (all_pairs_by order d es) ≡ sum_by (λ t. sum_by f (all_pairs_by order d (own_events t es))) (transactions_of es)
  pairs_sum d f = ap (sum_by f) (all_pairs order d es rising) ∙ sum_by-flat_map f (λ t. all_pairs_by order d (own_events t es)) (transactions_of es)

  -- a figure of the sum is the sum of that figure
  total : (figure : Figures → ℕ) → figure (sum_of_figures []) ≡ 0 → ((f : Figures) (fs : List Figures) → figure (sum_of_figures (f ∷ fs)) ≡ figure f + figure (sum_of_figures fs))
      → sum_by (λ t. figure (figures_by order (own_events t es))) (transactions_of es) ≡ figure (sum_of_figures (map (λ t. figures_by order (own_events t es)) (transactions_of es)))
  total figure none more = sym (is_sum_by (λ xs. figure (sum_of_figures (map (λ t. figures_by order (own_events t es)) xs))) (λ t. figure (figures_by order (own_events t es))) none
      (λ x xs. more (figures_by order (own_events x es)) (map (λ t. figures_by order (own_events t es)) xs)) (transactions_of es))

  pub figures_sum : figures_by order es ≡ sum_of_figures (map (λ t. figures_by order (own_events t es)) (transactions_of es))
  figures_sum =
      let events = events_sum ∙ total (λ f. f.events) refl (λ f fs. refl) in
      let voided = sum_own (λ e. cond e.1.voided 1 0) es ∙ total (λ f. f.voided) refl (λ f fs. refl) in
      let transactions = transactions_sum ∙ total (λ f. f.transactions) refl (λ f fs. refl) in
      let complete = sum_shown (λ t es. cond (is_complete t es) 1 0) es (λ t. ap (λ b. cond b 1 0) (complete_own t)) rising ∙ total (λ f. f.complete) refl (λ f fs. refl) in
      let missed = sum_shown (λ t es. missing (numbers_of t es)) es missing_own rising ∙ total (λ f. f.missing) refl (λ f fs. refl) in
      let up = pairs_sum Import (λ p. (difference p).up) ∙ total (λ f. f.up) refl (λ f fs. refl) in
      let down = pairs_sum Import (λ p. (difference p).down) ∙ total (λ f. f.down) refl (λ f fs. refl) in
      let export_up = pairs_sum Export (λ p. (difference p).up) ∙ total (λ f. f.export_up) refl (λ f fs. refl) in
      let export_down = pairs_sum Export (λ p. (difference p).down) ∙ total (λ f. f.export_down) refl (λ f fs. refl) in
      λ i. record {
        events = events i;
        voided = voided i;
        transactions = transactions i;
        complete = complete i;
        missing = missed i;
        up = up i;
        down = down i;
        export_up = export_up i;
        export_down = export_down i;
      }
