-- The board of a site is the sum of the boards of its stations' transactions.
use Rattle.std.{proofs.Common.{◌≡◌, ◌⊎◌, inl, inr, ℕ, ◌+◌, Bool, true, false, cond, List, [], ◌∷◌, ◌++◌, map, refl, sym, ap, subst, ◌∙◌, eqb, arith}, specs.List.flat_map, proofs.lemmas.Bool.{eqb-true, false≢true}, proofs.lemmas.Bool.Decides.eqb_tells, proofs.lemmas.List.Folds.flat_map-map}
use Rattle.energy_flow.specs.Flow.{Energy}
use Rattle.ledger_model.{specs.Board.{Board, Flowed, board_by, flows_under, plus_figures, site_board, sum_of_figures}, specs.BoardLaws.{AreRising, IsIn}, specs.ByDirection.{no_flows, plus_flows}, specs.Content.entries, specs.declared.by_direction.ByDirection.ByDirection, specs.declared.figures.Figures.Figures, specs.declared.order.Order.Order, specs.Energy.rising, specs.Figures.no_figures, specs.Periods.Periods, specs.World.{Station, World}, proofs.SumLemmas.{rising-AreRising, rising-IsIn}}
use Rattle.transaction_laws.{specs.BoardSums.added_up, specs.SiteSums.{StationBoards, boards_alone, station_sum, sum_of_stations}, proofs.LoneBoards.{content_board, map_itself, map_same, map_twice, nothing_more}, proofs.LonePairs.{flat_map_twice, map_pieces}, proofs.RisingLists.{above, in_pieces, rising_alike, tail}}

-- sums of energies
flows_apart : (a b c : ByDirection Energy) → plus_flows (plus_flows a b) c ≡ plus_flows a (plus_flows b c)
flows_apart a b c =
    let iu : (a.import.up + b.import.up) + c.import.up ≡ a.import.up + (b.import.up + c.import.up) = omega arith in
    let id : (a.import.down + b.import.down) + c.import.down ≡ a.import.down + (b.import.down + c.import.down) = omega arith in
    let xu : (a.export.up + b.export.up) + c.export.up ≡ a.export.up + (b.export.up + c.export.up) = omega arith in
    let xd : (a.export.down + b.export.down) + c.export.down ≡ a.export.down + (b.export.down + c.export.down) = omega arith in
    λ i. record { import = record { up = iu i; down = id i }; export = record { up = xu i; down = xd i } }

and_nothing : (f : ByDirection Energy) → plus_flows f no_flows ≡ f
and_nothing f =
    let iu : f.import.up + 0 ≡ f.import.up = omega arith in
    let id : f.import.down + 0 ≡ f.import.down = omega arith in
    let xu : f.export.up + 0 ≡ f.export.up = omega arith in
    let xd : f.export.down + 0 ≡ f.export.down = omega arith in
    λ i. record { import = record { up = iu i; down = id i }; export = record { up = xu i; down = xd i } }

-- the numbers of lines
abbrev numbers_in : List Flowed → List ℕ
numbers_in lines = map (λ (line : Flowed). line.0) lines

abbrev each_with : (ℕ → ByDirection Energy) → List ℕ → List Flowed
each_with f ns = map (λ n. (n, f n)) ns

module _ (k : ℕ) where
  -- lines behind lines
  under_both : (xs ys : List Flowed) → flows_under k (xs ++ ys) ≡ plus_flows (flows_under k xs) (flows_under k ys)
  under_both [] ys = sym (nothing_more (flows_under k ys))
  under_both (x ∷ xs) ys = by_case (eqb x.0 k) (under_both xs ys)
    where
      by_case : (b : Bool) → flows_under k (xs ++ ys) ≡ plus_flows (flows_under k xs) (flows_under k ys)
          → cond b (plus_flows x.1 (flows_under k (xs ++ ys))) (flows_under k (xs ++ ys)) ≡ plus_flows (cond b (plus_flows x.1 (flows_under k xs)) (flows_under k xs)) (flows_under k ys)
      by_case true rest = ap (plus_flows x.1) rest ∙ sym (flows_apart x.1 (flows_under k xs) (flows_under k ys))
      by_case false rest = rest

  -- a number is in a list, or not
  in_or_not : (ns : List ℕ) → IsIn k ns ⊎ (IsIn k ns → ⊥)
  in_or_not [] = inr (λ h. h)
  in_or_not (n ∷ ns) = elim (eqb_tells k n) [
    | inl same ↦ inl (inl same.1)
    | inr apart ↦ elim (in_or_not ns) [ inl there ↦ inl (inr there) | inr none ↦ inr (λ h. elim h [ inl here ↦ apart.1 here | inr there ↦ none there ]) ]
  ]

  -- no line of the number
  under_none : (lines : List Flowed) → (IsIn k (numbers_in lines) → ⊥) → flows_under k lines ≡ no_flows
  under_none [] none = refl
  under_none (line ∷ lines) none = by_case (eqb line.0 k) (eqb-true line.0 k) (under_none lines (λ there. none (inr there)))
    where
      by_case : (b : Bool) → (b ≡ true → line.0 ≡ k) → flows_under k lines ≡ no_flows → cond b (plus_flows line.1 (flows_under k lines)) (flows_under k lines) ≡ no_flows
      by_case true same rest = absurd (none (inl (sym (same refl))))
      by_case false same rest = rest

  -- one line of the number
  under_one : (f : ℕ → ByDirection Energy) (ns : List ℕ) → AreRising ns → IsIn k ns → flows_under k (each_with f ns) ≡ f k
  under_one f [] up there = absurd there
  under_one f (n ∷ ns) up there = by_case (eqb n k) (eqb_tells n k) refl (λ more. under_one f ns (tail n ns up) more)
    where
      behind : n ≡ k → IsIn k ns → ⊥
      behind same more = let over = above n ns up k more in absurd (omega (arith, over, same))

      by_case : (b : Bool) → ((eqb n k ≡ true) × (n ≡ k)) ⊎ ((eqb n k ≡ false) × (n ≡ k → ⊥)) → eqb n k ≡ b → (IsIn k ns → flows_under k (each_with f ns) ≡ f k)
          → cond b (plus_flows (f n) (flows_under k (each_with f ns))) (flows_under k (each_with f ns)) ≡ f k
      by_case true (inl same) is rest = ap (plus_flows (f n)) (under_none (each_with f ns) (λ h. behind same.1 (subst (IsIn k) (map_itself f ns) h))) ∙ and_nothing (f n) ∙ ap f same.1
      by_case true (inr apart) is rest = absurd (false≢true (sym apart.0 ∙ is))
      by_case false (inl same) is rest = absurd (false≢true (sym is ∙ same.0))
      by_case false (inr apart) is rest = elim there [ inl here ↦ absurd (apart.1 (sym here)) | inr more ↦ rest more ]

  -- lines added up have what the lines have
  under_added : (lines : List Flowed) → flows_under k (added_up lines) ≡ flows_under k lines
  under_added lines = elim (in_or_not (numbers_in lines)) [
    | inl there ↦ under_one (λ n. flows_under n lines) (rising (numbers_in lines)) (rising-AreRising (numbers_in lines)) ((rising-IsIn k (numbers_in lines)).1 there)
    | inr none ↦
        under_none (added_up lines) (λ h. none ((rising-IsIn k (numbers_in lines)).0 (subst (IsIn k) (map_itself (λ n. flows_under n lines) (rising (numbers_in lines))) h)))
        ∙ sym (under_none lines none)
  ]

  under_pieces : {X : Type 0} (g : X → List Flowed) (xs : List X) → flows_under k (flat_map (λ x. added_up (g x)) xs) ≡ flows_under k (flat_map g xs)
  under_pieces g [] = refl
  under_pieces g (x ∷ xs) =
      under_both (added_up (g x)) (flat_map (λ y. added_up (g y)) xs)
      ∙ (λ i. plus_flows (under_added (g x) i) (under_pieces g xs i))
      ∙ sym (under_both (g x) (flat_map g xs))

module _ {X : Type 0} (g : X → List Flowed) (xs : List X) where
  -- the numbers of lines that are added up piece by piece
  same_numbers : rising (numbers_in (flat_map (λ x. added_up (g x)) xs)) ≡ rising (numbers_in (flat_map g xs))
  same_numbers =
      let first : X → List ℕ = λ x. numbers_in (added_up (g x)) in
      let second : X → List ℕ = λ x. numbers_in (g x) in
      let is : (x : X) → first x ≡ rising (second x) = λ x. map_itself (λ n. flows_under n (g x)) (rising (numbers_in (g x))) in
      (λ i. rising (map_pieces (λ (line : Flowed). line.0) (λ x. added_up (g x)) xs i))
      ∙ rising_alike (flat_map first xs) (flat_map second xs)
      (λ n there. in_pieces first second (λ x m h. (rising-IsIn m (second x)).0 (subst (IsIn m) (is x) h)) xs n there)
      (λ n there. in_pieces second first (λ x m h. subst (IsIn m) (sym (is x)) ((rising-IsIn m (second x)).1 h)) xs n there)
      ∙ sym (λ i. rising (map_pieces (λ (line : Flowed). line.0) g xs i))

  added_pieces : added_up (flat_map (λ x. added_up (g x)) xs) ≡ added_up (flat_map g xs)
  added_pieces =
      ap (each_with (λ n. flows_under n (flat_map (λ x. added_up (g x)) xs))) same_numbers
      ∙ map_same _ _ (λ n. ap (λ f. (n, f)) (under_pieces n g xs)) (rising (numbers_in (flat_map g xs)))

-- sums of figures
figures_apart : (a b c : Figures) → plus_figures (plus_figures a b) c ≡ plus_figures a (plus_figures b c)
figures_apart a b c =
    let apart : (m n k : ℕ) → (m + n) + k ≡ m + (n + k) = λ m n k. omega arith in
    λ i. record {
      events = apart a.events b.events c.events i;
      voided = apart a.voided b.voided c.voided i;
      transactions = apart a.transactions b.transactions c.transactions i;
      complete = apart a.complete b.complete c.complete i;
      missing = apart a.missing b.missing c.missing i;
      up = apart a.up b.up c.up i;
      down = apart a.down b.down c.down i;
      export_up = apart a.export_up b.export_up c.export_up i;
      export_down = apart a.export_down b.export_down c.export_down i;
    }

no_figures_more : (f : Figures) → plus_figures no_figures f ≡ f
no_figures_more f =
    let none : (n : ℕ) → 0 + n ≡ n = λ n. omega arith in
    λ i. record {
      events = none f.events i;
      voided = none f.voided i;
      transactions = none f.transactions i;
      complete = none f.complete i;
      missing = none f.missing i;
      up = none f.up i;
      down = none f.down i;
      export_up = none f.export_up i;
      export_down = none f.export_down i;
    }

figures_of_both : (xs ys : List Figures) → sum_of_figures (xs ++ ys) ≡ plus_figures (sum_of_figures xs) (sum_of_figures ys)
figures_of_both [] ys = sym (no_figures_more (sum_of_figures ys))
figures_of_both (x ∷ xs) ys = ap (plus_figures x) (figures_of_both xs ys) ∙ sym (figures_apart x (sum_of_figures xs) (sum_of_figures ys))

figures_of_pieces : {X : Type 0} (h : X → List Figures) (xs : List X) → sum_of_figures (map (λ x. sum_of_figures (h x)) xs) ≡ sum_of_figures (flat_map h xs)
figures_of_pieces h [] = refl
figures_of_pieces h (x ∷ xs) = ap (plus_figures (sum_of_figures (h x))) (figures_of_pieces h xs) ∙ sym (figures_of_both (h x) (flat_map h xs))

-- a site over stations whose boards are sums
pub site_of_sums : (period : Periods) (stations : List StationBoards) → site_board period (map (station_sum period) stations) ≡ sum_of_stations period stations
site_of_sums period stations =
    let all : StationBoards → List Board = λ s. s.1 in
    let figures =
    ap sum_of_figures (map_twice (λ (s : List ℕ × Board). s.1.figures) (station_sum period) stations)
    ∙ figures_of_pieces (λ (s : StationBoards). map (λ (b : Board). b.figures) s.1) stations
    ∙ ap sum_of_figures (sym (map_pieces (λ (b : Board). b.figures) all stations)) in
    let quarters =
    ap added_up (flat_map-map (λ (s : List ℕ × Board). s.1.quarters) (station_sum period) stations)
    ∙ added_pieces (λ (s : StationBoards). flat_map (λ (b : Board). b.quarters) s.1) stations
    ∙ ap added_up (sym (flat_map_twice (λ (b : Board). b.quarters) all stations)) in
    λ i. record { period = period; figures = figures i; quarters = quarters i; stations = map (station_sum period) stations }

-- a site by the transactions of its stations
pub site_of_transactions : (order : Order) (period : Periods) (stations : World)
    → site_board period (map (λ (s : Station). (s.name, board_by order period (entries s.content))) stations) ≡ sum_of_stations period (map (boards_alone order period) stations)
site_of_transactions order period stations =
    ap (site_board period) (map_same _ _ (λ (s : Station). ap (λ b. (s.name, b)) (content_board order period s.content)) stations
    ∙ sym (map_twice (station_sum period) (boards_alone order period) stations))
    ∙ site_of_sums period (map (boards_alone order period) stations)
