-- The periods of a plan's boards have no more energy than its readings can show.
use Rattle.std.{proofs.Common.{◌≡◌, ℕ, ◌+◌, ◌*◌, ◌<◌, ◌≤◌, inl, inr, Bool, true, false, cond, List, [], ◌∷◌, ◌++◌, map, sym, ap, ◌∙◌, arith, eqb, ⊎_elim}, specs.List.{sum_by, filter}, proofs.lemmas.Bool.cases_eq, proofs.lemmas.List.Sums.sum_by-cons}
use Rattle.energy_flow.specs.Flow.{Energy}
use Rattle.ledger_model.{specs.Periods.Periods, specs.declared.order.Order.Order, specs.declared.reading.Direction.Direction, specs.declared.reading.Direction.TheVariants.{Import, Export}, specs.Board.{Board, Flowed, board_by, flows_under}, specs.BoardLaws.{AreRising, IsIn}, specs.Content.Entry, specs.declared.by_direction.ByDirection.ByDirection, specs.Energy.{flows_in_by, all_pairs_by, parts_of_both, parts_over, quarters_by, energy_by, energy_in_by}, specs.Limits.Bounds, specs.Ranges.{most_plan_readings, greatest_reading}, proofs.Callers.{sum_by-filter_cons, rising-AreRising}, specs.Parts.Part as Share, proofs.PartLemmas.{parts_down, parts_up}}
use Rattle.board_report.{specs.Plans.{IsBoardWithin, AreBoardsWithin}, specs.Sums.{station_quarters, QuartersFit}, proofs.SumLemmas.{Part, up, down, export_up, export_down, part_none, under-own, under-other, above_first}}

tail_rises : (m : ℕ) (ms : List ℕ) → AreRising (m ∷ ms) → AreRising ms
tail_rises m [] rise = tt
tail_rises m (k ∷ ms) rise = rise.1

module _ (p : Part) (e : ℕ → ByDirection Energy) where
  abbrev lines : List ℕ → List Flowed
  lines ks = map (λ k. (k, e k)) ks

  -- lines of other periods have nothing of a period
  under-others : (q : ℕ) (ks : List ℕ) → (IsIn q ks → ⊥) → p.measure (flows_under q (lines ks)) ≡ 0
  under-others q [] none = part_none p
  under-others q (k ∷ ks) none = ap p.measure (under-other (k, e k) (lines ks) q (λ same. none (inl (sym same)))) ∙ under-others q ks (λ h. none (inr h))

  -- lines of rising periods have that of one line
  under-rising : (q : ℕ) (ks : List ℕ) → AreRising ks → p.measure (flows_under q (lines ks)) ≤ p.measure (e q)
  under-rising q [] rise = let none = part_none p in omega (arith, none)
  under-rising q (k ∷ ks) rise = ⊎_elim
      (λ (same : k ≡ q).
      let own = ap p.measure (under-own (k, e k) (lines ks) q same) in
      let here = ap (λ n. p.measure (e n)) same in
      let rest = under-others q ks (λ h. let above : k < q = above_first k ks rise q h in absurd (omega arith)) in
      omega (arith, own, p.plus_of (e k) (flows_under q (lines ks)), here, rest))
      (λ (apart : k ≡ q → ⊥).
      let other = ap p.measure (under-other (k, e k) (lines ks) q apart) in
      let rest = under-rising q ks (tail_rises k ks rise) in
      omega (arith, other, rest))
      (cases_eq k q)

-- some elements have no more than all
sum-filter : {X : Type 0} (f : X → ℕ) (p : X → Bool) (xs : List X) → sum_by f (filter p xs) ≤ sum_by f xs
sum-filter f p [] = omega arith
sum-filter f p (x ∷ xs) = omega (arith, sum_by-filter_cons f p x xs, sum_by-cons f x xs, sum-filter f p xs, part (p x) (f x))
  where
    part : (b : Bool) (n : ℕ) → cond b n 0 ≤ n
    part true n = omega arith
    part false n = omega arith

in_quarter_up : (order : Order) (d : Direction) (period : Periods) (q : ℕ) (es : List Entry) → (energy_in_by order d period q es).up ≤ (energy_by order d es).up
in_quarter_up order d period q es =
    let few = sum-filter (λ (t : Share). t.1.up) (λ t. eqb t.0 q) (parts_over period (all_pairs_by order d es)) in
    omega (arith, few, parts_up period (all_pairs_by order d es))

in_quarter_down : (order : Order) (d : Direction) (period : Periods) (q : ℕ) (es : List Entry) → (energy_in_by order d period q es).down ≤ (energy_by order d es).down
in_quarter_down order d period q es =
    let few = sum-filter (λ (t : Share). t.1.down) (λ t. eqb t.0 q) (parts_over period (all_pairs_by order d es)) in
    omega (arith, few, parts_down period (all_pairs_by order d es))

-- a board shows no more for a period than the period's parts add up to
under-board : (p : Part) (order : Order) (period : Periods) (q : ℕ) (es : List Entry) → p.measure (flows_under q (board_by order period es).quarters) ≤ p.measure (flows_in_by order period q es)
under-board p order period q es =
    under-rising p (λ quarter. flows_in_by order period quarter es) q (quarters_by order period es) (rising-AreRising (map (λ t. t.0) (parts_of_both order period es)))

-- in each direction, up and down
record EachPart (P : Part → Type 0) : Type 0 where
  pub of_up : P up
  pub of_down : P down
  pub of_export_up : P export_up
  pub of_export_down : P export_down

-- nor than its limits allow
abbrev Allows : ℕ → ByDirection Energy → Type 0
Allows readings f = EachPart (λ p. p.measure f ≤ greatest_reading * readings)

under-limits : (q : ℕ) (limits : Bounds) (b : Board) → IsBoardWithin limits b → Allows limits.readings (flows_under q b.quarters)
under-limits q limits b h =
    let es = h.entries in
    let same = ap (λ (c : Board). flows_under q c.quarters) h.is in
    let figures = ap (λ (c : Board). c.figures) h.is in
    let shown = λ (p : Part). under-board p h.order b.period q es in record {
      of_up = omega (arith, ap up.measure same, shown up, in_quarter_up h.order Import b.period q es, ap {B = ℕ} (λ f. f.up) figures, h.within.up);
      of_down = omega (arith, ap down.measure same, shown down, in_quarter_down h.order Import b.period q es, ap {B = ℕ} (λ f. f.down) figures, h.within.down);
      of_export_up = omega (arith, ap export_up.measure same, shown export_up, in_quarter_up h.order Export b.period q es, ap {B = ℕ} (λ f. f.export_up) figures, h.within.export_up);
      of_export_down = omega (arith, ap export_down.measure same, shown export_down, in_quarter_down h.order Export b.period q es, ap {B = ℕ} (λ f. f.export_down) figures, h.within.export_down);
    }

-- the energy of a period over two lists
under-append : (p : Part) (q : ℕ) (xs ys : List Flowed) → p.measure (flows_under q (xs ++ ys)) ≡ p.measure (flows_under q xs) + p.measure (flows_under q ys)
under-append p q [] ys = let none = part_none p in omega (arith, none)
under-append p q (x ∷ xs) ys =
    let rest = under-append p q xs ys in
    ⊎_elim
    (λ (same : x.0 ≡ q). omega
    (arith, ap p.measure (under-own x (xs ++ ys) q same), p.plus_of x.1 (flows_under q (xs ++ ys)), ap p.measure (under-own x xs q same), p.plus_of x.1 (flows_under q xs), rest))
    (λ (apart : x.0 ≡ q → ⊥). omega (arith, ap p.measure (under-other x (xs ++ ys) q apart), ap p.measure (under-other x xs q apart), rest))
    (cases_eq x.0 q)

abbrev readings_of_plan : List Bounds → ℕ
readings_of_plan plan = sum_by (λ (limits : Bounds). limits.readings) plan

under-plan : (q : ℕ) (plan : List Bounds) (stations : List (List ℕ × Board)) → AreBoardsWithin plan stations → Allows (readings_of_plan plan) (flows_under q (station_quarters stations))
under-plan q [] [] h = record { of_up = omega arith; of_down = omega arith; of_export_up = omega arith; of_export_down = omega arith }
under-plan q [] (s ∷ stations) h = absurd h
under-plan q (limits ∷ plan) [] h = absurd h
under-plan q (limits ∷ plan) (s ∷ stations) h =
    let one = under-limits q limits s.1 h.0 in
    let rest = under-plan q plan stations h.1 in
    let all = station_quarters (s ∷ stations) in
    let more = sum_by-cons (λ (l : Bounds). l.readings) limits plan in
    let step : (p : Part) → p.measure (flows_under q s.1.quarters) ≤ greatest_reading * limits.readings
    → p.measure (flows_under q (station_quarters stations)) ≤ greatest_reading * readings_of_plan plan
    → p.measure (flows_under q all) ≤ greatest_reading * readings_of_plan (limits ∷ plan) =
    λ p a b. omega (arith, under-append p q s.1.quarters (station_quarters stations), a, b, more) in
    record {
      of_up = step up one.of_up rest.of_up;
      of_down = step down one.of_down rest.of_down;
      of_export_up = step export_up one.of_export_up rest.of_export_up;
      of_export_down = step export_down one.of_export_down rest.of_export_down;
    }

-- the sums of each period fit for one plan
pub plans_fit : (plan : List Bounds) (stations : List (List ℕ × Board)) → readings_of_plan plan ≤ most_plan_readings → AreBoardsWithin plan stations → QuartersFit (station_quarters stations)
plans_fit plan stations few h = record {
  up = λ q. omega (arith, few, (under-plan q plan stations h).of_up);
  down = λ q. omega (arith, few, (under-plan q plan stations h).of_down);
  export_up = λ q. omega (arith, few, (under-plan q plan stations h).of_export_up);
  export_down = λ q. omega (arith, few, (under-plan q plan stations h).of_export_down);
}

-- one board more, within one more limits
pub AreBoardsWithin-more : (plan : List Bounds) (stations : List (List ℕ × Board)) (limits : Bounds) (s : List ℕ × Board)
    → AreBoardsWithin plan stations → IsBoardWithin limits s.1 → AreBoardsWithin (plan ++ limits ∷ []) (stations ++ s ∷ [])
AreBoardsWithin-more [] [] limits s h one = (one, tt)
AreBoardsWithin-more [] (t ∷ stations) limits s h one = absurd h
AreBoardsWithin-more (l ∷ plan) [] limits s h one = absurd h
AreBoardsWithin-more (l ∷ plan) (t ∷ stations) limits s h one = (h.0, AreBoardsWithin-more plan stations limits s h.1 one)
