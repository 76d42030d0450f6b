-- Pairs along readings, one reading after the other.
use Rattle.std.{proofs.Common.{◌≡◌, ℕ, ◌+◌, ◌*◌, ◌≤◌, List, [], ◌∷◌, ◌++◌, length, drop, get_or, take, ◌-◌, refl, sym, ap, ◌∙◌, arith, length-append}, proofs.lemmas.List.{drop_more, map-append, append_assoc, take_rest}, proofs.lemmas.List.Sums.sum_by-append, specs.List.sum_by}
use Rattle.energy_flow.specs.Flow.{Energy, plus}
use Rattle.ledger_model.{proofs.EnergyLemmas.same_energy, specs.Periods.Periods, specs.Board.Flowed, specs.Energy.{Pair, difference, energy_over, quarter_of}, specs.ByDirection.flows_toward, specs.declared.reading.Direction.Direction, specs.Event.{MeterReading, toward}, specs.Ranges.greatest_reading}
use Rattle.quarter_table.{specs.declared.row.QuarterRow.QuarterRow, specs.Rows.{row_at, set_row, without_pair}, specs.Pairs.{rows_of, rows_without}, specs.Table.Table, proofs.Several.rows_with-append}
use Rattle.station_ledger.{specs.declared.pairs.Way.Way, specs.declared.pairs.Way.TheVariants.{Coming, Going}, specs.Quarters.{DidMove, MayMove, quartered, rows_moved}, proofs.Rows.{room_fewer, rows_more, rows_less}}

pub quartered-append : (period : Periods) (d : Direction) (ps qs : List Pair) → quartered period d (ps ++ qs) ≡ quartered period d ps ++ quartered period d qs
quartered-append period d ps qs = map-append (λ p. (quarter_of period p, flows_toward d (difference p))) ps qs

pub rows_without-append : (fs gs : List Flowed) (rows : List QuarterRow) → rows_without (fs ++ gs) rows ≡ rows_without gs (rows_without fs rows)
rows_without-append [] gs rows = refl
rows_without-append (f ∷ fs) gs rows = rows_without-append fs gs (set_row (without_pair f.1 (row_at f.0 rows)) rows)

-- elements with a first one
pub first_and_rest : {X : Type 0} (left rest : List X) (r d : X) → 1 ≤ length left → r ≡ get_or left 0 d → rest ≡ drop 1 left → left ≡ r ∷ rest
first_and_rest left rest r d some is after = drop_more left 0 d some ∙ (λ i. sym is i ∷ sym after i)

-- as a pattern takes them apart
pub first_and_more : {X : Type 0} (left : List X) (r : X) → 1 ≤ length left → r ≡ get_or left 0 r → left ≡ r ∷ take (length left - 1) (drop 1 left)
first_and_more left r some is = first_and_rest left (take (length left - 1) (drop 1 left)) r r some is (take_rest left 1)

-- those of the direction of the first one
pub toward_first : (d : Direction) (left rest : List MeterReading) (r : MeterReading) → left ≡ r ∷ rest → r.direction ≡ d → toward d left ≡ r ∷ toward d rest
toward_first d left rest r is same = ap (toward d) is ∙ grind (arith, same)

-- those of another direction
pub toward_rest : (d : Direction) (left rest : List MeterReading) (r : MeterReading) → left ≡ r ∷ rest → (r.direction ≡ d → ⊥) → toward d left ≡ toward d rest
toward_rest d left rest r is other = ap (toward d) is ∙ grind (arith, other)

-- Pairs of a direction that come or go one after the other, while some are left.
pub record IsMoving (way : Way) (period : Periods) (d : Direction) (ps left : List Pair) (old t : Table) (before work : ℕ) (sum : Energy) : Type 0 where
  pub may : MayMove way period d left t
  pub flow : plus sum (energy_over left) ≡ energy_over ps
  pub up : sum.up + greatest_reading * length left ≤ greatest_reading * length ps
  pub down : sum.down + greatest_reading * length left ≤ greatest_reading * length ps
  pub rows : rows_moved way (quartered period d left) t.rows ≡ rows_moved way (quartered period d ps) old.rows
  pub capacity : t.capacity ≡ old.capacity
  pub spent : work + length left ≤ before + length ps
  pub grows : before ≤ work

-- the first of the pairs that are left, and those after them
length_is : {left : List Pair} (one more : List Pair) → left ≡ one ++ more → length left ≡ length one + length more
length_is one more split = ap length split ∙ length-append one more

energy_is : {left : List Pair} (one more : List Pair) (sum flow next : Energy) → left ≡ one ++ more → flow ≡ energy_over one
    → next ≡ plus sum flow → plus next (energy_over more) ≡ plus sum (energy_over left)
energy_is {left = left} one more sum flow next split is put =
    let all = λ (f : Pair → ℕ). ap (sum_by f) split ∙ sum_by-append f one more in
    same_energy _ _ (omega (arith, all (λ p. (difference p).up), ap (λ (e : Energy). e.up) is, ap (λ (e : Energy). e.up) put))
    (omega (arith, all (λ p. (difference p).down), ap (λ (e : Energy). e.down) is, ap (λ (e : Energy). e.down) put))

quartered_is : (period : Periods) (d : Direction) {left : List Pair} (one more : List Pair) → left ≡ one ++ more → quartered period d left ≡ quartered period d one ++ quartered period d more
quartered_is period d one more split = ap (quartered period d) split ∙ quartered-append period d one more

regrouped : (period : Periods) (d : Direction) {left : List Pair} (one more : List Pair) (others : List Flowed)
    → left ≡ one ++ more
    → rows_of (quartered period d left ++ others) ≡ rows_of (quartered period d one ++ (quartered period d more ++ others))
regrouped period d one more others split = ap (λ fs. rows_of (fs ++ others)) (quartered_is period d one more split)
    ∙ ap rows_of (append_assoc (quartered period d one) (quartered period d more) others)

pub rows_moved-append : (way : Way) (fs gs : List Flowed) (rows : List QuarterRow) → rows_moved way (fs ++ gs) rows ≡ rows_moved way gs (rows_moved way fs rows)
rows_moved-append Coming fs gs rows = rows_with-append fs gs rows
rows_moved-append Going fs gs rows = rows_without-append fs gs rows

module _ (period : Periods) (d : Direction) {left : List Pair} (one more : List Pair) (t : Table) (split : left ≡ one ++ more) where
  -- the first of them may come or go
  pub may_first : (way : Way) → MayMove way period d left t → MayMove way period d one t
  may_first Coming may = room_fewer may (omega (arith, length_is one more split))
  may_first Going may = (quartered period d more ++ may.0, may.1 ∙ regrouped period d one more may.0 split)

  -- and then those after them
  may_rest : (way : Way) {new : Table} {work after : ℕ} {flow : Energy} → MayMove way period d left t → DidMove way period d one t new work after flow → MayMove way period d more new
  may_rest Coming may e = (quartered period d one ++ may.0, rows_more period d may.0 (length left) (length more) may.1 (sym (length_is one more split)) e.sum e.quarters)
  may_rest Going may e = (may.0, rows_less (quartered period d more ++ may.0) (may.1 ∙ regrouped period d one more may.0 split) e.quarters)

module _ {way : Way} {period : Periods} {d : Direction} {ps left one more : List Pair} {old t new : Table} {before work after : ℕ} {sum flow next : Energy} where
  pub moving_one : left ≡ one ++ more → IsMoving way period d ps left old t before work sum → DidMove way period d one t new work after flow
      → next ≡ plus sum flow → IsMoving way period d ps more old new before after next
  moving_one split a e put = record {
    may = may_rest period d one more t split way a.may e;
    flow = energy_is one more sum flow next split e.sum.is put ∙ a.flow;
    up = omega (arith, a.up, e.sum.up, length_is one more split, ap (λ (f : Energy). f.up) put);
    down = omega (arith, a.down, e.sum.down, length_is one more split, ap (λ (f : Energy). f.down) put);
    rows = ap (rows_moved way (quartered period d more)) e.quarters.rows ∙ sym (rows_moved-append way (quartered period d one) (quartered period d more) t.rows)
        ∙ ap (λ fs. rows_moved way fs t.rows) (sym (quartered_is period d one more split)) ∙ a.rows;
    capacity = e.quarters.capacity ∙ a.capacity;
    spent = omega (arith, a.spent, e.work.bound, length_is one more split);
    grows = omega (arith, a.grows, e.work.grows);
  }
