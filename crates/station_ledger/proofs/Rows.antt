-- Rows of pairs that are small: what may be added to them, and taken out.
use Rattle.std.{proofs.Common.{◌≡◌, ℕ, ◌+◌, ◌*◌, ◌<◌, ◌≤◌, List, [], ◌∷◌, ◌++◌, length, sym, ap, subst, ◌∙◌, arith, length-append}, proofs.lemmas.List.length-map, proofs.lemmas.List.Sums.sum_by-append}
use Rattle.energy_flow.specs.Flow.{Energy, CanPlus}
use Rattle.ledger_model.{specs.Periods.Periods, specs.Board.Flowed, specs.ByDirection.{in_direction, flows_toward, CanPlusFlows, CanMinusFlows}, specs.declared.by_direction.ByDirection.ByDirection, specs.Energy.{Pair, difference, energy_over, quarter_of}, proofs.Callers.sum_by-map, proofs.SumLemmas.sum_by-none, specs.declared.reading.Direction.Direction, specs.declared.reading.Direction.TheVariants.{Import, Export}, specs.Ranges.{greatest_reading, most_readings}}
use Rattle.quarter_table.{specs.Table.Table, specs.Rows.row_at, specs.Pairs.{row_of, rows_of, rows_with, rows_without, total}, proofs.Held.{few_rows, few_pairs, row_up_le, row_down_le, pair_counted, pair_held, last_pair}, proofs.Made.made_row, proofs.Several.{made_with, made_without}}
use Rattle.station_ledger.{specs.declared.pairs.Way.TheVariants.{Coming, Going}, specs.Quarters.{IsDifference, AreRows, HasRoom, IsSumOf, IsTableMoved, quartered}}

-- The other direction.
abbrev pub other : Direction → Direction
other Import = Export
other Export = Import

-- pairs behind others add up with them
pub up_append : (d : Direction) (a b : List Flowed) → (in_direction d (total (a ++ b))).up ≡ (in_direction d (total a)).up + (in_direction d (total b)).up
up_append Import a b = sum_by-append (λ (f : Flowed). f.1.import.up) a b
up_append Export a b = sum_by-append (λ (f : Flowed). f.1.export.up) a b

pub down_append : (d : Direction) (a b : List Flowed) → (in_direction d (total (a ++ b))).down ≡ (in_direction d (total a)).down + (in_direction d (total b)).down
down_append Import a b = sum_by-append (λ (f : Flowed). f.1.import.down) a b
down_append Export a b = sum_by-append (λ (f : Flowed). f.1.export.down) a b

-- what pairs of a direction add up to is what their differences do
pub total_quartered : (period : Periods) (d : Direction) (ps : List Pair) → total (quartered period d ps) ≡ flows_toward d (energy_over ps)
total_quartered period Import ps =
    let shown : Pair → Flowed = λ p. (quarter_of period p, flows_toward Import (difference p)) in
    let up = sum_by-map (λ (f : Flowed). f.1.import.up) shown ps in
    let down = sum_by-map (λ (f : Flowed). f.1.import.down) shown ps in
    let export_up = sum_by-map (λ (f : Flowed). f.1.export.up) shown ps ∙ sum_by-none ps in
    let export_down = sum_by-map (λ (f : Flowed). f.1.export.down) shown ps ∙ sum_by-none ps in
    λ i. record { import = record { up = up i; down = down i }; export = record { up = export_up i; down = export_down i } }
total_quartered period Export ps =
    let shown : Pair → Flowed = λ p. (quarter_of period p, flows_toward Export (difference p)) in
    let export_up = sum_by-map (λ (f : Flowed). f.1.export.up) shown ps in
    let export_down = sum_by-map (λ (f : Flowed). f.1.export.down) shown ps in
    let up = sum_by-map (λ (f : Flowed). f.1.import.up) shown ps ∙ sum_by-none ps in
    let down = sum_by-map (λ (f : Flowed). f.1.import.down) shown ps ∙ sum_by-none ps in
    λ i. record { import = record { up = up i; down = down i }; export = record { up = export_up i; down = export_down i } }

-- in each direction
pub up_quartered : (k : Direction) (period : Periods) (d : Direction) (ps : List Pair) → (in_direction k (total (quartered period d ps))).up ≡ (in_direction k (flows_toward d (energy_over ps))).up
up_quartered k period d ps = ap (λ (e : ByDirection Energy). (in_direction k e).up) (total_quartered period d ps)

pub down_quartered : (k : Direction) (period : Periods) (d : Direction) (ps : List Pair)
    → (in_direction k (total (quartered period d ps))).down ≡ (in_direction k (flows_toward d (energy_over ps))).down
down_quartered k period d ps = ap (λ (e : ByDirection Energy). (in_direction k e).down) (total_quartered period d ps)

pub long : (period : Periods) (d : Direction) (ps : List Pair) → length (quartered period d ps) ≡ length ps
long period d ps = length-map {B = Flowed} ps (λ p. (quarter_of period p, flows_toward d (difference p)))

module _ {t : Table} {more : ℕ} (has : HasRoom more t) where
  pub room_for_row : 0 < more → length t.rows < t.capacity
  room_for_row some = let n = ap length has.1.rows in omega (arith, n, few_rows has.0, has.1.room)

  row_is : (q : ℕ) → row_at q t.rows ≡ row_of q has.0
  row_is q = ap (row_at q) has.1.rows ∙ made_row q has.0

  few_in_row : (q : ℕ) → (row_at q t.rows).pairs ≤ most_readings
  few_in_row q = subst (λ r. r.pairs ≤ most_readings) (sym (row_is q)) (omega (arith, few_pairs q has.0, has.1.room, has.1.few))

  pub room_for_pair : (q : ℕ) → (row_at q t.rows).pairs + 1 < 4294967296
  room_for_pair q = omega (arith, few_in_row q)

  pub room_for_flow : (q : ℕ) (d : Direction) (flow : Energy) → IsDifference flow → CanPlusFlows (row_at q t.rows).energy (flows_toward d flow)
  room_for_flow q d flow small =
      let fits : (k : Direction) → CanPlus (in_direction k (row_of q has.0).energy) (in_direction k (flows_toward d flow)) = λ k. record {
        up = grind (arith, row_up_le k q has.0, has.1.up k, small.up);
        down = grind (arith, row_down_le k q has.0, has.1.down k, small.down);
      } in
      subst (λ r. CanPlusFlows r.energy (flows_toward d flow)) (sym (row_is q)) (record { import = fits Import; export = fits Export })

-- a table with a pair of this period and this flow: it may be taken out
pub record HasPair (q : ℕ) (flow : ByDirection Energy) (t : Table) : Type 0 where
  pub others : List Flowed
  pub is : t.rows ≡ rows_of ((q, flow) ∷ others)

module _ {q : ℕ} {flow : ByDirection Energy} {t : Table} (h : HasPair q flow t) where
  pub there : 0 < (row_at q t.rows).pairs
  there = subst (λ rows. 0 < (row_at q rows).pairs) (sym h.is) (pair_counted [] q flow h.others)

  pub held : CanMinusFlows (row_at q t.rows).energy flow
  held = subst (λ rows. CanMinusFlows (row_at q rows).energy flow) (sym h.is) (pair_held [] q flow h.others)

  pub last : (row_at q t.rows).pairs ≡ 1 → (row_at q t.rows).energy ≡ flow
  last = subst (λ rows. (row_at q rows).pairs ≡ 1 → (row_at q rows).energy ≡ flow) (sym h.is) (last_pair [] q flow h.others)

-- the rows with several pairs more
pub rows_more : (period : Periods) (d : Direction) {ps : List Pair} {e : Energy} {t new : Table} (others : List Flowed) (more less : ℕ) → AreRows others more t → length ps + less ≡ more
    → IsSumOf ps e → IsTableMoved Coming (quartered period d ps) t new → AreRows (quartered period d ps ++ others) less new
rows_more period d {ps = ps} {t = t} {new = new} others more less was n sum put =
    let mine = quartered period d ps in
    let all = energy_over ps in
    let up : all.up ≤ greatest_reading * length ps = omega (arith, sum.up, ap (λ (f : Energy). f.up) sum.is) in
    let down : all.down ≤ greatest_reading * length ps = omega (arith, sum.down, ap (λ (f : Energy). f.down) sum.is) in
    record {
      rows = put.rows ∙ ap (rows_with mine) was.rows ∙ made_with mine others;
      room = omega (arith, was.room, length-append mine others, put.capacity, n, long period d ps);
      up = λ k. grind (arith, was.up k, up_append k mine others, up_quartered k period d ps, up, n);
      down = λ k. grind (arith, was.down k, down_append k mine others, down_quartered k period d ps, down, n);
      few = omega (arith, was.few, put.capacity);
    }

-- the rows with several pairs less
pub rows_less : {ps : List Flowed} {t new : Table} (others : List Flowed) → t.rows ≡ rows_of (ps ++ others) → IsTableMoved Going ps t new → new.rows ≡ rows_of others
rows_less {ps = ps} others is taken = taken.rows ∙ ap (rows_without ps) is ∙ made_without ps others

-- fewer of the pairs for which there is room
pub room_fewer : {more less : ℕ} {t : Table} → HasRoom more t → less ≤ more → HasRoom less t
room_fewer has le = (has.0, record { rows = has.1.rows; room = omega (arith, has.1.room, le); up = λ k. omega (arith, has.1.up k, le); down = λ k. omega (arith, has.1.down k, le); few = has.1.few })

-- there is room for few
pub few_room : {more : ℕ} {t : Table} → HasRoom more t → more ≤ most_readings
few_room has = omega (arith, has.1.room, has.1.few)
