-- What the rows of pairs hold: no more than the pairs, and each of them.
use Rattle.std.{proofs.Common.{refl, not, eqb, nat_lt, ◌≡◌, ℕ, ◌+◌, ◌<◌, ◌≤◌, ◌==◌, Bool, List, [], ◌∷◌, ◌++◌, length, map, sym, ap, ◌∙◌, subst, arith}, specs.List.{filter, sum_by}, proofs.lemmas.Bool.cond_both, proofs.lemmas.List.length-map, proofs.lemmas.List.Filters.sum_by-filter_both, proofs.lemmas.List.Sums.{length-filter, count_by-le-length}}
use Rattle.energy_flow.specs.Flow.{Energy}
use Rattle.ledger_model.{specs.ByDirection.{in_direction, plus_flows, CanMinusFlows}, specs.declared.by_direction.ByDirection.ByDirection, specs.declared.reading.Direction.Direction, specs.declared.reading.Direction.TheVariants.{Import, Export}, specs.Board.Flowed, specs.Energy.{put_in, rising}}
use Rattle.quarter_table.{specs.declared.row.QuarterRow.QuarterRow, specs.Rows.{no_row, row_at, with_pair}, specs.Pairs.{total, row_of, rows_of}, proofs.Parts.plus_none, proofs.Made.{made_row, none_made, row_with_pair}}

-- A number put in makes a list longer by one at most.
length-put_in : (n : ℕ) (ms : List ℕ) → length (put_in n ms) ≤ length ms + 1
length-put_in n [] = omega arith
length-put_in n (m ∷ ms) =
    cond_both (eqb n m) _ _ (λ ks. length ks ≤ length (m ∷ ms) + 1) (λ same. omega arith)
    (λ apart. cond_both (nat_lt n m) _ _ (λ ks. length ks ≤ length (m ∷ ms) + 1) (λ below. omega arith) (λ above. omega (arith, length-put_in n ms)))

length-rising : (ns : List ℕ) → length (rising ns) ≤ length ns
length-rising [] = omega arith
length-rising (n ∷ ns) = omega (arith, length-put_in n (rising ns), length-rising ns)

-- There are no more rows than pairs.
pub few_rows : (fs : List Flowed) → length (rows_of fs) ≤ length fs
few_rows fs =
    let qs = map (λ (f : Flowed). f.0) fs in
    let rows : length (rows_of fs) ≡ length (rising qs) = simp length-map in
    let all : length qs ≡ length fs = simp length-map in
    omega (arith, rows, all, length-rising qs)

-- A row counts no more pairs than there are.
pub few_pairs : (q : ℕ) (fs : List Flowed) → (row_of q fs).pairs ≤ length fs
few_pairs q fs = omega (arith, length-filter (λ (f : Flowed). f.0 == q) fs, count_by-le-length (λ (f : Flowed). f.0 == q) fs)

-- A sum over some is no more than that over all.
part_le : (measure : Flowed → ℕ) (p : Flowed → Bool) (fs : List Flowed) → sum_by measure (filter p fs) ≤ sum_by measure fs
part_le measure p fs = omega (arith, sum_by-filter_both p (λ f. not (p f)) (λ f. refl) measure fs)

-- A row adds up to no more than all pairs do.
pub row_up_le : (d : Direction) (q : ℕ) (fs : List Flowed) → (in_direction d (row_of q fs).energy).up ≤ (in_direction d (total fs)).up
row_up_le Import q fs = part_le (λ f. f.1.import.up) (λ f. f.0 == q) fs
row_up_le Export q fs = part_le (λ f. f.1.export.up) (λ f. f.0 == q) fs

pub row_down_le : (d : Direction) (q : ℕ) (fs : List Flowed) → (in_direction d (row_of q fs).energy).down ≤ (in_direction d (total fs)).down
row_down_le Import q fs = part_le (λ f. f.1.import.down) (λ f. f.0 == q) fs
row_down_le Export q fs = part_le (λ f. f.1.export.down) (λ f. f.0 == q) fs

-- The row that a pair is in.
abbrev its_row : List Flowed → ℕ → ByDirection Energy → List Flowed → QuarterRow
its_row front q flow back = row_at q (rows_of (front ++ (q, flow) ∷ back))

its_row_is : (front : List Flowed) (q : ℕ) (flow : ByDirection Energy) (back : List Flowed) → its_row front q flow back ≡ with_pair flow (row_of q (front ++ back))
its_row_is front q flow back = made_row q (front ++ (q, flow) ∷ back) ∙ row_with_pair front q flow back

-- The row of a pair that is there counts it.
pub pair_counted : (front : List Flowed) (q : ℕ) (flow : ByDirection Energy) (back : List Flowed) → 0 < (its_row front q flow back).pairs
pair_counted front q flow back = subst (λ (r : QuarterRow). 0 < r.pairs) (sym (its_row_is front q flow back)) (omega arith)

-- Its sums hold the pair's difference.
pub pair_held : (front : List Flowed) (q : ℕ) (flow : ByDirection Energy) (back : List Flowed) → CanMinusFlows (its_row front q flow back).energy flow
pair_held front q flow back =
    subst (λ (r : QuarterRow). CanMinusFlows r.energy flow) (sym (its_row_is front q flow back))
    (record { import = record { up = omega arith; down = omega arith }; export = record { up = omega arith; down = omega arith } })

-- Where no other pair is left, the others make no row.
none_else : (front : List Flowed) (q : ℕ) (flow : ByDirection Energy) (back : List Flowed) → (its_row front q flow back).pairs ≡ 1 → row_of q (front ++ back) ≡ no_row q
none_else front q flow back one =
    let counted : (row_of q (front ++ back)).pairs + 1 ≡ 1 = sym (ap (λ (r : QuarterRow). r.pairs) (its_row_is front q flow back)) ∙ one in
    none_made q (front ++ back) (omega arith)

-- The sums are all of it then.
pub last_pair : (front : List Flowed) (q : ℕ) (flow : ByDirection Energy) (back : List Flowed) → (its_row front q flow back).pairs ≡ 1 → (its_row front q flow back).energy ≡ flow
last_pair front q flow back one =
    ap (λ (r : QuarterRow). r.energy) (its_row_is front q flow back) ∙ ap (λ (r : QuarterRow). plus_flows r.energy flow) (none_else front q flow back one) ∙ plus_none flow
