-- Rows after several pairs, and after one event.
use Rattle.std.{proofs.Common.{◌≡◌, ℕ, ◌+◌, ◌<◌, List, [], ◌∷◌, ◌++◌, get_or, length, take, refl, sym, ap, ◌∙◌, arith}, specs.List.sum_by, proofs.lemmas.List.{map-append, take_more}, proofs.lemmas.List.Sums.sum_by-append}
use Rattle.ledger_model.{specs.Periods.Periods, specs.declared.reading.Direction.Direction, specs.declared.reading.Direction.TheVariants.{Import, Export}, specs.Board.Flowed, specs.Content.Entry, specs.Deltas.{IsOneMore, came_by, gone_by, kept_by}, specs.ByDirection.flows_toward, specs.Energy.{Pair, difference, pairs, quarter_of}, specs.Parts.Part, proofs.Callers.{sum_by-map, less_kept, more_kept}}
use Rattle.quarter_table.{specs.Pairs.{parts_toward, rows_of, rows_plus, rows_with, rows_without, flows_of, station_flows, gone_flows, came_flows}, specs.declared.row.QuarterRow.QuarterRow, proofs.Made.{made_added, made_removed, made_alike, moved_front}}

-- Those of two lists are added one list after the other.
pub rows_with-append : (fs gs : List Flowed) (rows : List QuarterRow) → rows_with (fs ++ gs) rows ≡ rows_with gs (rows_with fs rows)
rows_with-append [] gs rows = refl
rows_with-append (f ∷ fs) gs rows = rows_with-append fs gs (rows_plus f rows)

-- One part more is added.
pub part_more : (d : Direction) (parts : List Part) (i : ℕ) (t : Part) (old rows next : List QuarterRow) → i < length parts
    → t ≡ get_or parts i t → rows ≡ rows_with (parts_toward d (take i parts)) old → next ≡ rows_plus (t.0, flows_toward d t.1) rows
    → next ≡ rows_with (parts_toward d (take (i + 1) parts)) old
part_more d parts i t old rows next lt is was added =
    added ∙ ap (rows_plus (t.0, flows_toward d t.1)) was
    ∙ sym (rows_with-append (parts_toward d (take i parts)) (parts_toward d (t ∷ [])) old)
    ∙ ap (λ fs. rows_with fs old) (sym (map-append (λ (u : Part). (u.0, flows_toward d u.1)) (take i parts) (t ∷ [])))
    ∙ ap (λ us. rows_with (parts_toward d us) old) (sym (take_more parts i t lt ∙ ap (λ u. take i parts ++ u ∷ []) (sym is)))

-- The rows of pairs, with others added one after the other, are those of all.
pub made_with : (fs gs : List Flowed) → rows_with fs (rows_of gs) ≡ rows_of (fs ++ gs)
made_with [] gs = refl
made_with (f ∷ fs) gs = ap (rows_with fs) (made_added [] f.0 f.1 gs) ∙ made_with fs (f ∷ gs) ∙ made_alike (fs ++ f ∷ gs) (f ∷ (fs ++ gs)) (moved_front fs f gs)

-- The rows of pairs, with some of them taken out one after the other, are those of the others.
pub made_without : (fs gs : List Flowed) → rows_without fs (rows_of (fs ++ gs)) ≡ rows_of gs
made_without [] gs = refl
made_without (f ∷ fs) gs = ap (rows_without fs) (made_removed [] f.0 f.1 (fs ++ gs)) ∙ made_without fs gs

-- Pairs of one direction that add up as two lists do.
pub one_side : (period : Periods) (d : Direction) (all some rest : List Pair) → ((f : Pair → ℕ) → sum_by f all ≡ sum_by f (some ++ rest))
    → (measure : Flowed → ℕ) → sum_by measure (flows_of period d all) ≡ sum_by measure (flows_of period d some) + sum_by measure (flows_of period d rest)
one_side period d all some rest same measure =
    let shown : Pair → Flowed = λ p. (quarter_of period p, flows_toward d (difference p)) in
    let f : Pair → ℕ = λ p. measure (shown p) in
    omega (arith, sum_by-map measure shown all, same f, sum_by-append f some rest, sum_by-map measure shown some, sum_by-map measure shown rest)

-- Both directions together.
pub both_sides : (measure : Flowed → ℕ) (all some rest others few more : List Flowed)
    → sum_by measure all ≡ sum_by measure some + sum_by measure rest
    → sum_by measure others ≡ sum_by measure few + sum_by measure more
    → sum_by measure (all ++ others) ≡ sum_by measure ((some ++ few) ++ (rest ++ more))
both_sides measure all some rest others few more one other =
    omega (arith, one, other, sum_by-append measure all others, sum_by-append measure (some ++ few) (rest ++ more), sum_by-append measure some few, sum_by-append measure rest more)

-- The pairs that an event leaves, of both directions.
abbrev kept_flows : Periods → List Entry → List Entry → Entry → List Entry → List Flowed
kept_flows period es front e back = flows_of period Import (kept_by Import es front e back) ++ flows_of period Export (kept_by Export es front e back)

-- The rows of a station's pairs without an event: those that it takes away, and those that it leaves.
pub rows_less : (period : Periods) (es more front : List Entry) (e : Entry) (back : List Entry) → IsOneMore es more front e back
    → rows_of (station_flows period es) ≡ rows_of (gone_flows period front e back ++ kept_flows period es front e back)
rows_less period es more front e back one =
    let side = λ (d : Direction). one_side period d (pairs d es) (gone_by d front e back) (kept_by d es front e back) (λ f. less_kept d f es more front e back one) in
    made_alike (station_flows period es) (gone_flows period front e back ++ kept_flows period es front e back) (λ measure.
    both_sides measure (flows_of period Import (pairs Import es)) (flows_of period Import (gone_by Import front e back))
    (flows_of period Import (kept_by Import es front e back)) (flows_of period Export (pairs Export es))
    (flows_of period Export (gone_by Export front e back)) (flows_of period Export (kept_by Export es front e back))
    (side Import measure) (side Export measure))

-- With it: those that it brings, and those that it leaves.
pub rows_more : (period : Periods) (es more front : List Entry) (e : Entry) (back : List Entry) → IsOneMore es more front e back
    → rows_of (station_flows period more) ≡ rows_of (came_flows period front e back ++ kept_flows period es front e back)
rows_more period es more front e back one =
    let side = λ (d : Direction). one_side period d (pairs d more) (came_by d front e back) (kept_by d es front e back) (λ f. more_kept d f es more front e back one) in
    made_alike (station_flows period more) (came_flows period front e back ++ kept_flows period es front e back) (λ measure.
    both_sides measure (flows_of period Import (pairs Import more)) (flows_of period Import (came_by Import front e back))
    (flows_of period Import (kept_by Import es front e back)) (flows_of period Export (pairs Export more))
    (flows_of period Export (came_by Export front e back)) (flows_of period Export (kept_by Export es front e back))
    (side Import measure) (side Export measure))

-- One more live event: the pairs that it takes away are taken out, and those that it brings are added.
pub rows_event_more : (period : Periods) (es more front : List Entry) (e : Entry) (back : List Entry) → IsOneMore es more front e back
    → rows_with (came_flows period front e back) (rows_without (gone_flows period front e back) (rows_of (station_flows period es))) ≡ rows_of (station_flows period more)
rows_event_more period es more front e back one =
    let a = gone_flows period front e back in let m = came_flows period front e back in let k = kept_flows period es front e back in
    ap (λ rows. rows_with m (rows_without a rows)) (rows_less period es more front e back one) ∙ ap (rows_with m) (made_without a k) ∙ made_with m k ∙ sym (rows_more period es more front e back one)

-- One live event less: the other way round.
pub rows_event_less : (period : Periods) (es more front : List Entry) (e : Entry) (back : List Entry) → IsOneMore es more front e back
    → rows_with (gone_flows period front e back) (rows_without (came_flows period front e back) (rows_of (station_flows period more))) ≡ rows_of (station_flows period es)
rows_event_less period es more front e back one =
    let a = gone_flows period front e back in let m = came_flows period front e back in let k = kept_flows period es front e back in
    ap (λ rows. rows_with a (rows_without m rows)) (rows_more period es more front e back one) ∙ ap (rows_with a) (made_without m k) ∙ made_with a k ∙ sym (rows_less period es more front e back one)
