-- The rows of pairs of readings, and the periods of a board.
use Rattle.std.{proofs.Common.{◌≡◌, ℕ, ◌+◌, ◌==◌, cond, List, [], ◌∷◌, ◌++◌, map, refl, sym, ap, subst, ◌∙◌, arith}, specs.List.{filter, flat_map, sum_by}, proofs.lemmas.List.map-append, proofs.lemmas.Simd.map-map, proofs.lemmas.List.Elements.filter-append, proofs.lemmas.List.Sums.sum_by-append, proofs.Math.Path.fun_ext}
use Rattle.ledger_model.{specs.Periods.Periods, specs.declared.order.Order.Order, specs.declared.reading.Direction.Direction, specs.declared.reading.Direction.TheVariants.{Import, Export}, specs.Board.{Flowed, board_by}, specs.Content.Entry, specs.ByDirection.flows_toward, specs.declared.by_direction.ByDirection.ByDirection, specs.Energy.{Pair, all_pairs_by, change_of, difference, flows_in_by, parts_of_both, parts_over, quarters_by, rising}, specs.Parts.{Part, parts_by, whole}, specs.Settling.settled_by, specs.declared.settle.Settle.Settle, specs.declared.settle.Settle.TheVariants.{Later, Closing, Even}, proofs.Callers.{sum_by-map, passed_sum}, proofs.SumLemmas.sum_by-none}
use Rattle.energy_flow.specs.Flow.{Energy}
use Rattle.quarter_table.specs.Pairs.{total, row_of, rows_of, board_flows_by, flows_of, parts_toward, station_flows_by, line_of}

-- What the parts of a period in one direction add up to, by a measure of what they show.
quarter_sum : (measure : ByDirection Energy → ℕ) (d : Direction) (q : ℕ) (ts : List Part)
    → sum_by (λ f. measure f.1) (filter (λ f. f.0 == q) (parts_toward d ts)) ≡ sum_by (λ t. measure (flows_toward d t.1)) (filter (λ t. t.0 == q) ts)
quarter_sum measure d q ts =
    passed_sum (λ (f : Flowed). measure f.1) (λ f. f.0 == q) (parts_toward d ts)
    ∙ sum_by-map (λ (f : Flowed). cond (f.0 == q) (measure f.1) 0) (λ t. (t.0, flows_toward d t.1)) ts
    ∙ sym (passed_sum (λ (t : Part). measure (flows_toward d t.1)) (λ t. t.0 == q) ts)

-- The parts in one direction, and those of them that belong to a period.
abbrev side : Order → Periods → Direction → List Entry → List Part
side order period d es = parts_over period (all_pairs_by order d es)

abbrev of_quarter : Order → Periods → ℕ → Direction → List Entry → List Part
of_quarter order period q d es = filter (λ t. t.0 == q) (side order period d es)

-- The same of both directions: each adds up by itself.
part_sum : (order : Order) (measure : ByDirection Energy → ℕ) (period : Periods) (q : ℕ) (es : List Entry) → sum_by (λ f. measure f.1) (filter (λ f. f.0 == q) (board_flows_by order period es))
    ≡ sum_by (λ t. measure (flows_toward Import t.1)) (of_quarter order period q Import es) + sum_by (λ t. measure (flows_toward Export t.1)) (of_quarter order period q Export es)
part_sum order measure period q es =
    let a = parts_toward Import (side order period Import es) in let b = parts_toward Export (side order period Export es) in
    ap (sum_by (λ (f : Flowed). measure f.1)) (filter-append (λ (f : Flowed). f.0 == q) a b)
    ∙ sum_by-append (λ (f : Flowed). measure f.1) (filter (λ f. f.0 == q) a) (filter (λ f. f.0 == q) b)
    ∙ (λ i. quarter_sum measure Import q (side order period Import es) i + quarter_sum measure Export q (side order period Export es) i)

-- The line of a period with these energies.
abbrev line : ℕ → ByDirection Energy → Flowed
line q flows = (q, flows)

-- The sums over a period's parts are the energies of the period: parts of one direction count nothing in the other.
quarter_flows : (order : Order) (period : Periods) (es : List Entry) (q : ℕ) → total (filter (λ f. f.0 == q) (board_flows_by order period es)) ≡ flows_in_by order period q es
quarter_flows order period es q =
    let own = filter (λ f. f.0 == q) (board_flows_by order period es) in
    let none_in = sum_by-none (of_quarter order period q Import es) in let none_out = sum_by-none (of_quarter order period q Export es) in
    let up : (total own).import.up ≡ (flows_in_by order period q es).import.up = omega (arith, part_sum order (λ f. f.import.up) period q es, none_out) in
    let down : (total own).import.down ≡ (flows_in_by order period q es).import.down = omega (arith, part_sum order (λ f. f.import.down) period q es, none_out) in
    let export_up : (total own).export.up ≡ (flows_in_by order period q es).export.up = omega (arith, part_sum order (λ f. f.export.up) period q es, none_in) in
    let export_down : (total own).export.down ≡ (flows_in_by order period q es).export.down = omega (arith, part_sum order (λ f. f.export.down) period q es, none_in) in
    λ i. record { import = record { up = up i; down = down i }; export = record { up = export_up i; down = export_down i } }

-- The periods of a station's parts, of both directions.
quarters_of : (order : Order) (period : Periods) (es : List Entry) → map (λ f. f.0) (board_flows_by order period es) ≡ map (λ t. t.0) (parts_of_both order period es)
quarters_of order period es =
    map-append (λ (f : Flowed). f.0) (parts_toward Import (side order period Import es)) (parts_toward Export (side order period Export es))
    ∙ (λ i. map-map (λ (f : Flowed). f.0) (λ (t : Part). line t.0 (flows_toward Import t.1)) (side order period Import es) i
    ++ map-map (λ (f : Flowed). f.0) (λ (t : Part). line t.0 (flows_toward Export t.1)) (side order period Export es) i)
    ∙ sym (map-append (λ (t : Part). t.0) (side order period Import es) (side order period Export es))

-- The rows of a station's parts are the periods of its board.
pub lines_of_station : (order : Order) (period : Periods) (es : List Entry) → map line_of (rows_of (board_flows_by order period es)) ≡ (board_by order period es).quarters
lines_of_station order period es =
    let fs = board_flows_by order period es in
    map-map line_of (λ q. row_of q fs) (rising (map (λ f. f.0) fs))
    ∙ ap (λ qs. map (λ q. line q (total (filter (λ f. f.0 == q) fs))) (rising qs)) (quarters_of order period es)
    ∙ ap (λ (l : ℕ → Flowed). map l (quarters_by order period es)) (fun_ext (λ q. ap (line q) (quarter_flows order period es q)))

-- Where no difference is shared, each has one part.
whole_pairs : (period : Periods) (d : Direction) (ps : List Pair) → (period.rule ≡ Even → ⊥) → parts_toward d (parts_over period ps) ≡ flows_of period d ps
whole_pairs period d ps apart = by_rule period.rule refl
  where
    each : (rule : Settle) → ((p : Pair) → parts_by rule period.length (change_of p) ≡ whole rule period.length (change_of p)) → (ps : List Pair)
        → parts_toward d (flat_map (λ p. parts_by rule period.length (change_of p)) ps) ≡ map (λ p. line (settled_by rule period.length p.1.moment) (flows_toward d (difference p))) ps
    each rule is [] = refl
    each rule is (p ∷ rest) =
        ap (λ ts. parts_toward d (ts ++ flat_map (λ p. parts_by rule period.length (change_of p)) rest)) (is p)
        ∙ ap (λ fs. line (settled_by rule period.length p.1.moment) (flows_toward d (difference p)) ∷ fs) (each rule is rest)

    by_rule : (rule : Settle) → period.rule ≡ rule → parts_toward d (parts_over period ps) ≡ flows_of period d ps
    by_rule Later is =
        subst (λ r. parts_toward d (flat_map (λ p. parts_by r period.length (change_of p)) ps) ≡ map (λ p. line (settled_by r period.length p.1.moment) (flows_toward d (difference p))) ps)
        (sym is) (each Later (λ p. refl) ps)
    by_rule Closing is =
        subst (λ r. parts_toward d (flat_map (λ p. parts_by r period.length (change_of p)) ps) ≡ map (λ p. line (settled_by r period.length p.1.moment) (flows_toward d (difference p))) ps)
        (sym is) (each Closing (λ p. refl) ps)
    by_rule Even is = absurd (apart is)

pub whole_station : (order : Order) (period : Periods) (es : List Entry) → (period.rule ≡ Even → ⊥) → board_flows_by order period es ≡ station_flows_by order period es
whole_station order period es apart = λ i. whole_pairs period Import (all_pairs_by order Import es) apart i ++ whole_pairs period Export (all_pairs_by order Export es) apart i
