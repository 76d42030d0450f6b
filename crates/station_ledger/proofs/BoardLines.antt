-- The lines of a board are within what a station's readings can show.
use Rattle.std.{proofs.Common.{◌==◌, ℕ, List, [], ◌∷◌, map, inl, inr, refl, arith}, specs.List.All, proofs.lemmas.List.Elements.{All-nil, All-cons, All-map}}
use Rattle.energy_flow.specs.Flow.{Energy}
use Rattle.ledger_model.{specs.declared.by_direction.ByDirection.ByDirection, specs.Periods.Periods, specs.Board.{Flowed, board_by}, specs.Content.Entry, specs.Energy.{all_pairs_by, flows_in_by, flows_of_by, energy_by, energy_in_by, parts_of_both, parts_over, quarters_by}, specs.Parts.Part, proofs.PartLemmas.{parts_down, parts_up}, specs.Evse.{evses, flows_at_by}, specs.declared.order.Order.Order, specs.declared.reading.Direction.Direction, specs.declared.reading.Direction.TheVariants.{Import, Export}, specs.Limits.Bounds, specs.Quarter.{IsPeriod, IsQuarterOf}, specs.BoardLaws.IsIn, proofs.Callers.rising-IsIn}
use Rattle.station_ledger.{specs.Lines.{IsStationFlow, AreStationFlows, AreStationLines}, specs.Sums.AreAllowed, proofs.Timely.in_period, proofs.Bounded.{evse_le, few_station, own_within, part_le, IsWithin}}

module _ (order : Order) (limits : Bounds) (es : List Entry) (within : AreAllowed order limits es) where
  small : (d : Direction) {e : Energy} → IsWithin e (energy_by order d es) → IsStationFlow e
  small d most = let few = few_station order d limits es within in record { up = omega (arith, most.up, few.up); down = omega (arith, most.down, few.down) }

  pub own_flows : (tx : List ℕ) → AreStationFlows (flows_of_by order tx es)
  own_flows tx = record { import = small Import (own_within order Import tx es); export = small Export (own_within order Export tx es) }

  quarter_flow : (d : Direction) (period : Periods) (q : ℕ) → IsStationFlow (energy_in_by order d period q es)
  quarter_flow d period q =
      let ts = parts_over period (all_pairs_by order d es) in
      small d (record {
        up = omega (arith, part_le (λ (t : Part). t.1.up) (λ t. t.0 == q) ts, parts_up period (all_pairs_by order d es));
        down = omega (arith, part_le (λ (t : Part). t.1.down) (λ t. t.0 == q) ts, parts_down period (all_pairs_by order d es));
      })

  own_lines : (f : ℕ → ByDirection Energy) (period : ℕ) (ns : List ℕ) → ((n : ℕ) → IsIn n ns → IsQuarterOf period n) → All (λ line. IsQuarterOf period line.0) (map {B = Flowed} (λ n. (n, f n)) ns)
  own_lines f period [] each = All-nil (λ line. IsQuarterOf period line.0)
  own_lines f period (n ∷ ns) each = All-cons (λ line. IsQuarterOf period line.0) (n, f n) (map {B = Flowed} (λ k. (k, f k)) ns) (each n (inl refl)) (own_lines f period ns (λ k h. each k (inr h)))

  -- no line has more than the readings of a station can show, and each period has the given length
  pub lines_within : (period : Periods) → IsPeriod period.length → AreStationLines period (board_by order period es).evses (board_by order period es).quarters
  lines_within period is = record {
    evse_flows = All-map (λ (line : Flowed). AreStationFlows line.1) (λ n. (n, flows_at_by order n es)) (evses es)
        (λ k d lt. record { import = small Import (evse_le order Import _ es); export = small Export (evse_le order Export _ es) });
    quarter_flows = All-map (λ (line : Flowed). AreStationFlows line.1) (λ q. (q, flows_in_by order period q es)) (quarters_by order period es)
        (λ k d lt. record { import = quarter_flow Import period _; export = quarter_flow Export period _ });
    own_quarters =
        own_lines (λ q. flows_in_by order period q es) period.length (quarters_by order period es)
        (λ q h. in_period order period es q within.in_range is ((rising-IsIn q (map (λ (t : Part). t.0) (parts_of_both order period es))).0 h));
  }
