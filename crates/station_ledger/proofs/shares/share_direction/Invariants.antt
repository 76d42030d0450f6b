use Rattle.std.{proofs.Common.{◌≡◌, length, map, take}, specs.List.flat_map}
use Rattle.event_chain.specs.Chains.{stored}
use Rattle.ledger_model.specs.Energy.{pairs_by}
use Rattle.station_ledger.{specs.Quarters.IsWork, specs.Shares.with_shares, specs.Sums.order_in}
use Rattle.station_ledger.proofs.shares.share_direction.Given as goal

-- the shares of the transactions so far, and the looks at their pairs
abbrev pub invariant-loop-place : goal.invariant-loop-place
invariant-loop-place l = record {
  rows : l.table.rows
      ≡ with_shares l.sums.period.length l.fn.direction
      (flat_map (λ tx. pairs_by (order_in l.fn.sums) l.fn.direction tx (stored l.fn.chains)) (take l.place (map (λ r. r.0) l.fn.sums.kept.rows)))
      l.fn.table.rows;
  looks : IsWork (length (flat_map (λ tx. pairs_by (order_in l.fn.sums) l.fn.direction tx (stored l.fn.chains)) (take l.place (map (λ r. r.0) l.fn.sums.kept.rows)))) l.fn.work l.work;
}
