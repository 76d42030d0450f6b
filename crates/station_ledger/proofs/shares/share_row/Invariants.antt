use Rattle.std.proofs.Common.{◌≡◌, ◌+◌, ◌≤◌, None, length, map}
use Rattle.ledger_model.specs.Deltas.{pairs_between}
use Rattle.station_ledger.specs.Shares.{with_shares}
use Rattle.station_ledger.proofs.shares.share_row.Given as goal

-- the shares of the readings that are left, added to the rows so far; their pairs are still to be looked at
abbrev pub invariant-loop-left : goal.invariant-loop-left
invariant-loop-left l = record {
  rows : with_shares l.period l.direction (pairs_between l.last (map (λ r. r.reading) l.left) None) l.table.rows
      ≡ with_shares l.period l.direction (pairs_between None (map (λ r. r.reading) l.fn.readings) None) l.fn.table.rows;
  looks : l.work + length (pairs_between l.last (map (λ r. r.reading) l.left) None) ≤ l.fn.work + length (pairs_between None (map (λ r. r.reading) l.fn.readings) None);
  grows : l.fn.work ≤ l.work;
}

abbrev pub decreases-loop-left : goal.decreases-loop-left
decreases-loop-left l = length l.left
