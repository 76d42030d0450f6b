use Rattle.std.proofs.Common.{◌≡◌, ℕ, ◌≤◌, length, vec_capacity}
use Rattle.station_ledger.specs.Moved.{sum_at, no_sum}
use Rattle.station_ledger.proofs.sums.no_sums.Given as goal

-- so many sums of nothing
abbrev pub invariant-loop : goal.invariant-loop
invariant-loop l = record {
  all : length l.evses.items ≡ l.counter;
  room : l.count ≤ vec_capacity l.evses;
  none : (n : ℕ) → sum_at l.evses.items n ≡ no_sum;
}
