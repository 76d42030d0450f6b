use Rattle.std.proofs.Common.{◌≤◌, ◌-◌, length}
use Rattle.quarter_table.specs.Rows.{earlier}
use Rattle.quarter_table.proofs.place.earlier_rows.Given as goal

abbrev pub invariant-loop-low : goal.invariant-loop-low
invariant-loop-low l = record {
  lower : l.low ≤ length (earlier l.number l.rows.items);
  upper : length (earlier l.number l.rows.items) ≤ l.high;
  within : l.high ≤ length l.rows.items;
}

abbrev pub decreases-loop-low : goal.decreases-loop-low
decreases-loop-low l = l.high - l.low
