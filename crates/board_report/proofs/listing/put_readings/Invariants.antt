use Rattle.std.proofs.Common.{◌≡◌, ◌+◌, ◌≤◌, ◌++◌, None, length}
use Rattle.board_report.{specs.Listing.readings_behind, specs.Looks.{pairs_behind, reading_looks}}
use Rattle.board_report.proofs.listing.put_readings.Given as goal

-- the lines of the readings that are left come behind those so far, and their levels are still to be looked at
abbrev pub invariant-loop-left : goal.invariant-loop-left
invariant-loop-left l = record {
  lines : l.text.items ++ readings_behind l.word l.period l.before l.left ≡ l.fn.text.items ++ readings_behind l.word l.period None l.fn.readings;
  looks : l.work + (length l.left + pairs_behind l.before (length l.left)) ≤ l.fn.work + reading_looks l.fn.readings;
  grows : l.fn.work ≤ l.work;
}

abbrev pub decreases-loop-left : goal.decreases-loop-left
decreases-loop-left l = length l.left
