use Rattle.std.proofs.Common.{◌≡◌, map, take}
use Rattle.quarter_table.specs.Pairs.{line_of}
use Rattle.station_ledger.proofs.lines.quarter_lines.Given as goal

-- the lines of the rows so far
abbrev pub invariant-loop-row : goal.invariant-loop-row
invariant-loop-row l = l.lines.items ≡ map line_of (take l.row-index l.row-items)
