use Rattle.std.proofs.Common.{◌≡◌, take}
use Rattle.quarter_table.specs.Pairs.{parts_toward, rows_with}
use Rattle.quarter_table.proofs.table.QuarterTable.try_share.Given as goal

-- the parts so far are added
abbrev pub invariant-loop-part : goal.invariant-loop-part
invariant-loop-part l = l.self.rows ≡ rows_with (parts_toward l.direction (take l.part-index l.part-items)) l.fn.self.rows
