use Rattle.std.proofs.Common.{take}
use Rattle.site_desk.specs.Parts.{AreNewCells}
use Rattle.site_desk.proofs.parts.open_cells.Given as goal

-- the cells of the stations so far
abbrev pub invariant-loop-k : goal.invariant-loop-k
invariant-loop-k l = AreNewCells l.sites (take l.k l.stations) l.cells.items
