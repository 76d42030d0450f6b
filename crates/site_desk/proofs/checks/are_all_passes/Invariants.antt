use Rattle.std.proofs.Common.{◌≡◌, ℕ, ◌<◌, length, map, Some, slice_get}
use Rattle.site_desk.{specs.Cell.Cell, specs.Close.passes_of}
use Rattle.site_desk.proofs.checks.are_all_passes.Given as goal

-- the passes of the cells so far are here
abbrev pub invariant-loop-k : goal.invariant-loop-k
invariant-loop-k g l = (j : ℕ) (c : Cell) → j < l.k → slice_get (map g.C.HasCell.cell l.cells) j ≡ Some c → passes_of j l.passes ≡ length c.counts
