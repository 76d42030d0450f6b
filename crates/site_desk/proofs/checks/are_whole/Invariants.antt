use Rattle.std.proofs.Common.{◌≡◌, ℕ, ◌<◌, map, Some, slice_get}
use Rattle.site_desk.{specs.Cell.Cell, specs.Close.IsWhole}
use Rattle.site_desk.proofs.checks.are_whole.Given as goal

-- the cells so far are whole
abbrev pub invariant-loop-k : goal.invariant-loop-k
invariant-loop-k g l = (j : ℕ) (c : Cell) → j < l.k → slice_get (map g.C.HasCell.cell l.cells) j ≡ Some c → IsWhole l.places l.books l.passes j c
