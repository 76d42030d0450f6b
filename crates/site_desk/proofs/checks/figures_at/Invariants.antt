use Rattle.std.proofs.Common.{◌≡◌, ◌-◌, drop, length, map}
use Rattle.site_desk.specs.Close.{figures_at}
use Rattle.site_desk.proofs.checks.figures_at.Given as goal

-- the sums over the last cells
abbrev pub invariant-loop-done : goal.invariant-loop-done
invariant-loop-done g l = l.sum ≡ figures_at (drop (length l.cells - l.done) (map g.C.HasCell.cell l.cells)) l.site
