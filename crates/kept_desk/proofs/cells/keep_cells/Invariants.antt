use Rattle.std.proofs.Common.{◌≡◌, [], length}
use Rattle.kept_desk.proofs.cells.keep_cells.Given as goal

-- the cells so far, each with the share of its station
abbrev pub invariant-loop-cell : goal.invariant-loop-cell
invariant-loop-cell g l = record {
  kept : l.kept.items ≡ l.yielded;
  entries : l.log.entries ≡ [];
  shares : l.log.shares ≡ length l.yielded;
}
