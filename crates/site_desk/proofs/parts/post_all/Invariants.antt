use Rattle.std.{proofs.Common.{◌≡◌, ℕ, ◌<◌, Some, length}, specs.Prelude.slice_get}
use Rattle.site_desk.{specs.Cell.Cell, specs.Parts.{AreHeld, AreRowsKept, HaveFewPosts, IsTied}}
use Rattle.site_desk.proofs.parts.post_all.Given as goal

-- the rows of the cells so far are tied, each row is in its old place, and no book has more posts than there were cells
abbrev pub invariant-loop-cell : goal.invariant-loop-cell
invariant-loop-cell g l = record {
  held : AreHeld l.cells l.books;
  rows : AreRowsKept l.fn.books l.books;
  few : HaveFewPosts l.books l.cell-index;
  tied : (j : ℕ) (d : Cell) → j < l.cell-index → slice_get l.cells j ≡ Some d → IsTied l.books d;
  count : length l.books ≡ length l.fn.books;
}
