use Rattle.std.proofs.Common.{◌≡◌, ℕ, ◌<◌, map, Some, slice_get}
use Rattle.site_book.specs.Book.{Book}
use Rattle.site_desk.specs.Close.{IsSummed}
use Rattle.site_desk.proofs.checks.are_summed.Given as goal

-- the books so far have the sums
abbrev pub invariant-loop-site : goal.invariant-loop-site
invariant-loop-site g l = (j : ℕ) (b : Book) → j < l.site → slice_get l.books j ≡ Some b → IsSummed (map g.C.HasCell.cell l.cells) j b
