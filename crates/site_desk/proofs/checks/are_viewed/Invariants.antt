use Rattle.std.proofs.Common.{◌≡◌, ℕ, ◌<◌, Some, slice_get}
use Rattle.site_book.specs.Book.{Known}
use Rattle.site_desk.proofs.checks.are_viewed.Given as goal

-- the sites of the viewers so far
abbrev pub invariant-loop-viewer : goal.invariant-loop-viewer
invariant-loop-viewer g l = (j : ℕ) (v : Known) → j < l.viewer-index → slice_get l.viewers j ≡ Some v → v.site < l.sites
