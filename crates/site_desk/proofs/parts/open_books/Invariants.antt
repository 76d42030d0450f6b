use Rattle.std.proofs.Common.{◌≡◌, ℕ, ◌<◌, ◌≤◌, ◌++◌, drop, length}
use Rattle.site_book.specs.Tables.{HasTable, NamedBy}
use Rattle.site_desk.specs.Parts.{AreNewBooks, new_viewers, viewed_by}
use Rattle.site_desk.proofs.parts.open_books.Given as goal

-- the books and viewers of the sites so far; the tables of the others are there
abbrev pub invariant-loop-site : goal.invariant-loop-site
invariant-loop-site g l = record {
  named : NamedBy g.J.Naming.table l.tables;
  there : (other : ℕ) → l.site ≤ other → other < length l.sites → HasTable l.tables other;
  books : AreNewBooks l.stations l.site l.books.items;
  viewers : l.viewers.items ++ new_viewers l.site (drop l.site (viewed_by l.viewers_each l.sites)) ≡ new_viewers 0 (viewed_by l.viewers_each l.sites);
}
