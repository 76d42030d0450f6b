use Rattle.std.proofs.Common.{◌≡◌, [], replicate}
use Rattle.site_book.specs.Book.{known}
use Rattle.site_book.proofs.tables.Unused.viewers.Given as goal

abbrev pub invariant-loop : goal.invariant-loop
invariant-loop g l = (l.self ≡ l.fn.self) × (l.viewers.items ≡ replicate l.counter (known l.site []))
