use Rattle.std.proofs.Common.{◌≡◌, ℕ, ◌<◌, length}
use Rattle.site_book.specs.Tables.{HasTable}
use Rattle.site_book.proofs.tables.Tables.make.Given as goal

abbrev pub invariant-loop : goal.invariant-loop
invariant-loop l = record { count : length l.tables.items ≡ l.counter; tables : (site : ℕ) → site < l.counter → HasTable l.tables.items site }
