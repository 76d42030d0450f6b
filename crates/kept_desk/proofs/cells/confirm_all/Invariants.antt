use Rattle.std.{proofs.Common.◌≡◌, specs.Prelude.All}
use Rattle.site_book.specs.Prefix.{IsPrefix}
use Rattle.kept_desk.proofs.cells.confirm_all.Given as goal

-- the moments so far, each of which begins the journal
abbrev pub invariant-loop-moment : goal.invariant-loop-moment
invariant-loop-moment g l = record {
  same : l.log ≡ l.fn.log;
  first : All (λ m. IsPrefix m l.fn.log.entries) l.yielded;
}
