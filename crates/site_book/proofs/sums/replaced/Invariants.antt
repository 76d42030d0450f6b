use Rattle.std.proofs.Common.{◌≡◌, ℕ, ◌+◌, ◌<◌, ◌≤◌, get_or, length}
use Rattle.ledger_model.{specs.declared.figures.TheConstants.FIGURES, specs.Figures.figure_at}
use Rattle.site_book.proofs.sums.replaced.Given as goal

abbrev pub invariant-loop-k : goal.invariant-loop-k
invariant-loop-k l = record {
  size : length l.sums ≡ FIGURES;
  replaced : (j : ℕ) → j < l.k → get_or l.sums j 0 + figure_at j l.fn.old ≡ figure_at j l.fn.totals + figure_at j l.fn.new;
  left : (j : ℕ) → l.k ≤ j → get_or l.sums j 0 ≡ figure_at j l.fn.totals;
}
