use Rattle.std.{proofs.Common.{◌≡◌, map, take}, specs.Prelude.All}
use Rattle.ledger_model.specs.Figures.{no_figures}
use Rattle.site_book.proofs.book.blank_rows.Given as goal

abbrev pub invariant-loop-each : goal.invariant-loop-each
invariant-loop-each l = (map (λ r. r.limits) l.rows.items ≡ take l.each-index l.limits) × All (λ r. r.figures ≡ no_figures) l.rows.items
