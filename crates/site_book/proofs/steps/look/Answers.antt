use Rattle.std.proofs.Common.{refl, rules}
use Rattle.ledger_model.specs.declared.figures.TheConstants.{FIGURES}
use Rattle.site_book.{specs.Rule.shown, proofs.Moves.looks}
use Rattle.site_book.proofs.steps.look.Goals as goal

pub load-requires : goal.load-requires
load-requires c = (search rules, search rules, looks shown FIGURES (λ _. refl) _ _ _ _ c.requires.reads)
