use Rattle.std.proofs.Common.{refl, rules}
use Rattle.ledger_model.specs.declared.figures.TheConstants.{FIGURES}
use Rattle.site_book.{specs.Rule.shown, proofs.Moves.recalls_as}
use Rattle.site_book.proofs.steps.recall.Goals as goal

pub load-requires : goal.load-requires
load-requires c = (search rules, search rules, recalls_as shown FIGURES (λ _. refl) _ _ _ c.requires.joined)
