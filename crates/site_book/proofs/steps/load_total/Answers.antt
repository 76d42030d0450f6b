use Rattle.std.proofs.Common.{refl, add-one, rules}
use Rattle.ledger_model.specs.declared.figures.TheConstants.{FIGURES}
use Rattle.site_book.{specs.Rule.shown, proofs.Moves.loads_as}
use Rattle.site_book.proofs.steps.load_total.Goals as goal

pub load-requires : goal.load-requires
load-requires c = (search rules, search rules, loads_as shown FIGURES (λ _. refl) _ _ _ c.args.index _ c.requires.looks c.requires.next.0 c.requires.next.1 (add-one c.args.index))
