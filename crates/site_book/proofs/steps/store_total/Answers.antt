use Rattle.std.proofs.Common.{refl, add-one, rules}
use Rattle.ledger_model.specs.declared.figures.TheConstants.{FIGURES}
use Rattle.site_book.{specs.Rule.shown, proofs.Moves.stores_as}
use Rattle.site_book.proofs.steps.store_total.Goals as goal

pub store-requires : goal.store-requires
store-requires c = (search rules, search rules, stores_as shown FIGURES (λ _. refl) _ _ _ c.args.index _ _ c.requires.writes (add-one c.args.index) c.requires.next c.requires.total)
