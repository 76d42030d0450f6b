use Rattle.std.proofs.Common.{refl, rules}
use Rattle.ledger_model.specs.declared.figures.TheConstants.{FIGURES}
use Rattle.site_book.{specs.Rule.shown, proofs.Moves.closes_as}
use Rattle.site_book.proofs.steps.close_post.Goals as goal

pub store-requires : goal.store-requires
store-requires c = (search rules, search rules, closes_as shown FIGURES (λ _. refl) _ _ _ _ c.requires.writes c.requires.one c.requires.version)
