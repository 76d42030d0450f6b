use Rattle.std.proofs.Common.{refl, arith, rules}
use Rattle.ledger_model.specs.declared.figures.TheConstants.{FIGURES}
use Rattle.site_book.{specs.Rule.shown, proofs.Moves.opens_as}
use Rattle.site_book.proofs.steps.open_post.Goals as goal

pub store-requires : goal.store-requires
store-requires g c = (search rules, search rules, opens_as shown FIGURES (λ _. refl) _ _ _ _ _ c.requires.rests (omega arith))
