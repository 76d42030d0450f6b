use Rattle.std.proofs.Common.{refl, rules}
use Rattle.ledger_model.specs.declared.figures.TheConstants.{FIGURES}
use Rattle.site_book.{specs.Rule.shown, proofs.Moves.grows_list}
use Rattle.site_book.proofs.steps.grow.Goals as goal

pub join_seat-requires : goal.join_seat-requires
join_seat-requires c = (search rules, search rules, search rules, search rules, grows_list shown FIGURES (λ _. refl) _ _ _ _ c.requires.longer)
