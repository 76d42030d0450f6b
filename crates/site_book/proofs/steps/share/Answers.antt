use Rattle.std.proofs.Common.{refl, rules}
use Rattle.ledger_model.specs.declared.figures.TheConstants.{FIGURES}
use Rattle.site_book.{specs.Rule.shown, proofs.Moves.shares}
use Rattle.site_book.proofs.steps.share.Goals as goal

pub split_seat-requires : goal.split_seat-requires
split_seat-requires c = (search rules, search rules, shares shown FIGURES (λ _. refl) _ _)
