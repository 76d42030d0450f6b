use Rattle.std.proofs.Common.{refl, ap, rules}
use Rattle.ledger_model.specs.declared.figures.TheConstants.{FIGURES}
use Rattle.site_book.{specs.Rule.shown, proofs.Moves.takes_in_as}
use Rattle.site_book.proofs.steps.absorb.Goals as goal

pub join_seat-requires : goal.join_seat-requires
join_seat-requires c = (search rules, search rules, search rules, search rules, takes_in_as shown FIGURES (λ _. refl) _ _ _ _ (ap (λ m. m.0) c.requires.rests))
