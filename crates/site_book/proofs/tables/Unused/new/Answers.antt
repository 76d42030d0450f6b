use Rattle.std.proofs.Common.{refl}
use Rattle.ledger_model.specs.declared.figures.TheConstants.{FIGURES}
use Rattle.site_book.{specs.Rule.shown, proofs.Moves.begins}
use Rattle.site_book.proofs.tables.Unused.new.Goals as goal

pub of_words-requires : goal.of_words-requires
of_words-requires c = begins shown FIGURES (λ _. refl) _ refl
