use Rattle.std.proofs.Common.{refl}
use Rattle.transaction_laws.proofs.examples.examples_of_boards.Goals as goal

pub returns : goal.returns
returns c = record { first = refl; second = refl; first_alone = refl; second_alone = refl; both = refl; sum = refl; site = refl }
