use Rattle.transaction_laws.proofs.LoneBoards.{content_figures, evse_energies, period_energy}
use Rattle.transaction_laws.proofs.boards.energies_are_sums.Goals as goal

pub returns : goal.returns
returns c = record { periods = period_energy; evses = evse_energies; figures = content_figures }
