use Rattle.transaction_scripts.proofs.SiteTexts.{energy_together, export_together, total_together}
use Rattle.transaction_scripts.proofs.scripts.totals_of_transactions.Goals as goal

pub returns : goal.returns
returns c = record { totals = total_together; energies = energy_together; exports = export_together }
