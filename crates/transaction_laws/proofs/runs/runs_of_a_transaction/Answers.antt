use Rattle.transaction_laws.proofs.LoneRuns.{all_own, alone_from_empty, same_lines}
use Rattle.transaction_laws.proofs.runs.runs_of_a_transaction.Goals as goal

pub returns : goal.returns
returns c = record { alone = alone_from_empty; alike = same_lines; all = all_own }
