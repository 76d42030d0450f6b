use Rattle.script_ledgers.specs.Script.{start}
use Rattle.transaction_scripts.{proofs.AllStay.all_stay, proofs.LoneSteps.{alone_after, lone_answers, lone_sum}}
use Rattle.transaction_scripts.proofs.scripts.scripts_of_transactions.Goals as goal

pub returns : goal.returns
returns c = record { texts = lone_answers; left = alone_after; boards = lone_sum; all = λ name tx lines. all_stay name tx start lines }
