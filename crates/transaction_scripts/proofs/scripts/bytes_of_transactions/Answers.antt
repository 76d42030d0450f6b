use Rattle.transaction_scripts.proofs.LoneTexts.{same_lines, same_text_alone}
use Rattle.transaction_scripts.proofs.scripts.bytes_of_transactions.Goals as goal

pub returns : goal.returns
returns c = record { lines = same_lines; text = same_text_alone }
