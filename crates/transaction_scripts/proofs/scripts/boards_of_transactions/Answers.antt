use Rattle.transaction_scripts.proofs.SiteTexts.{text_of_any, text_together}
use Rattle.transaction_scripts.proofs.scripts.boards_of_transactions.Goals as goal

pub returns : goal.returns
returns c = record { alone = text_together; any = text_of_any }
