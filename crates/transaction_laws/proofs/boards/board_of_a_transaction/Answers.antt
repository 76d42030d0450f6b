use Rattle.transaction_laws.proofs.LoneBoards.{only_shown, pairs_of_content, shown_of_content}
use Rattle.transaction_laws.proofs.boards.board_of_a_transaction.Goals as goal

pub returns : goal.returns
returns c = record { shown = shown_of_content; only = λ order period. only_shown order; pairs = pairs_of_content }
