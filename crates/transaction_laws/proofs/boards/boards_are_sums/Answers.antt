use Rattle.transaction_laws.proofs.LoneBoards.{board_sum, content_board, run_board}
use Rattle.transaction_laws.proofs.boards.boards_are_sums.Goals as goal

pub returns : goal.returns
returns c = record { content = content_board; entries = λ order period es. board_sum order es period; run = run_board }
