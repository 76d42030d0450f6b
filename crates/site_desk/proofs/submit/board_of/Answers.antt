use Rattle.site_desk.proofs.Submits.{board_of_content, board_shown}
use Rattle.site_desk.proofs.submit.board_of.Goals as goal

pub returns-clause-board : goal.returns-clause-board
returns-clause-board c =
    board_shown c.board.result c.args.cell.now.limits c.ledger.result.now.period c.args.cell.now.period c.ledger.result.now.order
    c.args.cell.now.order c.ledger.result.now.content c.args.cell.now.content c.board.ensures.board c.ledger.ensures.period
    c.ledger.ensures.order c.ledger.ensures.content c.ledger.ensures.reached

pub returns-clause-shown : goal.returns-clause-shown
returns-clause-shown c =
    board_of_content c.board.result c.ledger.result.now.period c.args.cell.now.period c.ledger.result.now.order c.args.cell.now.order
    c.ledger.result.now.content c.args.cell.now.content c.board.ensures.board c.ledger.ensures.period c.ledger.ensures.order
    c.ledger.ensures.content
