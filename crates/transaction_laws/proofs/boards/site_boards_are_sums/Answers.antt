use Rattle.transaction_laws.proofs.SiteBoards.{site_of_sums, site_of_transactions}
use Rattle.transaction_laws.proofs.boards.site_boards_are_sums.Goals as goal

pub returns : goal.returns
returns c = record { boards = site_of_sums; transactions = site_of_transactions }
