use Rattle.ledger_model.proofs.PostLemmas.{totals-push, row-push_same, row-push_other, totals-rows}
use Rattle.ledger_model.proofs.laws.board.totals_after_a_post.Goals as goal

pub returns : goal.returns
returns c = record { totals = totals-push; posted = row-push_same; others = row-push_other; rows = totals-rows }
