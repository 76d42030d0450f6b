use Rattle.std.{proofs.Common.{◌≡◌, ◌++◌, take}, specs.List.flat_map}
use Rattle.board_report.specs.Texts.{transaction_text}
use Rattle.board_report.proofs.write.put_transactions.Given as goal

-- the lines so far
abbrev pub invariant-loop-transaction : goal.invariant-loop-transaction
invariant-loop-transaction l = l.text.items ≡ l.fn.text.items ++ flat_map transaction_text (take l.transaction-index l.transactions)
