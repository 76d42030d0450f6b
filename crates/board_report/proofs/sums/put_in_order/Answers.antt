use Rattle.std.{proofs.Common.rules, proofs.lemmas.List.Sorted.IsNonDecreasingBy-from_sort_by_key}
use Rattle.ledger_model.specs.Board.{Flowed}
use Rattle.board_report.proofs.SumLemmas.{order_from_sort}
use Rattle.board_report.proofs.sums.put_in_order.Goals as goal

pub returns-clause-order : goal.returns-clause-order
returns-clause-order c = order_from_sort _ (IsNonDecreasingBy-from_sort_by_key (λ (line : Flowed). line.0) _ c.sort_unstable_by_key.ensures.sorted (λ a r q k. search rules))
