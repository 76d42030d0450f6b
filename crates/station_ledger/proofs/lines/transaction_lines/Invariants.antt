use Rattle.std.proofs.Common.{◌≡◌, map, take}
use Rattle.event_chain.specs.Chains.{stored}
use Rattle.ledger_model.specs.Board.{shown_by}
use Rattle.station_ledger.specs.Sums.{order_in}
use Rattle.station_ledger.proofs.lines.transaction_lines.Given as goal

-- the lines of the transactions so far
abbrev pub invariant-loop-place : goal.invariant-loop-place
invariant-loop-place l = l.lines.items ≡ map (shown_by (order_in l.fn.sums) (stored l.fn.chains)) (take l.place (map (λ r. r.0) l.fn.sums.kept.rows))
