use Rattle.std.proofs.Common.{◌≡◌, List}
use Rattle.ledger_model.{specs.Content.Entry, specs.declared.order.Order.Order}
use Rattle.station_ledger.{specs.Sums.AreEvseSums, proofs.EvseLines.lines_below}
use Rattle.station_ledger.proofs.lines.evse_lines.Given as goal

-- the lines of the numbers so far
abbrev pub invariant-loop-number : goal.invariant-loop-number
invariant-loop-number l = (order : Order) (es : List Entry) → AreEvseSums order es l.evses → l.lines.items ≡ lines_below order es l.number
