use Rattle.std.{proofs.Common.{◌≡◌, ◌-◌, ◌≤◌, length}, specs.Float.Numeral.digits_end}
use Rattle.reading_decimal.proofs.numeral.digits_end.Given as goal

abbrev pub invariant-loop-end : goal.invariant-loop-end
invariant-loop-end l = (l.end ≤ length l.bytes) × (digits_end l.bytes l.end ≡ digits_end l.bytes l.fn.from)

abbrev pub decreases-loop-end : goal.decreases-loop-end
decreases-loop-end l = length l.bytes - l.end
