use Rattle.std.proofs.Common.{drop}
use Rattle.reading_decimal.proofs.DigitRuns.{IsReading}
use Rattle.reading_decimal.proofs.numeral.value_after.Given as goal

abbrev pub invariant-loop-digit : goal.invariant-loop-digit
invariant-loop-digit l = IsReading l.value (drop l.digit-index l.digits) l.fn.front l.digits
