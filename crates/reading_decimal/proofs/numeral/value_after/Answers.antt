use Rattle.std.proofs.Common.{arith}
use Rattle.reading_decimal.proofs.DigitRuns.{read_at}
use Rattle.reading_decimal.proofs.numeral.value_after.Goals as goal

pub overflow_mul-value : goal.overflow_mul-value
overflow_mul-value c =
    let more = read_at c.loop-digit.value c.args.digits.now c.loop-digit.digit-index c.args.front (omega arith) c.loop-digit.invariant in
    omega (arith, more.fits)

pub overflow_add-value : goal.overflow_add-value
overflow_add-value c =
    let more = read_at c.loop-digit.value c.args.digits.now c.loop-digit.digit-index c.args.front (omega arith) c.loop-digit.invariant in
    omega (arith, more.fits, c.from.ensures)

pub loop-digit-preserved : goal.loop-digit-preserved
loop-digit-preserved c =
    let more = read_at c.loop-digit.value c.args.digits.now c.loop-digit.digit-index c.args.front (omega arith) c.loop-digit.invariant in
    rw c.from.ensures more.next
