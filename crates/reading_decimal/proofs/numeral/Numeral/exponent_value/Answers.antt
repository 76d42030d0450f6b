use Rattle.std.proofs.Common.{length}
use Rattle.reading_decimal.proofs.DigitRuns.{one_fits}
use Rattle.reading_decimal.proofs.numeral.Numeral.exponent_value.Goals as goal

pub value_after-requires-clause-fits : goal.value_after-requires-clause-fits
value_after-requires-clause-fits c = one_fits (length c.args.self.now.exponent.now) c.requires.few_exponent_digits
