use Rattle.std.{proofs.Common.{length, ap, sym, ◌∙◌, arith}, specs.Str.Parse.digits_value_after}
use Rattle.reading_decimal.proofs.DigitRuns.{one_fits, both_fit, digits_value_after-append}
use Rattle.reading_decimal.proofs.numeral.Numeral.digits_value.Goals as goal

pub value_after-requires-clause-fits : goal.value_after-requires-clause-fits
value_after-requires-clause-fits c = one_fits (length c.args.self.now.whole.now) (omega (arith, c.requires.few_digits))

pub value_after-requires-2-clause-fits : goal.value_after-requires-2-clause-fits
value_after-requires-2-clause-fits c =
    let n = c.args.self.now in
    rw c.value_after.ensures (both_fit n.whole.now n.fraction.now c.requires.whole_digits c.requires.few_digits)

pub returns : goal.returns
returns c =
    let n = c.args.self.now in
    c.value_after-2.ensures ∙ ap (λ v. digits_value_after 10 v n.fraction.now) c.value_after.ensures ∙ sym (digits_value_after-append 0 n.whole.now n.fraction.now)
