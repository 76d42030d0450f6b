use Rattle.std.{proofs.Common.{sym, ◌∙◌}, proofs.Math.Nat.sub-zero, proofs.lemmas.Bool.{eq-eqb, ne_eqb}, specs.Float.Numeral.scan_numeral}
use Rattle.reading_decimal.proofs.numeral.Numeral.scan.Goals as goal

pub returns-then-byte_at-ne46 : goal.returns-then-byte_at-ne46
unfolding scan_numeral
returns-then-byte_at-ne46 c =
    let e = c.with_exponent.ensures in
    let point = ne_eqb _ 46 (λ x. c.if-byte_at-ne46.true (c.byte_at.ensures ∙ x)) in
    rw (← c.digits_end-whole_end.ensures.value, point, sub-zero)
    (λ i. record { whole = e.whole i; point = e.point i; fraction = e.fraction i; exponent_negative = e.sign i; exponent = e.exponent i; len = e.len i })

pub returns : goal.returns
unfolding scan_numeral
returns c =
    let e = c.with_exponent-2.ensures in
    let point = eq-eqb _ 46 (sym c.byte_at.ensures ∙ c.if-byte_at-ne46.false) in
    rw (← c.digits_end-whole_end.ensures.value, point, ← c.digits_end-end.ensures.value, sub-zero)
    (λ i. record { whole = e.whole i; point = e.point i; fraction = e.fraction i; exponent_negative = e.sign i; exponent = e.exponent i; len = e.len i })
