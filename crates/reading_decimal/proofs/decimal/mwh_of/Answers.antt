use Rattle.std.{proofs.Common.{◌≡◌, ◌≤◌, ◌&&◌, nat_lt, true, false, length, ap, sym, ◌∙◌, arith, FitsSigned, w8}, specs.Option.ok_or, specs.Float.Numeral.numeral_digits, specs.Str.Parse.digits_value, proofs.lemmas.Bool.le-ltb, proofs.lemmas.Int.to_z-of_z}
use Rattle.reading_decimal.{specs.declared.decimal.DecimalFault.TheVariants.TooLarge, specs.Decimal.{is_decimal, is_negative, parts, within_register}, specs.Numeral.parts_of, proofs.LastStep.{parts-IsShort, mwh-collected, mwh_reading-last}}
use Rattle.reading_decimal.proofs.decimal.mwh_of.Goals as goal

pub exponent_value-exponent-requires : goal.exponent_value-exponent-requires
exponent_value-exponent-requires c =
    let p = parts_of c.scan-numeral.result in
    let same : p ≡ parts c.args.token.now = cc in
    parts-IsShort c.args.token.now p same (omega (arith, c.as_bytes-bytes.ensures.len))

pub digits_value-value-requires : goal.digits_value-value-requires
digits_value-value-requires c =
    let p = parts_of c.scan-numeral.result in
    let same : p ≡ parts c.args.token.now = cc in
    parts-IsShort c.args.token.now p same (omega (arith, c.as_bytes-bytes.ensures.len))

pub tens_down-requires-clause-short : goal.tens_down-requires-clause-short
tens_down-requires-clause-short c =
    let p = parts_of c.scan-numeral.result in
    let same : p ≡ parts c.args.token.now = cc in
    parts-IsShort c.args.token.now p same (omega (arith, c.as_bytes-bytes.ensures.len))

pub returns : goal.returns
returns c =
    let token = c.args.token.now in
    let p = parts_of c.scan-numeral.result in
    let same : p ≡ parts token = cc in
    let fits : FitsSigned w8 c.args.multiplier = c.ranges.multiplier in
    let tens = simp to_z-of_z at c.tens_of.ensures in
    let tenths = simp to_z-of_z at c.tenths_of.ensures.value in
    let collected =
    mwh-collected token c.args.multiplier c.args.unit p _ _ _ _ _ _ same c.digits_value-value.ensures c.tens_up.ensures tens
    c.tens_of_unit.ensures.value c.tens_down.ensures.value tenths in
    let decimal : is_decimal token ≡ true = cc in
    let short : nat_lt 36 (length token) ≡ false = le-ltb _ _ (omega (arith, c.as_bytes-bytes.ensures.len)) in
    let small : digits_value 10 (parts token).exponent ≤ 99 = rw (← same) (omega (arith, c.exponent_value-exponent.ensures)) in
    let whole : (is_negative token && nat_lt 0 (numeral_digits (parts token))) ≡ false = cc in
    c.ok_or.ensures.value ∙ ap (λ r. ok_or r TooLarge) (c.scaled.ensures ∙ ap within_register collected)
    ∙ sym (mwh_reading-last token c.args.multiplier c.args.unit decimal short (le-ltb _ _ small) whole)
