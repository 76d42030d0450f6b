use Rattle.std.proofs.Common.{◌*◌, ◌-◌, ◌^◌, ap, sym, ◌∙◌, arith}
use Rattle.reading_decimal.{specs.Decimal.within_register, proofs.Scaling.{scale_up, scale_down, within_register-large}}
use Rattle.reading_decimal.proofs.scale.scaled.Goals as goal

pub returns-in-Some : goal.returns-in-Some
returns-in-Some c =
    c.within_register.ensures ∙ ap within_register (c.in-Some.ensures.1 ∙ sym (scale_up c.args.n c.args.up c.args.down (omega arith)))

pub returns-in-None : goal.returns-in-None
returns-in-None c =
    let e = scale_up c.args.n c.args.up c.args.down (omega arith) in
    sym (ap within_register e ∙ within_register-large (c.args.n * 10 ^ (c.args.up - c.args.down)) (omega (arith, c.in-None.ensures)))

pub returns-else-down-up : goal.returns-else-down-up
returns-else-down-up c =
    c.within_register-else-down-up.ensures ∙ ap within_register (c.divided.ensures ∙ sym (scale_down c.args.n c.args.up c.args.down (omega arith)))
