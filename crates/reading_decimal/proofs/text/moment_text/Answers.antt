use Rattle.std.proofs.Common.{◌∙◌, arith}
use Rattle.reading_decimal.proofs.ClockTexts.{clock_text-text_of}
use Rattle.reading_decimal.proofs.text.moment_text.Goals as goal

pub returns : goal.returns
returns c =
    c.clock_text.ensures ∙ clock_text-text_of c.utc_of.result c.args.moment (omega (arith, c.utc_of.ensures.range.1)) c.utc_of.ensures.shown
