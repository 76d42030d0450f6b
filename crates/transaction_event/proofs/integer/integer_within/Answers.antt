use Rattle.std.proofs.Common.{sym, ◌∙◌}
use Rattle.transaction_event.proofs.Integers.{refused_integer}
use Rattle.transaction_event.proofs.integer.integer_within.Goals as goal

pub returns-in-Err-clause-value : goal.returns-in-Err-clause-value
returns-in-Err-clause-value c = refused_integer c.args.low c.args.high c.args.token.now c.ranges.low c.ranges.high (sym c.is_integer.ensures ∙ c.if-not-is_integer.false) c.in-Err.ensures.value.0
