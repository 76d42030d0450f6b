use Rattle.std.proofs.Common.{sym, ◌∙◌}
use Rattle.script_lines.proofs.Numbers.{number_refused}
use Rattle.script_lines.proofs.script_line.number.Goals as goal

pub returns-in-Err : goal.returns-in-Err
returns-in-Err c = number_refused c.args.word.now (sym c.is_number.ensures ∙ c.if-not-is_number.false) c.in-Err.ensures.value.0
