use Rattle.std.proofs.Common.{◌∙◌}
use Rattle.script_lines.proofs.LineWords.{by_words-text, by_words-no_text}
use Rattle.script_lines.proofs.script_line.by_words.Goals as goal

pub returns-in-Ok : goal.returns-in-Ok
returns-in-Ok c = c.by_first_word.ensures ∙ by_words-text c.args.bytes.now c.in-Ok.text.now c.in-Ok.ensures.cases.0 c.in-Ok.ensures.cases.1

pub returns-in-Err : goal.returns-in-Err
returns-in-Err c = by_words-no_text c.args.bytes.now c.in-Err.ensures.cases.0
