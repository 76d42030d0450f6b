use Rattle.script_lines.specs.Lines.{line_bytes}
use Rattle.journal_script.{specs.Reading.held_line, proofs.LinesRead.told_line}
use Rattle.journal_script.proofs.source.Source.tell.Goals as goal

pub returns-clause-step : goal.returns-clause-step
returns-clause-step g c s t is =
    told_line s t c.args.self.now.left_out c.tell.new.self (line_bytes c.line.result) (held_line c.args.self.now.lines) c.args.reply.now is c.tell.ensures.marked c.tell.ensures.lost c.line.ensures
