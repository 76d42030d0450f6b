use Rattle.script_lines.specs.Lines.{line_bytes}
use Rattle.script_ledgers.specs.Script.{script_text}
use Rattle.script_replay.proofs.AnsweredLines.{line_replies, stops_writing}
use Rattle.script_replay.proofs.replay.answer_line.Goals as goal

pub returns-in-Err-write_bytes-clause-run : goal.returns-in-Err-write_bytes-clause-run
returns-in-Err-write_bytes-clause-run g c =
    let old = script_text c.args.script.now.script in
    let new = script_text c.answer.new.self.script in
    let line = line_bytes c.args.line in
    let t = c.in-Err-write_bytes.ensures in (
      t.0,
      t.1,
      stops_writing old new line c.answer.new.reply.items c.deref.result.now t.0 c.deref.ensures.value
          (line_replies c.args.script.now.script c.answer.new.self.script line c.answer.new.reply.items c.in-Ok.ensures.step) t.2,
    )
