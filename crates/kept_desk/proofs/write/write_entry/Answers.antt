use Rattle.kept_desk.{specs.Entries.{bytes_of, line_text}, proofs.Written.{ended, cut_short}}
use Rattle.kept_desk.proofs.write.write_entry.Goals as goal

pub returns-in_err-write_bytes-clause-written : goal.returns-in_err-write_bytes-clause-written
returns-in_err-write_bytes-clause-written g c = cut_short c.args.note.now (line_text (bytes_of c.args.line)) _ _ c.from_residual.result c.from_residual.ensures.0 c.in_err-write_bytes.ensures

pub returns-clause-written : goal.returns-clause-written
returns-clause-written g c = ended c.args.note.now (line_text (bytes_of c.args.line)) _ _ _ c.write_line.result c.in_ok-write_bytes.ensures c.write_line.ensures.written
