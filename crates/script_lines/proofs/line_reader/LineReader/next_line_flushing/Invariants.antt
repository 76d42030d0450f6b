use Rattle.std.proofs.Common.{◌≡◌}
use Rattle.script_lines.proofs.PartOfLine.{PartOfLine}
use Rattle.script_lines.proofs.line_reader.LineReader.next_line_flushing.Given as goal

abbrev pub invariant-pieces : goal.invariant-pieces
invariant-pieces g l =
    PartOfLine l.fn.self.max_line_bytes l.fn.self.room l.self.room l.self.held.items (g.R.Read.remaining l.fn.reader)
    (g.R.Read.remaining l.reader) (g.W.Write.contents l.fn.writer) (g.W.Write.contents l.writer)
    × (l.self.max_line_bytes ≡ l.fn.self.max_line_bytes)

abbrev pub decreases-pieces : goal.decreases-pieces
decreases-pieces g l = l.self.room
