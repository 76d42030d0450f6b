use Rattle.std.proofs.Common.{◌≡◌, ◌+◌, ◌≤◌}
use Rattle.journal_script.{specs.Restoring.Grows, specs.Place.{place_of, posts_of}, proofs.LinesRead.Goes}
use Rattle.journal_script.proofs.restored_script.RestoredScript.read_lines.Given as goal

abbrev pub invariant-lines : goal.invariant-lines
invariant-lines g l =
    Goes l.fn.self.source.lines.max_line_bytes l.fn.self.source.lines.room l.self.source.lines.room (place_of l.fn.self).standing
    (place_of l.self).standing (g.R.Read.remaining l.fn.reader) (g.R.Read.remaining l.reader)
    × (l.self.source.lines.max_line_bytes ≡ l.fn.self.source.lines.max_line_bytes)
    × (posts_of l.self + l.self.source.lines.room ≤ posts_of l.fn.self + l.fn.self.source.lines.room)
    × Grows (g.T.Write.contents l.fn.told) (g.T.Write.contents l.told)

abbrev pub decreases-lines : goal.decreases-lines
decreases-lines g l = l.self.source.lines.room
