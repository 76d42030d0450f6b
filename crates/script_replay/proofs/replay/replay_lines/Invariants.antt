use Rattle.std.proofs.Common.{◌≡◌, ◌+◌, ◌≤◌}
use Rattle.script_lines.specs.Ranges.{longest_line}
use Rattle.script_ledgers.{specs.Ranges.longest_script, specs.Script.{start, script_text}}
use Rattle.script_replay.proofs.AnsweredLines.{AnsweredLines}
use Rattle.script_replay.proofs.replay.replay_lines.Given as goal

abbrev pub invariant-lines : goal.invariant-lines
invariant-lines g l =
    AnsweredLines (script_text start) (script_text l.script.script) longest_line longest_script l.lines.room
    (g.R.Read.remaining l.fn.reader) (g.R.Read.remaining l.reader) (g.W.Write.contents l.fn.writer) (g.W.Write.contents l.writer)
    × (l.lines.max_line_bytes ≡ longest_line)
    × (l.script.posts + l.lines.room ≤ longest_script)
    × (l.fn.work ≤ l.work)

abbrev pub decreases-lines : goal.decreases-lines
decreases-lines g l = l.lines.room
