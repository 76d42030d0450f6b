use Rattle.std.{proofs.Common.{◌-◌, ◌≤◌, length, take}, specs.Io.KnownBytes.Appends}
use Rattle.script_lines.proofs.write.write_bytes.Given as goal

abbrev pub invariant-loop-done : goal.invariant-loop-done
invariant-loop-done g l =
    Appends (g.W.Write.contents l.fn.writer) (g.W.Write.contents l.writer) (take l.done l.bytes) × (l.done ≤ length l.bytes)

abbrev pub decreases-loop-done : goal.decreases-loop-done
decreases-loop-done g l = length l.bytes - l.done
