use Rattle.std.proofs.Common.{rules, arith, length-drop}
use Rattle.script_lines.proofs.WrittenBytes.{took, took_none, stopped}
use Rattle.script_lines.proofs.write.write_bytes.Goals as goal

pub returns-in-Ok-eq0 : goal.returns-in-Ok-eq0
returns-in-Ok-eq0 g c = took_none c.args.bytes.now c.loop-done.done _ _ _ c.loop-done.invariant.0 c.in-Ok-eq0.field-0 (search rules) c.in-Ok-eq0.ensures.bytes

pub loop-done-preserved : goal.loop-done-preserved
loop-done-preserved g c = (
  took c.args.bytes.now c.loop-done.done _ _ _ c.loop-done.invariant.0 c.in-Ok.count c.in-Ok.ensures.bytes,
  omega (arith, c.in-Ok.ensures.bound, length-drop c.loop-done.done c.args.bytes.now),
)

pub returns-in-Err : goal.returns-in-Err
returns-in-Err g c = stopped c.args.bytes.now c.loop-done.done _ _ _ c.loop-done.invariant.0 c.in-Err.ensures.bytes
