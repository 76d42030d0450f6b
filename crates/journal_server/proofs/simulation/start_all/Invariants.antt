use Rattle.std.{proofs.Common.{◌≡◌, ◌≤◌, length}, specs.Prelude.{vec_len, vec_capacity}}
use Rattle.journal_server.proofs.simulation.start_all.Given as goal

-- one number for each stream, no more threads than streams, and the room for the others
abbrev pub invariant-loop-stream : goal.invariant-loop-stream
invariant-loop-stream g l = record {
  number : l.number ≡ length l.yielded;
  few : vec_len l.played ≤ length l.yielded;
  room : vec_capacity l.played ≡ vec_capacity l.fn.played;
}
