use Rattle.std.{proofs.Common.{◌≡◌, ◌+◌}, specs.Prelude.{vec_len, vec_capacity}}
use Rattle.site_desk.proofs.locks.lock_up.Given as goal

-- how many values are on each side, and the room for them
abbrev pub invariant-loop : goal.invariant-loop
invariant-loop g l = record {
  left : vec_len l.free + l.counter ≡ vec_len l.fn.free;
  done : vec_len l.locked ≡ vec_len l.fn.locked + l.counter;
  free : vec_capacity l.free ≡ vec_capacity l.fn.free;
  locked : vec_capacity l.locked ≡ vec_capacity l.fn.locked;
}
