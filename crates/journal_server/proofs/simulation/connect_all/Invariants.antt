use Rattle.std.{proofs.Common.◌≡◌, specs.Prelude.vec_len}
use Rattle.journal_server.proofs.simulation.connect_all.Given as goal

abbrev pub invariant-loop : goal.invariant-loop
invariant-loop g l = vec_len l.streams ≡ l.counter
