use Rattle.std.proofs.Common.{◌≡◌, ◌↔◌}
use Rattle.event_store.specs.Links.{chain}
use Rattle.event_store.proofs.readings.are_same.Given as goal

abbrev pub invariant-loop-rest : goal.invariant-loop-rest
invariant-loop-rest l = (chain l.links l.first l.count ≡ l.sent) ↔ (l.left ≡ l.rest)
