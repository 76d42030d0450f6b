use Rattle.std.proofs.Common.{◌≡◌, length}
use Rattle.ledger_model.specs.Event.{toward}
use Rattle.event_store.proofs.readings.next_toward.Given as goal

abbrev pub invariant-loop-reading : goal.invariant-loop-reading
invariant-loop-reading l = toward l.direction l.all ≡ toward l.direction l.fn.all

abbrev pub decreases-loop-reading : goal.decreases-loop-reading
decreases-loop-reading l = length l.all
