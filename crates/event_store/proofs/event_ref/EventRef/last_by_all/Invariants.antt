use Rattle.std.proofs.Common.{◌≡◌, length}
use Rattle.ledger_model.{specs.Deltas.last_reading, specs.Event.toward}
use Rattle.event_store.proofs.Lasts.{last_or}
use Rattle.event_store.proofs.event_ref.EventRef.last_by_all.Given as goal

abbrev pub invariant-loop-reading : goal.invariant-loop-reading
invariant-loop-reading l = last_or l.last l.left ≡ last_reading (toward l.fn.direction l.self.1.event.readings)

abbrev pub decreases-loop-reading : goal.decreases-loop-reading
decreases-loop-reading l = length l.left
