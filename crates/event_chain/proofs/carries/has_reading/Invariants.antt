use Rattle.std.proofs.Common.{◌≡◌, drop, is_some}
use Rattle.ledger_model.{specs.Deltas.first_reading, specs.Event.toward}
use Rattle.event_chain.proofs.carries.has_reading.Given as goal

-- none of the readings so far is of the direction
abbrev pub invariant-loop-reading : goal.invariant-loop-reading
invariant-loop-reading l = is_some (first_reading (toward l.fn.direction (drop l.reading-index l.fn.readings))) ≡ is_some (first_reading (toward l.fn.direction l.fn.readings))
