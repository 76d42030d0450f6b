use Rattle.std.{proofs.Common.take, specs.List.All}
use Rattle.ledger_model.specs.Event.{IsMeterReading}
use Rattle.ledger_model.proofs.event.read_parts.Given as goal

-- the readings so far are in range
abbrev pub invariant-loop-reading : goal.invariant-loop-reading
invariant-loop-reading l = All IsMeterReading (take l.reading-index l.readings)
