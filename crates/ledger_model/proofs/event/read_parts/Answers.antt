use Rattle.std.{proofs.Common.{arith, subst}, proofs.lemmas.List.take_all, proofs.lemmas.List.Elements.All-more}
use Rattle.ledger_model.specs.Event.{IsMeterReading}
use Rattle.ledger_model.proofs.event.read_parts.Goals as goal

pub loop-reading-preserved : goal.loop-reading-preserved
loop-reading-preserved c =
    let r = c.reading-item.result in
    let here : IsMeterReading r = record { moment = rw c.moment.ensures at (rw c.nanos.ensures.value at c.nanos.ensures.range); mwh = rw c.level.ensures.value at c.level.ensures.range } in
    All-more IsMeterReading c.args.readings.now c.loop-reading.reading-index r c.loop-reading-test.true c.loop-reading.invariant (subst IsMeterReading c.reading-item.is here)

pub returns-clause-readings : goal.returns-clause-readings
returns-clause-readings c = rw (take_all c.loop-reading.reading-index c.args.readings.now (omega arith)) at c.loop-reading.invariant
