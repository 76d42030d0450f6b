use Rattle.std.proofs.Common.{arith}
use Rattle.event_chain.proofs.Facts.{no_transaction, no_event, no_reading, all_fits}
use Rattle.event_chain.proofs.chains.Chains.room_for.Goals as goal

pub returns-then-lacks_place : goal.returns-then-lacks_place
returns-then-lacks_place c = no_transaction c.self.invariant c.args.tx.now c.args.readings c.self.view_is c.transactions.ensures.value c.lacks_place.ensures c.if-lacks_place.true

pub returns-then-events-len : goal.returns-then-events-len
returns-then-events-len c = no_event c.self.invariant c.args.tx.now c.args.readings c.self.view_is c.transactions.ensures.value c.lacks_place.ensures c.if-lacks_place.false
    (omega (arith, c.events.ensures.value, c.len.ensures, c.if-events-len.true))

pub returns-then-free_readings-readings : goal.returns-then-free_readings-readings
returns-then-free_readings-readings c = no_reading c.self.invariant c.args.tx.now c.args.readings c.self.view_is c.transactions.ensures.value c.lacks_place.ensures c.if-lacks_place.false
    (omega (arith, c.events.ensures.value, c.len.ensures, c.if-events-len.false)) (omega (arith, c.free_readings.ensures, c.if-free_readings-readings.true, c.self.invariant.counted.room_is))

pub returns-else-free_readings-readings : goal.returns-else-free_readings-readings
returns-else-free_readings-readings c = all_fits c.self.invariant c.args.tx.now c.args.readings c.self.view_is c.transactions.ensures.value c.lacks_place.ensures c.if-lacks_place.false
    (omega (arith, c.events.ensures.value, c.len.ensures, c.if-events-len.false)) (omega (arith, c.free_readings.ensures, c.if-free_readings-readings.false, c.self.invariant.counted.room_is))
