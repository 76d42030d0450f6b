use Rattle.std.proofs.Common.{ap, arith}
use Rattle.ledger_model.specs.Step.{readings_stored}
use Rattle.event_chain.proofs.Facts.{all_seen}
use Rattle.event_chain.proofs.chains.Chains.stored_readings.Goals as goal

pub returns : goal.returns
returns c = let k = c.self.invariant in omega (arith, c.readings.ensures.value, c.free_readings.ensures, k.counted.room_is, k.counted.readings_are, ap readings_stored (all_seen k c.self.view_is))
