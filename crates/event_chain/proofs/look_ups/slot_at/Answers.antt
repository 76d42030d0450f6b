use Rattle.std.{proofs.lemmas.Grind.common_steps, proofs.Common.arith}
use Rattle.event_chain.proofs.Places.{found_at}
use Rattle.event_chain.proofs.look_ups.slot_at.Goals as goal

pub returns : goal.returns
returns c = grind (arith, common_steps, found_at)
