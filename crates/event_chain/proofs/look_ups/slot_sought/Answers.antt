use Rattle.std.{proofs.lemmas.Grind.common_steps, proofs.Common.arith}
use Rattle.event_chain.proofs.Places.{place_at_row}
use Rattle.event_chain.proofs.look_ups.slot_sought.Goals as goal

pub returns-in-Some : goal.returns-in-Some
returns-in-Some c = grind (arith, common_steps, place_at_row)
