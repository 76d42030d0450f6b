use Rattle.std.{proofs.lemmas.Grind.common_steps, proofs.Common.arith}
use Rattle.event_chain.proofs.Cuts.{behind_seg, from_past}
use Rattle.event_chain.proofs.look_ups.behind_found.Goals as goal

pub returns : goal.returns
returns c = grind (arith, common_steps, from_past, behind_seg)
