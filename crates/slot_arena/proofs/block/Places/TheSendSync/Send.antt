use denote.RattleType.{RattleType}
use denote.Param.Send.{IsSend}
use Rattle.slot_arena.{specs.contracts.block.Places.the_row, proofs.Crossing.places_send}

pub send : (R : RattleType) → IsSend R → IsSend (the_row R)
send = places_send
