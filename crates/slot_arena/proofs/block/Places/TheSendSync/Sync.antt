use denote.RattleType.{RattleType}
use denote.Param.Send.{IsSync}
use Rattle.slot_arena.{specs.contracts.block.Places.the_row, proofs.Crossing.places_sync}

pub sync : (R : RattleType) → IsSync R → IsSync (the_row R)
sync = places_sync
