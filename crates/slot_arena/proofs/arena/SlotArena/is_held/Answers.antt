use Rattle.std.proofs.Common.{sym, ◌<◌, length, arith}
use Rattle.slot_arena.proofs.Fresh.{made_holds}
use Rattle.slot_arena.proofs.arena.SlotArena.is_held.Goals as goal

pub seen-requires : goal.seen-requires
seen-requires g c =
    let a = c.self.inside in let i = c.number-index.result in
    let within : i < length a.places.row = omega (arith, c.self.invariant.count, c.if-index-self.false) in
    (sym c.self.invariant.places_at, made_holds a.places.row i c.self.invariant.threaded.made within)
