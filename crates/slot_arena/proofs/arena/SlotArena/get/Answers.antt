use Rattle.std.proofs.Common.{sym}
use Rattle.slot_arena.{specs.declared.slot.Slot.TheVariants.Held, proofs.Threads.held_in}
use Rattle.slot_arena.proofs.arena.SlotArena.get.Goals as goal

pub seen-requires : goal.seen-requires
seen-requires g c =
    let a = c.self.inside in let holds = held_in a.places.row c.args.self.now c.number.result c.args.id c.self.view_is c.number.ensures c.requires in
    (sym c.self.invariant.places_at, (Held holds.0, holds.1))
