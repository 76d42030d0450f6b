-- What a held slot ends as, once a `&mut` to its value has ended.
use Rattle.std.specs.Borrow.{Fml, RattleType, MutBor, Lends}
use Rattle.slot_arena.{specs.declared.slot.Slot.Slot, specs.declared.slot.Slot.TheVariants.Held, specs.contracts.slot.Slot.the_row}

-- The slot holds the last value written through r.
abbrev pub lends_held : (R : RattleType) → MutBor (Slot R.Denot) → MutBor R.Denot → Fml
lends_held R slot r = Lends (the_row R) R slot r (λ w. Held w)
