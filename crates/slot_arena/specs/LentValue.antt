-- What an arena ends as, once a `&mut` to one of its values has ended.
use Rattle.std.{specs.Prelude.{ℕ, List, slice_set, Option, Some}, specs.Borrow.{Fml, RattleType, MutBor, Lends}}
use Rattle.slot_arena.specs.contracts.arena.SlotArena.{the_row}

-- The id has the last value written through r, and all else stays the same.
abbrev pub lends_value : (R : RattleType) → MutBor (List (Option R.Denot)) → ℕ → MutBor R.Denot → Fml
lends_value R arena id r = Lends (the_row R) R arena r (λ w. slice_set arena.now id (Some w))
