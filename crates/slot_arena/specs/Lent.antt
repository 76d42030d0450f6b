-- What the places end as, once a `&mut` into one of them has ended.
use Rattle.std.{specs.Prelude.{ℕ, List, slice_set, Option, Some}, specs.Borrow.{Fml, RattleType, MutBor, Lends}}
use Rattle.slot_arena.{specs.declared.block.Places.Places, specs.contracts.block.Places.the_row}

-- The same places with another row.
abbrev pub with_row : {X : Type 0} → Places X → List (Option X) → Places X
with_row places row = record { mark = places.mark; at = places.at; row = row }

-- The place at the index holds the last value written through r, and the others stay.
abbrev pub lends_place : (R : RattleType) → MutBor (Places R.Denot) → ℕ → MutBor R.Denot → Fml
lends_place R p index r = Lends (the_row R) R p r (λ w. with_row p.now (slice_set p.now.row index (Some w)))
