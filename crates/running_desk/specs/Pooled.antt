-- A pool of passes.
use Rattle.std.{specs.Prelude.{◌≡◌, ℕ, ◌+◌, List, [], ◌∷◌, ◌++◌, Option, None, Some, slice_get}, specs.List.remove, specs.declared.alloc.AllocError.AllocError, specs.declared.result.Result.Result, specs.declared.result.Result.TheVariants.{Ok, Err}}
use Rattle.site_desk.specs.Cell.{Held}

-- A pool: the passes in it, and how many more have room.
pub record Pooled : Type 0 where
  pub passes : List Held
  pub room : ℕ

-- There is room for one more pass; or nothing changed.
abbrev pub IsReserved : Pooled → Result (Unit {0}) AllocError → Pooled → Type 0
IsReserved before (Ok _) now = now ≡ record before { room = before.room + 1 }
IsReserved before (Err _) now = now ≡ before

-- Nothing was taken; or the pass at this place was taken, which leaves room, and the others are there as
-- before.
abbrev pub IsTaken : Option ℕ → Pooled → Option Held → Pooled → Type 0
IsTaken None before taken now = (taken ≡ None) × (now ≡ before)
IsTaken (Some place) before taken now =
    (taken ≡ slice_get before.passes place) × (now ≡ record { passes = remove before.passes place; room = before.room + 1 })

-- The pass is behind the others; or it came back, since there was no room, and nothing changed.
abbrev pub IsLaid : Held → Pooled → Result (Unit {0}) Held → Pooled → Type 0
IsLaid pass before (Ok _) now = (before.room ≡ now.room + 1) × (now.passes ≡ before.passes ++ pass ∷ [])
IsLaid pass before (Err back) now = (back ≡ pass) × (before.room ≡ 0) × (now ≡ before)
