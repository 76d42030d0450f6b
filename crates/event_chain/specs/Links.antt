-- The links between slots, as their callers see them.
use Rattle.std.specs.Prelude.{ℕ, ◌<◌, List, Option, None, Some, length, get_or, slice_set}

-- For each slot the slot before it and the slot after it.
pub record Links : Type 0 where
  pub prevs : List (Option ℕ)
  pub nexts : List (Option ℕ)

-- Links by slot: those to the slots before, and those to the slots after.
abbrev pub links : List (Option ℕ) → List (Option ℕ) → Links
links prevs nexts = record { prevs = prevs; nexts = nexts }

-- The slot before this one.
abbrev pub prev_of : Links → ℕ → Option ℕ
prev_of l slot = get_or l.prevs slot None

-- The slot after this one.
abbrev pub next_of : Links → ℕ → Option ℕ
next_of l slot = get_or l.nexts slot None

-- The number is that of a slot, which has both links.
pub record IsSlot (l : Links) (slot : ℕ) : Type 0 where
  pub prev : slot < length l.prevs
  pub next : slot < length l.nexts

-- A link written at a slot, if there is one to write at.
abbrev pub written : List (Option ℕ) → Option ℕ → Option ℕ → List (Option ℕ)
written row None link = row
written row (Some slot) link = slice_set row slot link

-- The run from the first slot to the last put between two others.
abbrev pub linked_in : Links → Option ℕ → ℕ → ℕ → Option ℕ → Links
linked_in l before first last after = links (written (slice_set l.prevs first before) after (Some last)) (written (slice_set l.nexts last after) before (Some first))

-- The links with what is between two slots left out.
abbrev pub linked_out : Links → Option ℕ → Option ℕ → Links
linked_out l before after = links (written l.prevs after before) (written l.nexts before after)
