-- What a written link changes, and what it leaves.
use Rattle.std.{proofs.lemmas.Grind.common_steps, proofs.Common.{arith, ◌≡◌, ◌≢◌, ℕ, ◌<◌, List, [], ◌∷◌, Option, Some, None, length, get_or, get_or-set_same}}
use Rattle.event_chain.{specs.Links.written, specs.LinkChain.{last_or, head_or, IsBeside, AreElsewhere}}
use Rattle.slot_arena.specs.Free.{IsApart}

-- The slot is another one than this, where this is one.
abbrev pub IsOther : ℕ → Option ℕ → Type 0
IsOther s None = Unit {0}
IsOther s (Some t) = s ≢ t

-- A link written elsewhere leaves that of a slot.
pub written_other : (row : List (Option ℕ)) (to : Option ℕ) (link : Option ℕ) (s : ℕ) → IsOther s to → get_or (written row to link) s None ≡ get_or row s None
written_other row to link s other = grind (arith, common_steps)

-- A link written at a slot is read there.
pub written_same : (row : List (Option ℕ)) (s : ℕ) (link : Option ℕ) → s < length row → get_or (written row (Some s) link) s None ≡ link
written_same row s link lt = get_or-set_same row s link None lt

-- There are as many links as before.
pub length-written : (row : List (Option ℕ)) (to : Option ℕ) (link : Option ℕ) → length (written row to link) ≡ length row
length-written row to link = grind (arith, common_steps)

-- A slot is another one than the last of a list that it is absent from.
pub last_other : (s : ℕ) (before : Option ℕ) (ts : List ℕ) → IsOther s before → IsApart s ts → IsOther s (last_or before ts)
last_other s before [] other absent = other
last_other s before (t ∷ ts) other absent = last_other s (Some t) ts absent.0 absent.1

-- The last slot of a list that is elsewhere is absent.
pub last_beside : (before : Option ℕ) (ss ts : List ℕ) → IsBeside before ts → AreElsewhere ss ts → IsBeside (last_or before ss) ts
last_beside before [] ts beside elsewhere = beside
last_beside before (s ∷ ss) ts beside elsewhere = last_beside (Some s) ss ts elsewhere.0 elsewhere.1

-- The first slot of a list that is elsewhere is absent.
pub head_beside : (ss ts : List ℕ) → AreElsewhere ss ts → IsBeside (head_or None ss) ts
head_beside ss ts elsewhere = grind (arith, common_steps)

-- What is absent from a list is another slot than each of it.
pub beside_parts : (to : Option ℕ) (t : ℕ) (ts : List ℕ) → IsBeside to (t ∷ ts) → IsOther t to × IsBeside to ts
beside_parts to t ts beside = grind (arith, common_steps)
