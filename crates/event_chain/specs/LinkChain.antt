-- Lists of slots that links hold together.
use Rattle.std.specs.Prelude.{◌≡◌, ℕ, List, [], ◌∷◌, Option, None, Some}
use Rattle.slot_arena.specs.Free.{IsApart, AreApart}
use Rattle.event_chain.specs.Links.{Links, prev_of, next_of, IsSlot}

-- The first slot of a list, or what comes after the list if it has none.
abbrev pub head_or : Option ℕ → List ℕ → Option ℕ
head_or after [] = after
head_or after (s ∷ ss) = Some s

-- The last slot of a list, or what comes before the list if it has none.
abbrev pub last_or : Option ℕ → List ℕ → Option ℕ
last_or before [] = before
last_or before (s ∷ ss) = last_or (Some s) ss

-- From what comes before the list to what comes after it, each slot is linked to the one on either side.
abbrev pub IsChain : Links → Option ℕ → List ℕ → Option ℕ → Type 0
IsChain l before [] after = Unit {0}
IsChain l before (s ∷ ss) after = (prev_of l s ≡ before) × (next_of l s ≡ head_or after ss) × IsChain l (Some s) ss after

-- The slot, if there is one, is not in the list.
abbrev pub IsBeside : Option ℕ → List ℕ → Type 0
IsBeside None ts = Unit {0}
IsBeside (Some s) ts = IsApart s ts

-- No slot of the first list is in the second.
abbrev pub AreElsewhere : List ℕ → List ℕ → Type 0
AreElsewhere [] ts = Unit {0}
AreElsewhere (s ∷ ss) ts = IsApart s ts × AreElsewhere ss ts

-- Each number of the list is that of a slot.
abbrev pub AreSlots : Links → List ℕ → Type 0
AreSlots l [] = Unit {0}
AreSlots l (s ∷ ss) = IsSlot l s × AreSlots l ss

-- A whole list: links hold its slots together, each is a slot, and none is in it twice.
pub record IsLinked (l : Links) (ss : List ℕ) : Type 0 where
  pub chain : IsChain l None ss None
  pub apart : AreApart ss
  pub slots : AreSlots l ss

-- A run of slots: its own links hold it together, whatever its two ends are linked to.
pub record IsRun (l : Links) (ss : List ℕ) : Type 0 where
  pub before : Option ℕ
  pub after : Option ℕ
  pub chain : IsChain l before ss after
  pub apart : AreApart ss
  pub slots : AreSlots l ss
