-- How the readings of an event are chained.
use Rattle.std.specs.Prelude.{◌≡◌, ℕ, zero, suc, true, List, [], ◌∷◌, Option, Some, None, is_some}
use Rattle.slot_arena.specs.Arena.{value_at}
use Rattle.ledger_model.{specs.declared.reading.Direction.TheVariants.Import, specs.Event.MeterReading, specs.Deltas.last_reading}
use Rattle.event_store.specs.declared.links.ReadingLink.{ReadingLink}

-- A value in place of a reading that is not there.
abbrev pub no_reading : MeterReading
no_reading = record { moment = 0; mwh = 0; direction = Import }

-- The reading of a link.
abbrev pub reading_of : Option ReadingLink → MeterReading
reading_of None = no_reading
reading_of (Some l) = l.reading

-- The slot of the next link.
abbrev pub next_of : Option ReadingLink → ℕ
next_of None = 0
next_of (Some l) = l.next

-- The event that a link belongs to.
abbrev pub owner_of : Option ReadingLink → ℕ
owner_of None = 0
owner_of (Some l) = l.owner

-- How many links there are from this one to the chain's end.
abbrev pub left_of : Option ReadingLink → ℕ
left_of None = 0
left_of (Some l) = l.left

-- So many readings, from the first slot on.
abbrev pub chain : List (Option ReadingLink) → ℕ → ℕ → List MeterReading
chain links first zero = []
chain links first (suc n) = reading_of (value_at links first) ∷ chain links (next_of (value_at links first)) n

-- A link is there, of this event, and has so many links to the chain's end.
pub record IsLink (link : Option ReadingLink) (owner left : ℕ) : Type 0 where
  pub there : is_some link ≡ true
  pub owner_is : owner_of link ≡ owner
  pub left_is : left_of link ≡ left

-- From the first slot on there are so many links of this event.
abbrev pub IsRun : List (Option ReadingLink) → ℕ → ℕ → ℕ → Type 0
IsRun links owner first zero = Unit {0}
IsRun links owner first (suc n) = IsLink (value_at links first) owner (suc n) × IsRun links owner (next_of (value_at links first)) n

-- If there are so many links of this event from the first slot on, the last of them is in the last slot.
abbrev pub IsLast : List (Option ReadingLink) → ℕ → ℕ → ℕ → ℕ → Type 0
IsLast links owner first zero last = Unit {0}
IsLast links owner first (suc n) last = IsLink (value_at links last) owner 1 × (last_reading (chain links first (suc n)) ≡ Some (reading_of (value_at links last)))

-- The readings of this event: so many links from the first slot to the last one.
pub record AreReadings (links : List (Option ReadingLink)) (owner first count last : ℕ) : Type 0 where
  pub run : IsRun links owner first count
  pub ends : IsLast links owner first count last

-- Each link that was there is still there.
abbrev pub AreKept : List (Option ReadingLink) → List (Option ReadingLink) → Type 0
AreKept old new = (i : ℕ) → is_some (value_at old i) ≡ true → value_at new i ≡ value_at old i

-- Each link of another event is still there, and none is new.
abbrev pub AreOthersKept : ℕ → List (Option ReadingLink) → List (Option ReadingLink) → Type 0
AreOthersKept owner old new = (i : ℕ) → is_some (value_at old i) ≡ true → (owner_of (value_at old i) ≡ owner → ⊥) → value_at new i ≡ value_at old i
