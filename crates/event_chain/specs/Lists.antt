-- The live events in linked lists over their slots, one for each transaction.
use Rattle.std.specs.Prelude.{◌≡◌, ℕ, List, Option, Some, length, map, slice_get, option_map}
use Rattle.key_index.{specs.declared.filed.Mark.TheVariants.Live, specs.Entries.{last_of, AreRising}}
use Rattle.key_index.specs.Index as keyed
use Rattle.event_chain.{specs.Placed.{Index, marked_index}, specs.Links.Links, specs.LinkChain.IsLinked, specs.Flat.{EventPlace, place_of, segment}, specs.Edits.{places_before, places_behind}}

-- The slot of a place.
abbrev pub slot_in : EventPlace → ℕ
slot_in e = e.1

-- The slots of a transaction's places, in order.
abbrev pub slots_of : ℕ → List EventPlace → List ℕ
slots_of t es = map slot_in (segment t es)

-- The slot in front of a rank, of its transaction.
abbrev pub slot_before : ℕ → List EventPlace → Option ℕ
slot_before r es = option_map slot_in (last_of (places_before r es))

-- The slot behind it.
abbrev pub slot_after : ℕ → List EventPlace → Option ℕ
slot_after r es = option_map slot_in (slice_get (places_behind r es) 0)

-- A rank that has the slot.
pub record HasRank (es : List EventPlace) (slot : ℕ) : Type 0 where
  pub rank : ℕ
  pub found : place_of rank es ≡ Some slot

-- No slot is under two ranks.
abbrev pub AreOwn : List EventPlace → Type 0
AreOwn es = (q r s : ℕ) → place_of q es ≡ Some s → place_of r es ≡ Some s → q ≡ r

-- The slots of each transaction's places are a linked list, in order.
pub record AreListed (live : Index) (l : Links) : Type 0 where
  pub prevs : length l.prevs ≡ live.capacity
  pub nexts : length l.nexts ≡ live.capacity
  pub own : AreOwn live.entries
  pub lists : (t : ℕ) → IsLinked l (slots_of t live.entries)

-- The keys of an index rise, and the slots of its live places are linked in lists.
pub record ArePlaced (i : keyed.Index ℕ) (l : Links) : Type 0 where
  pub rising : AreRising i.entries
  pub listed : AreListed (marked_index (Some Live) i) l
