-- What chains keep.
use Rattle.std.{specs.Prelude.{◌≡◌, ℕ, ◌-◌, ◌/◌, ◌^◌, ◌≤◌, Bool, true, false, not, cond, ◌&&◌, List, Option, Some, None, is_some, T, length, slice_get, count_by, sum_by, ◌⊎◌}, specs.Str.bytes_eq, specs.Ordering.nat_cmp, specs.FinMap.{FinMap, is_sorted}}
use Rattle.std.specs.FinMap as finite
use Rattle.slot_arena.specs.Arena.{value_at, held_count}
use Rattle.ledger_model.{specs.declared.kind.Kind.Kind, specs.declared.kind.Kind.TheVariants.{Started, Updated, Ended}, specs.declared.reading.Direction.Direction, specs.Event.toward, specs.Deltas.first_reading, specs.Key.key_cmp, specs.Limits.Bounds, specs.Complete.kinds_of, specs.Content.{Entry, Stored, live_of}, specs.Evse.evse_of, specs.Gaps.numbers_of, specs.Step.readings_stored}
use Rattle.event_store.specs.Slots.{Held, Slots}
use Rattle.event_chain.{specs.Placed.Index, specs.declared.answers.TxStanding.TxStanding, specs.declared.row.TableRow.TableRow, specs.Table.{Table, TxRow, AreRising, AreApart, IsFresh, row_of, with_row}, specs.Flat.{EventPlace, place_of, stored_at, flat}}

-- The event is live.
abbrev pub is_live : Stored → Bool
is_live s = not s.voided

-- The event is live and has a reading of this direction.
abbrev pub is_carrier : Direction → Stored → Bool
is_carrier d s = not s.voided && is_some (first_reading (toward d s.event.readings))

-- The event is live and names an EVSE.
abbrev pub is_naming : Stored → Bool
is_naming s = not s.voided && is_some s.event.evse

-- The place, if its event passes a test.
abbrev pub chosen : (Stored → Bool) → List (Option Held) → Option ℕ → Option ℕ
chosen test slots None = None
chosen test slots (Some s) = cond (test (stored_at slots s)) (Some s) None

-- The ranks rise.
abbrev pub AreRanks : List EventPlace → Type 0
AreRanks es = T (is_sorted nat_cmp es)

-- An index of the places with events that pass a test.
pub record IsSub (test : Stored → Bool) (es : List EventPlace) (slots : List (Option Held)) (sub : List EventPlace) : Type 0 where
  pub rising : AreRanks sub
  pub each : (r : ℕ) → place_of r sub ≡ chosen test slots (place_of r es)

-- The transaction and the slot of a place.
pub record IsHome (rows : List TxRow) (slots : List (Option Held)) (r s : ℕ) : Type 0 where
  pub tx : List ℕ
  pub row : TableRow
  pub row_is : row_of tx rows ≡ Some row
  pub slot_is : r / 2 ^ 31 ≡ row.slot
  pub stored : Stored
  pub held_is : value_at slots s ≡ Some (r, stored)

-- A place of a transaction.
pub record HasPlace (es : List EventPlace) (slot : ℕ) : Type 0 where
  pub rank : ℕ
  pub place : ℕ
  pub found : place_of rank es ≡ Some place
  pub slot_is : rank / 2 ^ 31 ≡ slot

-- The stored events by their keys: each has its transaction and its slot, and each transaction has an event.
pub record IsKeyed (rows : List TxRow) (es : List EventPlace) (slots : List (Option Held)) : Type 0 where
  pub rising : AreRising rows
  pub apart : AreApart rows
  pub ranks : AreRanks es
  pub homes : (r s : ℕ) → place_of r es ≡ Some s → IsHome rows slots r s
  pub filled : (tx : List ℕ) (row : TableRow) → row_of tx rows ≡ Some row → HasPlace es row.slot

-- Whether the kind is Started or Ended.
abbrev pub is_end : Kind → Bool
is_end Started = true
is_end Updated = false
is_end Ended = true

-- Counts an event that is Started or Ended.
abbrev pub end_count : Kind → ℕ
end_count kind = cond (is_end kind) 1 0

-- Counts a live event of the transaction.
abbrev pub live_one : List ℕ → Entry → ℕ
live_one tx e = cond (bytes_eq tx e.0.tx && not e.1.voided) 1 0

-- Counts a live event of the transaction that is Started or Ended.
abbrev pub end_one : List ℕ → Entry → ℕ
end_one tx e = cond (bytes_eq tx e.0.tx && not e.1.voided && is_end e.1.event.kind) 1 0

-- The counts of a transaction.
pub record IsFigured (rows : List TxRow) (all : List Entry) (tx : List ℕ) (row : TableRow) : Type 0 where
  pub live : row.live ≡ sum_by (live_one tx) all
  pub ends : row.ends ≡ sum_by (end_one tx) all

-- The counts of all transactions.
abbrev pub AreFigured : List TxRow → List Entry → Type 0
AreFigured rows all = (tx : List ℕ) (row : TableRow) → row_of tx rows ≡ Some row → IsFigured rows all tx row

-- The indexes of the live events.
pub record AreIndexed (es : List EventPlace) (slots : List (Option Held)) (live : List EventPlace) (carriers : Direction → List EventPlace) (naming : List EventPlace) : Type 0 where
  pub lives : IsSub is_live es slots live
  pub carry : (d : Direction) → IsSub (is_carrier d) es slots (carriers d)
  pub names : IsSub is_naming es slots naming

-- The counts and the rooms.
pub record IsCounted (limits : Bounds) (transactions : ℕ) (slots : List (Option Held)) (readings room : ℕ) (es : List EventPlace) (all : List Entry) : Type 0 where
  pub all_are : length all ≡ length es
  pub held_are : held_count slots ≡ length es
  pub readings_are : readings ≡ readings_stored all
  pub transactions_are : transactions ≡ limits.transactions
  pub slots_are : length slots ≡ limits.events
  pub room_is : room ≡ limits.readings
  pub events_few : limits.events ≤ 65536

-- The room of the indexes.
pub record AreRoomy (events stored live : ℕ) (carriers : Direction → ℕ) (naming : ℕ) : Type 0 where
  pub for_stored : stored ≡ events
  pub for_live : live ≡ events
  pub for_carriers : (d : Direction) → carriers d ≡ events
  pub for_naming : naming ≡ events

-- What chains keep, part by part.
pub record IsChains (limits : Bounds) (table : Table) (store : Slots) (stored live : Index) (carriers : Direction → Index) (naming : Index) : Type 0 where
  pub keyed : IsKeyed table.rows stored.entries store.slots
  pub indexed : AreIndexed stored.entries store.slots live.entries (λ d. (carriers d).entries) naming.entries
  pub figured : AreFigured table.rows (flat table.rows stored.entries store.slots)
  pub counted : IsCounted limits table.capacity store.slots store.readings store.capacity stored.entries (flat table.rows stored.entries store.slots)
  pub roomy : AreRoomy limits.events stored.capacity live.capacity (λ d. (carriers d).capacity) naming.capacity

-- The stored events, by their keys.
abbrev pub events_of : Table → Slots → Index → FinMap key_cmp Stored
events_of table store stored = finite.from_sorted (flat table.rows stored.entries store.slots)

-- A transaction that was not there, with a slot of its own and no live event.
pub record IsNew (rows : List TxRow) (tx : List ℕ) (row : TableRow) : Type 0 where
  pub absent : row_of tx rows ≡ None
  pub fresh : IsFresh row.slot rows
  pub none_live : row.live ≡ 0
  pub no_ends : row.ends ≡ 0

-- A transaction with its row before and after, added if it was new.
pub record IsNamed (rows new : List TxRow) (tx : List ℕ) (row after : TableRow) : Type 0 where
  pub there : row_of tx new ≡ Some after
  pub same : after.slot ≡ row.slot
  pub others : (q : List ℕ) → (q ≡ tx → ⊥) → row_of q new ≡ row_of q rows
  pub known : (row_of tx rows ≡ Some row) ⊎ IsNew rows tx row

-- No place of the slot's transaction is left.
abbrev pub IsBare : List EventPlace → ℕ → Type 0
IsBare es slot = (r s : ℕ) → place_of r es ≡ Some s → r / 2 ^ 31 ≡ slot → ⊥

-- A transaction after one of its places went: it stays if it has another place, else it goes.
pub record IsLeft (rows new : List TxRow) (left : List EventPlace) (tx : List ℕ) (row : TableRow) : Type 0 where
  pub was : row_of tx rows ≡ Some row
  pub others : (q : List ℕ) → (q ≡ tx → ⊥) → row_of q new ≡ row_of q rows
  pub end : ((row_of tx new ≡ Some row) × HasPlace left row.slot) ⊎ ((row_of tx new ≡ None) × IsBare left row.slot)

-- A transaction that was there, or was added with a slot of its own and no live event.
abbrev pub IsEntered : List TxRow → List TxRow → List ℕ → TableRow → Type 0
IsEntered rows new tx row = ((row_of tx rows ≡ Some row) × (new ≡ rows)) ⊎ (IsNew rows tx row × (new ≡ with_row tx row rows))

-- The summary of a transaction's live events, among these events.
pub record IsTxStanding (tx : List ℕ) (es : List Entry) (s : TxStanding) : Type 0 where
  pub first : s.first ≡ slice_get (numbers_of tx es) 0
  pub last : s.last ≡ slice_get (numbers_of tx es) (length (numbers_of tx es) - 1)
  pub first_kind : s.first_kind ≡ slice_get (kinds_of tx es) 0
  pub last_kind : s.last_kind ≡ slice_get (kinds_of tx es) (length (kinds_of tx es) - 1)
  pub live : s.live ≡ length (live_of tx es)
  pub ends : s.ends ≡ count_by is_end (kinds_of tx es)
  pub evse : s.evse ≡ evse_of tx es
